-- The position is that of the number.
use Rattle.std.proofs.Common.{sym, subst}
use Rattle.fx_css.specs.declared.errors.SheetError.TheVariants.{Limit}
use Rattle.fx_css.specs.Sheets.{IsToldStop}
use Rattle.fx_css.proofs.sheets.told_stop.Goals as goal

pub returns-in-Past : goal.returns-in-Past
returns-in-Past c = λ marks m.
    subst (λ s. IsToldStop marks s (Limit c.position.result)) (sym c.in-Past.is) (sym (c.position.ensures marks m))
