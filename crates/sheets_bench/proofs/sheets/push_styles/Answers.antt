use Rattle.std.proofs.Common.{List, sym, subst}
use Rattle.std.proofs.lemmas.List.Elements.{All-push}
use Rattle.fx_css_types.specs.declared.sheets.SheetAt.{SheetAt}
use Rattle.fx_css_types.specs.Limits.{AreWithinLimits, IsWithinLimits}
use Rattle.sheets_bench.proofs.sheets.push_styles.Goals as goal

pub loop-preserved : goal.loop-preserved
loop-preserved c =
    subst (λ (l : List SheetAt). AreWithinLimits l) (sym c.in_ok-push.ensures.items)
    (All-push (λ (s : SheetAt). IsWithinLimits s.sheet) c.loop.sheets.items c.in_ok-style.field-0 c.loop.invariant c.in_ok-style.ensures)
