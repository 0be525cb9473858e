use Rattle.std.proofs.Common.{List, sym, subst}
use Rattle.std.proofs.lemmas.List.Elements.{All-push}
use Rattle.fx_css_types.specs.declared.sheets.SheetAt.{SheetAt}
use Rattle.fx_css_types.specs.Limits.{AreWithinLimits, IsWithinLimits}
use Rattle.style_cases.proofs.scenes.list.Goals as goal

pub returns : goal.returns
returns c =
    subst (λ (l : List SheetAt). AreWithinLimits l) (sym c.in_ok-push.ensures.items)
    (All-push (λ (s : SheetAt). IsWithinLimits s.sheet) c.args.sheets.now.items c.in_ok-sheet.sheet c.requires
    c.in_ok-sheet.ensures)
