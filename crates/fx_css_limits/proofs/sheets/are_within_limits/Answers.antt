-- one more keeps within the limits
use Rattle.std.proofs.Common.{refl, sym, subst}
use Rattle.std.specs.Prelude.{All, IsTrue}
use Rattle.std.proofs.lemmas.List.{take_all}
use Rattle.std.proofs.lemmas.List.Elements.{All-more}
use Rattle.fx_css_types.specs.declared.sheets.SheetAt.{SheetAt}
use Rattle.fx_css_types.specs.Limits.{IsWithinLimits}
use Rattle.fx_css_limits.proofs.sheets.are_within_limits.Goals as goal

pub loop-sheet-preserved : goal.loop-sheet-preserved
loop-sheet-preserved c =
    let P : SheetAt → Type 0 = λ (one : SheetAt). IsWithinLimits one.sheet in
    let kept : P c.sheet-item.result = c.is_within_limits.ensures.0 (subst IsTrue (sym c.if-not-is_within_limits.false) refl) in
    All-more P c.args.sheets.now c.loop-sheet.sheet-index c.sheet-item.result c.loop-sheet-test.true c.loop-sheet.invariant (subst P c.sheet-item.is kept)

pub returns : goal.returns
returns c =
    let P : SheetAt → Type 0 = λ (one : SheetAt). IsWithinLimits one.sheet in
    (λ _. subst (All P) (take_all c.loop-sheet.sheet-index c.args.sheets.now c.loop-sheet-test.false) c.loop-sheet.invariant, λ _. refl)
