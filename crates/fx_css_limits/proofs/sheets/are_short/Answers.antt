-- one more keeps within the limits
use Rattle.std.proofs.Common.{◌≤◌, refl, sym, subst}
use Rattle.std.specs.Prelude.{All, IsTrue}
use Rattle.std.proofs.lemmas.List.{take_all}
use Rattle.std.proofs.lemmas.List.Elements.{All-more}
use Rattle.fx_css_types.specs.declared.selectors.Selector.{Selector}
use Rattle.fx_css_types.specs.Specificity.{part_count}
use Rattle.fx_css_limits.specs.Parts.{parts_of}
use Rattle.fx_css_limits.proofs.sheets.are_short.Goals as goal

pub loop-selector-preserved : goal.loop-selector-preserved
loop-selector-preserved c =
    let P : Selector → Type 0 = λ (one : Selector). part_count one ≤ 4194304 in
    let kept : P c.selector-item.result = subst (λ cs. parts_of cs ≤ 4194304) c.as_slice.ensures (c.is_short.ensures.0 (subst IsTrue (sym c.if-not-is_short.false) refl)) in
    All-more P c.args.selectors.now c.loop-selector.selector-index c.selector-item.result c.loop-selector-test.true c.loop-selector.invariant (subst P c.selector-item.is kept)

pub returns : goal.returns
returns c =
    let P : Selector → Type 0 = λ (one : Selector). part_count one ≤ 4194304 in
    (λ _. subst (All P) (take_all c.loop-selector.selector-index c.args.selectors.now c.loop-selector-test.false) c.loop-selector.invariant, λ _. refl)
