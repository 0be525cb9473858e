-- one more has few compounds
use Rattle.std.proofs.Common.{◌≤◌, length, refl, sym, subst}
use Rattle.std.specs.Prelude.{All, IsTrue}
use Rattle.std.proofs.lemmas.List.{take_all}
use Rattle.std.proofs.lemmas.List.Elements.{All-more}
use Rattle.fx_css_types.specs.declared.selectors.Selector.{Selector}
use Rattle.fx_css_limits.proofs.sheets.have_few_compounds.Goals as goal

pub loop-selector-preserved : goal.loop-selector-preserved
loop-selector-preserved c =
    let P : Selector → Type 0 = λ (one : Selector). length one.compounds ≤ 16 in
    let few : P c.selector-item.result = c.has_few_compounds.ensures.0 (subst IsTrue (sym c.if-not-has_few_compounds.false) refl) in
    All-more P c.args.selectors.now c.loop-selector.selector-index c.selector-item.result c.loop-selector-test.true c.loop-selector.invariant (subst P c.selector-item.is few)

pub returns : goal.returns
returns c =
    let P : Selector → Type 0 = λ (one : Selector). length one.compounds ≤ 16 in
    (λ _. subst (All P) (take_all c.loop-selector.selector-index c.args.selectors.now c.loop-selector-test.false) c.loop-selector.invariant, λ _. refl)
