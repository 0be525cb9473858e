use Rattle.std.proofs.Common.{◌+◌, ◌∷◌, [], ℕ, List, Some, take, ◌∙◌}
use Rattle.fx_css_types.specs.declared.selectors.Selector.{Selector}
use Rattle.fx_select.specs.declared.lists.SelectorAt.{SelectorAt}
use Rattle.fx_select.specs.Keys.{Key, key_of}
use Rattle.fx_select.specs.Listing.{listed, selector_entries}
use Rattle.fx_select.proofs.ListingLemmas.{each-more, each-none, listed-more, listed-none, under_key-one}
use Rattle.fx_select.proofs.index.RuleIndex.list_selectors.Goals as goal

give : ℕ → ℕ → ℕ → Selector → List (Key × SelectorAt)
give sheet rule place s = (key_of s, record { sheet = sheet; rule = rule; selector = Some place }) ∷ []

pub loop-place-init : goal.loop-place-init
unfolding give
loop-place-init c = λ key. listed-none key (listed c.args.self.now key) _ (each-none (give c.args.sheet c.args.rule))

pub loop-place-preserved : goal.loop-place-preserved
unfolding give
loop-place-preserved c = λ key.
    let s = c.index-selectors-place.result in
    let at : SelectorAt = record { sheet = c.args.sheet; rule = c.args.rule; selector = Some c.loop-place.place } in
    listed-more key (listed c.args.self.now key) (listed c.loop-place.self key) (listed c.list_selector.new.self key)
    (selector_entries c.args.sheet c.args.rule (take c.loop-place.place c.args.selectors.now))
    ((key_of s, at) ∷ [])
    (selector_entries c.args.sheet c.args.rule (take (c.loop-place.place + 1) c.args.selectors.now))
    (c.in_ok-list_selector.ensures key ∙ under_key-one key (key_of s) at (listed c.loop-place.self key))
    (c.loop-place.invariant key)
    (each-more (give c.args.sheet c.args.rule) c.args.selectors.now c.loop-place.place s c.loop-place-test.true c.index-selectors-place.is)
