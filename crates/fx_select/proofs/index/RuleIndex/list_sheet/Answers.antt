use Rattle.std.proofs.Common.{◌++◌, ◌+◌, ℕ, List, take, ◌∙◌, ap}
use Rattle.fx_css_types.specs.declared.sheets.Rule.{Rule}
use Rattle.fx_css_types.specs.declared.selectors.Selector.{Selector}
use Rattle.fx_select.specs.declared.lists.SelectorAt.{SelectorAt}
use Rattle.fx_select.specs.Keys.{Key}
use Rattle.fx_select.specs.Listing.{listed, selector_entries, sheet_entries, under_key}
use Rattle.fx_select.proofs.ListingLemmas.{each-more, each-none, listed-more, listed-none}
use Rattle.fx_select.proofs.index.RuleIndex.list_sheet.Goals as goal

give : ℕ → ℕ → Rule → List (Key × SelectorAt)
give sheet place r = selector_entries sheet place r.selectors

pub loop-place-init : goal.loop-place-init
unfolding give
loop-place-init c = λ key. listed-none key (listed c.args.self.now key) _ (each-none (give c.args.sheet))

pub loop-place-preserved : goal.loop-place-preserved
unfolding give
loop-place-preserved c = λ key.
    let r = c.index-rules-place.result in
    listed-more key (listed c.args.self.now key) (listed c.loop-place.self key) (listed c.list_selectors.new.self key)
    (sheet_entries c.args.sheet (take c.loop-place.place c.args.rules.now))
    (selector_entries c.args.sheet c.loop-place.place r.selectors)
    (sheet_entries c.args.sheet (take (c.loop-place.place + 1) c.args.rules.now))
    (c.in_ok-list_selectors.ensures key
    ∙ ap (λ (ss : List Selector). listed c.loop-place.self key ++ under_key key (selector_entries c.args.sheet c.loop-place.place ss)) c.as_slice.ensures)
    (c.loop-place.invariant key)
    (each-more (give c.args.sheet) c.args.rules.now c.loop-place.place r c.loop-place-test.true c.index-rules-place.is)
