use Rattle.std.proofs.Common.{◌++◌, ◌+◌, ℕ, List, take, sym, ◌∙◌, ap}
use Rattle.fx_css_types.specs.declared.sheets.Rule.{Rule}
use Rattle.fx_css_types.specs.declared.sheets.SheetAt.{SheetAt}
use Rattle.fx_select.specs.declared.lists.SelectorAt.{SelectorAt}
use Rattle.fx_select.specs.Keys.{Key}
use Rattle.fx_select.specs.Listing.{entries, listed, sheet_entries, under_key}
use Rattle.fx_select.proofs.ListingLemmas.{each-more, each-none, listed-more_of, under_key-none}
use Rattle.fx_select.proofs.index.RuleIndex.build.Goals as goal

give : ℕ → SheetAt → List (Key × SelectorAt)
give place s = sheet_entries place s.sheet.rules

pub loop-place-init : goal.loop-place-init
unfolding give
loop-place-init c = λ key.
    c.empty-index.ensures key ∙ sym (ap (under_key key) (each-none give) ∙ under_key-none key)

pub loop-place-preserved : goal.loop-place-preserved
unfolding give
loop-place-preserved c = λ key.
    let s = c.index-sheets-place.result in
    listed-more_of key (listed c.loop-place.index key) (listed c.list_sheet.new.self key)
    (entries (take c.loop-place.place c.args.sheets.now))
    (sheet_entries c.loop-place.place s.sheet.rules)
    (entries (take (c.loop-place.place + 1) c.args.sheets.now))
    (c.in_ok-list_sheet.ensures key
    ∙ ap (λ (rs : List Rule). listed c.loop-place.index key ++ under_key key (sheet_entries c.loop-place.place rs)) c.as_slice.ensures)
    (c.loop-place.invariant key)
    (each-more give c.args.sheets.now c.loop-place.place s c.loop-place-test.true c.index-sheets-place.is)
