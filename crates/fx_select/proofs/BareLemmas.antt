-- Sheets of rules without selectors leave what an index lists as it is.
use Rattle.std.proofs.Common.{◌≡◌, ℕ, ◌+◌, List, [], ◌∷◌, ◌++◌, refl, sym, ◌∙◌, ap}
use Rattle.std.specs.List.{All, enumerate_from, flat_map}
use Rattle.std.proofs.lemmas.List.Elements.{All-head, All-tail}
use Rattle.fx_css_types.specs.declared.sheets.Rule.{Rule}
use Rattle.fx_css_types.specs.declared.sheets.SheetAt.{SheetAt}
use Rattle.fx_select.specs.declared.lists.SelectorAt.{SelectorAt}
use Rattle.fx_select.specs.Keys.{Key}
use Rattle.fx_select.specs.Listing.{IsBare, IsListing, Listing, each, entries, selector_entries, sheet_entries, under_key}
use Rattle.fx_select.proofs.ListingLemmas.{each-none}

numbered-unlisted : (sheet n : ℕ) (rules : List Rule) → All (λ (r : Rule). r.selectors ≡ []) rules
    → flat_map (λ (e : ℕ × Rule). selector_entries sheet e.0 e.1.selectors) (enumerate_from n rules) ≡ []
numbered-unlisted sheet n [] bare = refl
numbered-unlisted sheet n (r ∷ rules) bare =
    let none : selector_entries sheet n r.selectors ≡ [] =
    ap (selector_entries sheet n) (All-head (λ (r : Rule). r.selectors ≡ []) r rules bare) ∙ each-none _ in
    ap (λ (l : List (Key × SelectorAt)). l ++ flat_map (λ (e : ℕ × Rule). selector_entries sheet e.0 e.1.selectors) (enumerate_from (n + 1) rules)) none
    ∙ numbered-unlisted sheet (n + 1) rules (All-tail (λ (r : Rule). r.selectors ≡ []) r rules bare)

unlisted : (n : ℕ) (s : SheetAt) → IsBare s → sheet_entries n s.sheet.rules ≡ []
unfolding each
unlisted n s bare = numbered-unlisted n 0 s.sheet.rules bare

abbrev entries_from : ℕ → List SheetAt → List (Key × SelectorAt)
entries_from n sheets = flat_map (λ (e : ℕ × SheetAt). sheet_entries e.0 e.1.sheet.rules) (enumerate_from n sheets)

entries-same : (n : ℕ) (before after : List SheetAt) (old new : SheetAt) → IsBare old → IsBare new
    → entries_from n (before ++ old ∷ after) ≡ entries_from n (before ++ new ∷ after)
entries-same n [] after old new was is =
    ap (λ (l : List (Key × SelectorAt)). l ++ entries_from (n + 1) after) (unlisted n old was ∙ sym (unlisted n new is))
entries-same n (first ∷ before) after old new was is =
    ap (λ (l : List (Key × SelectorAt)). sheet_entries n first.sheet.rules ++ l) (entries-same (n + 1) before after old new was is)

all-same : (before after : List SheetAt) (old new : SheetAt) → IsBare old → IsBare new → entries (before ++ old ∷ after) ≡ entries (before ++ new ∷ after)
unfolding each
all-same before after old new was is = entries-same 0 before after old new was is

pub listing-stays : (before after : List SheetAt) (old new : SheetAt) (listing : Listing) → IsBare old → IsBare new
    → IsListing (before ++ old ∷ after) listing → IsListing (before ++ new ∷ after) listing
listing-stays before after old new listing was is listed_is = λ key. listed_is key ∙ ap (under_key key) (all-same before after old new was is)
