-- The rules of a sheet as its marks are read: what stands first says what is cut off, and each piece is judged by
-- itself.
-- What is no rule is dropped with a warning at its first mark that is not white. Marks are told by their numbers.
use Rattle.std.specs.Prelude.{◌≡◌, ◌≤◌, ℕ, Bool, true, false, ◌||◌, List, [], ◌∷◌, ◌++◌, map, suc, Option, Some, None, count_by, nat_le, if◌then◌else◌}
use Rattle.std.specs.List.{list_any, before_first, after_first}
use Rattle.std.specs.Option.{option_to_list}
use Rattle.fx_text.specs.Characters.{commercial_at, left_brace, right_brace, semicolon}
use Rattle.fx_css_types.specs.declared.sheets.Rule.{Rule}
use Rattle.fx_css_parts.specs.Parts.{selectors_at}
use Rattle.fx_css_parts.specs.declared.Selectors.{Selectors}
use Rattle.fx_css.specs.declared.parts.Numbered.{Numbered}
use Rattle.fx_css.specs.Numbered.{bytes_of, is_sign, is_white}
use Rattle.fx_css.specs.Pieces.{number_at, kept_in, warnings_in, past_declarations}

abbrev pub is_at : Numbered → Bool
is_at m = is_sign commercial_at m

abbrev pub is_open : Numbered → Bool
is_open m = is_sign left_brace m

abbrev pub is_close : Numbered → Bool
is_close m = is_sign right_brace m

abbrev pub is_semicolon : Numbered → Bool
is_semicolon m = is_sign semicolon m

-- the selectors that these marks are
unfoldable pub selected : List Numbered → Option Selectors
selected ms = selectors_at (bytes_of ms)

-- a kept rule, the number of its first mark, and where in it, in their order, begins what is past a limit
pub record Reading : Type 0 where
  pub rule : Rule
  pub start : ℕ
  pub past : List ℕ

unfoldable pub reading_of : ℕ → List Numbered → Selectors → List Numbered → Reading
reading_of start selectors s body = record {
  rule = record { selectors = s.selectors; declarations = map (λ k. k.declaration) (kept_in body) };
  start = start;
  past = option_to_list (number_at selectors s.past) ++ past_declarations 0 (kept_in body);
}

-- where, in their order, rules and what is in them past a limit begin, where n rules stand before these
abbrev pub past_rules : ℕ → List Reading → List ℕ
past_rules n [] = []
past_rules n (r ∷ rs) = (if nat_le 4096 n then r.start ∷ [] else []) ++ (r.past ++ past_rules (suc n) rs)

-- no front of the marks closes more blocks than it opens
abbrev pub IsOpen : List Numbered → Type 0
IsOpen ms = (front rest : List Numbered) → ms ≡ front ++ rest → count_by is_close front ≤ count_by is_open front

-- the marks in and behind a block that is open before them, and those behind its end: the `}` before which it closes as
-- many as it opens
pub data Block : List Numbered → List Numbered → Type 0 where
  Closed : {ms rest : List Numbered} (inside : List Numbered) (closing : Numbered) → ms ≡ inside ++ (closing ∷ rest)
      → is_close closing ≡ true → IsOpen inside → count_by is_close inside ≡ count_by is_open inside → Block ms rest
  Unclosed : {ms : List Numbered} → IsOpen ms → Block ms []

-- a `;` or a block ends an at-rule
abbrev pub ends_prelude : Numbered → Bool
ends_prelude m = is_semicolon m || is_open m

-- the marks behind an `@`, and those behind its at-rule
pub data AtRule : List Numbered → List Numbered → Type 0 where
  Statement : {ms rest : List Numbered} (prelude : List Numbered) (closing : Numbered)
      → ms ≡ prelude ++ (closing ∷ rest) → list_any ends_prelude prelude ≡ false → is_semicolon closing ≡ true
      → AtRule ms rest
  WithBlock : {ms rest : List Numbered} (prelude : List Numbered) (opening : Numbered) (inside : List Numbered)
      → ms ≡ prelude ++ (opening ∷ inside) → list_any ends_prelude prelude ≡ false → is_open opening ≡ true
      → Block inside rest → AtRule ms rest
  Unended : {ms : List Numbered} → list_any ends_prelude ms ≡ false → AtRule ms []

-- the rules that marks are read as, and where begins what is dropped: by white, an at-rule, marks without a block, a
-- rule, and a block behind what is no selector
pub data Reads : List Numbered → List Reading → List ℕ → Type 0 where
  Ended : Reads [] [] []
  White : {ms : List Numbered} {rs : List Reading} {ws : List ℕ} (m : Numbered) → is_white m ≡ true → Reads ms rs ws
      → Reads (m ∷ ms) rs ws
  At : {ms : List Numbered} {rs : List Reading} {ws : List ℕ} (m : Numbered) (rest : List Numbered)
      → is_white m ≡ false → is_at m ≡ true → AtRule ms rest → Reads rest rs ws → Reads (m ∷ ms) rs (m.number ∷ ws)
  Leftover : {ms : List Numbered} (m : Numbered) → is_white m ≡ false → is_at m ≡ false
      → list_any is_open (m ∷ ms) ≡ false → Reads (m ∷ ms) [] (m.number ∷ [])
  Kept : {ms : List Numbered} {rs : List Reading} {ws : List ℕ} (m : Numbered) (s : Selectors)
      → is_white m ≡ false → is_at m ≡ false → list_any is_open (m ∷ ms) ≡ true
      → selected (before_first is_open (m ∷ ms)) ≡ Some s
      → Reads (after_first is_close (after_first is_open (m ∷ ms))) rs ws
      → Reads (m ∷ ms)
      (reading_of m.number (before_first is_open (m ∷ ms)) s
      (before_first is_close (after_first is_open (m ∷ ms))) ∷ rs)
      (warnings_in (before_first is_close (after_first is_open (m ∷ ms))) ++ ws)
  Dropped : {ms : List Numbered} {rs : List Reading} {ws : List ℕ} (m : Numbered) (rest : List Numbered)
      → is_white m ≡ false → is_at m ≡ false → list_any is_open (m ∷ ms) ≡ true
      → selected (before_first is_open (m ∷ ms)) ≡ None
      → Block (after_first is_open (m ∷ ms)) rest → Reads rest rs ws → Reads (m ∷ ms) rs (m.number ∷ ws)
