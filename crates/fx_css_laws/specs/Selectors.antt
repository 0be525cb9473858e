-- Where selectors are first past a limit: what the text before that place spells.
-- Cited by src/limits.rt.
use Rattle.std.specs.Prelude.{◌≡◌, ◌<◌, ◌≤◌, ℕ, ◌+◌, false, All, List, [], ◌∷◌, ◌++◌, length, take, IsTrue}
use Rattle.std.specs.List.{list_all}
use Rattle.fx_text.specs.Characters.{comma}
use Rattle.fx_text.specs.Classes.{is_white}
use Rattle.fx_css_types.specs.declared.selectors.Combinator.{Combinator}
use Rattle.fx_css_types.specs.declared.selectors.Selector.{Selector}
use Rattle.fx_css_parts.specs.Selecting.{IsCombinator, IsSelectors, is_gap, selector}

-- What stands between the text of the selectors that are kept and the next part: a comma and white where as many
-- selectors as may be stand before it, and a combinator where as many compounds of one do.
pub data IsBetween (limit : ℕ) (between : List ℕ) (kept all : List Selector) : Type 0 where
  at_selector : (white : List ℕ) → between ≡ comma ∷ white → IsTrue (list_all is_white white)
      → kept ≡ take limit all → limit < length all → IsBetween limit between kept all
  at_compound : (done others : List Selector) (s : Selector) (combinator : Combinator) → all ≡ done ++ (s ∷ others)
      → length done < limit → IsCombinator between combinator
      → kept ≡ done ++ (selector (take 16 s.compounds) ∷ []) → 16 < length s.compounds
      → IsBetween limit between kept all

-- Of selectors that a text spells, one past the limit of selectors or of compounds begins at a place: the text before
-- it spells selectors within both limits, and with the next part they are past one.
pub record IsFirstPast (limit : ℕ) (text : List ℕ) (all : List Selector) (at : ℕ) : Type 0 where
  pub front : List ℕ
  pub between : List ℕ
  pub first : ℕ
  pub others : List ℕ
  pub kept : List Selector
  pub cut : text ≡ front ++ (between ++ (first ∷ others))
  pub spells : IsSelectors front kept
  pub few : length kept ≤ limit
  pub short : All (λ s. length s.compounds ≤ 16) kept
  pub is_next : IsBetween limit between kept all
  pub shown : is_gap first ≡ false
  pub place : at ≡ length front + length between
