-- The nodes of an update apart: those that keep their styles, those that get lengths where they stand, and those that
-- are styled anew.
use Rattle.std.specs.Prelude.{ℕ, ◌≡◌, ◌<◌, Bool, true, false, ◌||◌, List, [], ◌∷◌, ◌++◌, length, slice_get, slice_index_or, Option, Some, is_some}
use Rattle.std.specs.List.{list_any}
use Rattle.fx_css_types.specs.declared.sheets.SheetAt.{SheetAt}
use Rattle.fx_kinds.specs.declared.facts.StyleFacts.{StyleFacts}
use Rattle.fx_style.specs.declared.kept.Rest.{Rest}
use Rattle.fx_style.specs.Kept.{Kept, is_among, place_of_key}
use Rattle.fx_style.specs.Lasts.{AreStylesOf, IsRecodedAt}
use Rattle.fx_style.specs.Places.{parent_at, places_up}

-- the node of a place gets lengths where it stands, is left to be styled anew, or keeps its style: only one that is
-- left may have its key elsewhere, and one that gets lengths is another by these alone, below a parent that isn't
-- marked
pub record IsPart (last : Option (List StyleFacts)) (facts : List StyleFacts) (rest : List Rest) (marks : List Bool)
    (there left : Bool) (at : ℕ) : Type 0 where
  pub marked : slice_index_or marks at false ≡ (there || left)
  pub one : there ≡ true → left ≡ false
  pub key : left ≡ false → (node : StyleFacts) → slice_get facts at ≡ Some node
      → place_of_key rest node.key ≡ Some at
  pub recoded : there ≡ true → IsRecodedAt last facts at
  pub calm : there ≡ true → (p : ℕ) → parent_at facts at ≡ Some p → slice_index_or marks p false ≡ false

-- is one of these, from a place up, marked?
abbrev pub is_under : List Bool → List StyleFacts → Option ℕ → Bool
is_under there facts place = list_any (λ (p : ℕ). slice_index_or there p false) (places_up facts place)

-- none that gets lengths stands above one that is left
pub record AreParts (last : Option (List StyleFacts)) (facts : List StyleFacts) (rest : List Rest) (marks : List Bool)
    (there : List Bool) (left : List ℕ) : Type 0 where
  pub given : is_some last ≡ true
  pub long : length there ≡ length facts
  pub each : (at : ℕ) → at < length facts
      → IsPart last facts rest marks (slice_index_or there at false) (is_among left at) at
  pub clear : (at : ℕ) → is_among left at ≡ true → is_under there facts (parent_at facts at) ≡ false

-- what is kept are the styles of other facts, and the listed nodes are apart
pub record IsParted (sheets : List SheetAt) (facts : List StyleFacts) (restyle : List ℕ) (old : Kept)
    (there : List Bool) (left : List ℕ) : Type 0 where
  pub olds : List StyleFacts
  pub are : AreStylesOf sheets facts restyle old.looks old.rest olds
  pub marks : List Bool
  pub marked : (at : ℕ) → at < length facts → slice_index_or marks at false ≡ is_among restyle at
  pub looks : length old.looks ≡ length facts
  pub rest : length old.rest ≡ length facts
  pub parts : AreParts (Some olds) facts old.rest marks there left

-- the places with one more, or without it
abbrev pub with_place : List ℕ → Bool → ℕ → List ℕ
with_place places false at = places
with_place places true at = places ++ at ∷ []
