-- Where a text of parts that commas separate begins the next one, behind as many as may be.
-- Cited by src/limits.rt.
use Rattle.std.specs.Prelude.{◌≡◌, ◌<◌, ℕ, ◌+◌, suc, false, List, ◌∷◌, ◌++◌, length, take, drop, IsTrue}
use Rattle.std.specs.List.{list_all}
use Rattle.fx_text.specs.Characters.{colon, comma}
use Rattle.fx_text.specs.Classes.{is_white}
use Rattle.fx_text.specs.Trimming.{trimmed}
use Rattle.fx_css_types.specs.declared.declarations.Declaration.{Declaration}
use Rattle.fx_css_types.specs.declared.declarations.Declared.{Declared}
use Rattle.fx_css_types.specs.declared.declarations.Declared.TheVariants as declared
use Rattle.fx_css_parts.specs.Layers.{Separated}
use Rattle.fx_css_parts.specs.Declaring.{AreSides, IsPaint}

-- The part behind the first n of a text begins at a place: before it stand a text that spells just these n, a comma and
-- white.
pub record IsNext {A : Type 0} (n : ℕ) (Spells : List ℕ → A → Type 0) (text : List ℕ) (parts : List A) (at : ℕ)
    : Type 0 where
  pub front : List ℕ
  pub white : List ℕ
  pub first : ℕ
  pub others : List ℕ
  pub cut : text ≡ front ++ (comma ∷ (white ++ (first ∷ others)))
  pub all_white : IsTrue (list_all is_white white)
  pub shown : is_white first ≡ false
  pub spells : Separated Spells front (take n parts)
  pub many : n < length parts
  pub left : Separated Spells (white ++ (first ∷ others)) (drop n parts)
  pub place : at ≡ length front + suc (length white)

-- the ninth layer of a value begins at a place in its text
abbrev pub BeginsNinth : Declared → List ℕ → ℕ → Type 0
BeginsNinth (declared.Paints ps) value at = IsNext 8 IsPaint value ps at
BeginsNinth (declared.SidesList ss) value at = IsNext 8 AreSides value ss at
BeginsNinth d value at = ⊥

-- The ninth layer of a declaration begins at a place in its text, where its value stands between white behind a colon.
pub record IsNinthLayer (text : List ℕ) (d : Declaration) (at : ℕ) : Type 0 where
  pub before : List ℕ
  pub white : List ℕ
  pub value : List ℕ
  pub behind : List ℕ
  pub cut : text ≡ before ++ (colon ∷ (white ++ (value ++ behind)))
  pub is_name : d.name ≡ trimmed before
  pub white_before : IsTrue (list_all is_white white)
  pub white_behind : IsTrue (list_all is_white behind)
  pub inside : ℕ
  pub begins : BeginsNinth d.value value inside
  pub place : at ≡ length before + suc (length white + inside)
