-- White at the ends of texts.
use Rattle.std.specs.Prelude.{◌≡◌, ℕ, false, if◌then◌else◌, List, [], ◌∷◌, ◌++◌, IsTrue}
use Rattle.std.specs.List.{list_all}
use Rattle.fx_text.specs.Classes.{is_white}

-- what stands between the white at the ends of a text
pub record IsTrimmed (text inner : List ℕ) : Type 0 where
  pub before : List ℕ
  pub after : List ℕ
  pub parts : text ≡ before ++ (inner ++ after)
  pub white_before : IsTrue (list_all is_white before)
  pub white_after : IsTrue (list_all is_white after)
  pub begins : (c : ℕ) (rest : List ℕ) → inner ≡ c ∷ rest → is_white c ≡ false
  pub ends : (rest : List ℕ) (c : ℕ) → inner ≡ rest ++ (c ∷ []) → is_white c ≡ false

abbrev pub trim_front : List ℕ → List ℕ
trim_front [] = []
trim_front (c ∷ cs) = if is_white c then trim_front cs else c ∷ cs

-- a character in front of a text that is trimmed at its back
abbrev pub trim_last : ℕ → List ℕ → List ℕ
trim_last c [] = if is_white c then [] else c ∷ []
trim_last c (d ∷ ds) = c ∷ (d ∷ ds)

abbrev pub trim_back : List ℕ → List ℕ
trim_back [] = []
trim_back (c ∷ cs) = trim_last c (trim_back cs)

-- a text without the white at its ends
abbrev pub trimmed : List ℕ → List ℕ
trimmed text = trim_back (trim_front text)
