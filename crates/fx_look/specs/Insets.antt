-- Four lengths as texts: one for all sides, or four separated by white, in the order top, right, bottom, left.
-- First the grammar, over what a single length is, then the reading.
use Rattle.std.specs.Prelude.{◌≡◌, ◌≢◌, ℕ, ◌⊎◌, Bool, not, if◌then◌else◌, List, [], ◌++◌, Option, IsTrue, ℤ}
use Rattle.std.specs.List.{list_all, list_any}
use Rattle.std.specs.Option.{option_and_then, option_map}
use Rattle.fx_base.specs.declared.geometry.Sides.{Sides}
use Rattle.fx_text.specs.Classes.{is_white}
use Rattle.fx_text.specs.Fronts.{front, behind}
use Rattle.fx_look.specs.Numbers.{number_at, size_at}
use Rattle.fx_look.specs.declared.insets.Length.{Length}
use Rattle.fx_look.specs.declared.insets.Length.TheVariants.{Number, Size}

abbrev pub sides : ℤ → ℤ → ℤ → ℤ → Sides
sides top right bottom left = record { top = top; right = right; bottom = bottom; left = left }

pub record IsGap (text : List ℕ) : Type 0 where
  pub white : IsTrue (list_all is_white text)
  pub some : text ≢ []

pub record IsFour (IsLength : List ℕ → ℤ → Type 0) (text : List ℕ) (s : Sides) : Type 0 where
  pub top : List ℕ
  pub right : List ℕ
  pub bottom : List ℕ
  pub left : List ℕ
  pub first_gap : List ℕ
  pub second_gap : List ℕ
  pub third_gap : List ℕ
  pub parts : text ≡ top ++ (first_gap ++ (right ++ (second_gap ++ (bottom ++ (third_gap ++ left)))))
  pub is_first_gap : IsGap first_gap
  pub is_second_gap : IsGap second_gap
  pub is_third_gap : IsGap third_gap
  pub is_top : IsLength top s.top
  pub is_right : IsLength right s.right
  pub is_bottom : IsLength bottom s.bottom
  pub is_left : IsLength left s.left

pub record IsEven (IsLength : List ℕ → ℤ → Type 0) (text : List ℕ) (s : Sides) : Type 0 where
  pub length_of : ℤ
  pub is_length : IsLength text length_of
  pub value : s ≡ sides length_of length_of length_of length_of

-- the four lengths that a text spells
abbrev pub IsSides : (List ℕ → ℤ → Type 0) → List ℕ → Sides → Type 0
IsSides IsLength text s = IsEven IsLength text s ⊎ IsFour IsLength text s

-- the reading

abbrev pub not_white : ℕ → Bool
not_white c = not (is_white c)

abbrev pub word : List ℕ → List ℕ
word text = front not_white text

abbrev pub behind_word : List ℕ → List ℕ
behind_word text = behind is_white (behind not_white text)

unfoldable pub four : Option ℤ → Option ℤ → Option ℤ → Option ℤ → Option Sides
four top right bottom left =
    option_and_then (λ t. option_and_then (λ r. option_and_then (λ b. option_map (λ l.
    sides t r b l) left) bottom) right) top

abbrev pub sides_at : (List ℕ → Option ℤ) → List ℕ → Option Sides
sides_at read text =
    if list_any is_white text then
    four (read (word text)) (read (word (behind_word text)))
    (read (word (behind_word (behind_word text)))) (read (behind_word (behind_word (behind_word text))))
    else four (read text) (read text) (read text) (read text)

abbrev pub length_at : Length → List ℕ → Option ℤ
length_at Number text = number_at text
length_at Size text = size_at text
