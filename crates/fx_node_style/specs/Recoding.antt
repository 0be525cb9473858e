-- Code values of which just bound lengths are others: a style that hangs on them differs in these lengths alone.
use Rattle.std.specs.Prelude.{◌≡◌, ◌⊎◌, ◌==◌, ℕ, ℤ, Bool, true, List, [], ◌∷◌, length, slice_get, find, Option, Some, None, if◌then◌else◌}
use Rattle.std.specs.List.{list_any}
use Rattle.fx_base.specs.declared.values.Value.{Value}
use Rattle.fx_base.specs.declared.values.Value.TheVariants as value
use Rattle.fx_look.specs.declared.looks.Look.{Look}
use Rattle.fx_look.specs.declared.styles.CodeValue.{CodeValue}
use Rattle.fx_node_style.specs.Rows as spec

abbrev pub length_rows : List ℕ
length_rows = spec.min_width_row ∷ spec.min_height_row ∷ spec.pref_width_row ∷ spec.pref_height_row
    ∷ spec.max_width_row ∷ spec.max_height_row ∷ []

abbrev pub is_length_row : ℕ → Bool
is_length_row row = list_any (λ (length_row : ℕ). length_row == row) length_rows

-- a number that a binding gives to a length
pub record IsBoundLength (code : CodeValue) : Type 0 where
  pub bound : code.bound ≡ true
  pub row : is_length_row code.style.0 ≡ true
  pub number : ℤ
  pub value : code.value ≡ value.Int number

-- of the same row, and bound or set like the other; the value is the same too, or one of a bound length
pub record IsRecoded (old new : CodeValue) : Type 0 where
  pub row : new.style ≡ old.style
  pub bound : new.bound ≡ old.bound
  pub value : (new.value ≡ old.value) ⊎ IsBoundLength new

pub record AreRecoded (olds news : List CodeValue) : Type 0 where
  pub long : length news ≡ length olds
  pub each : (at : ℕ) (old new : CodeValue) → slice_get olds at ≡ Some old → slice_get news at ≡ Some new
      → IsRecoded old new

abbrev pub number_or : Value → ℤ → ℤ
number_or (value.Int number) kept = number
number_or _ kept = kept

abbrev pub bound_or : Option CodeValue → ℤ → ℤ
bound_or None kept = kept
bound_or (Some code) kept = if code.bound then number_or code.value kept else kept

-- the number that a binding gives to the length of a row, or else what it was
abbrev pub bound_length : List CodeValue → ℕ → ℤ → ℤ
bound_length codes row kept = bound_or (find (λ (code : CodeValue). code.style.0 == row) codes) kept

-- a look with the lengths that bindings give
unfoldable pub with_bound : List CodeValue → Look → Look
with_bound codes look = record look {
  min_width = bound_length codes spec.min_width_row look.min_width;
  min_height = bound_length codes spec.min_height_row look.min_height;
  pref_width = bound_length codes spec.pref_width_row look.pref_width;
  pref_height = bound_length codes spec.pref_height_row look.pref_height;
  max_width = bound_length codes spec.max_width_row look.max_width;
  max_height = bound_length codes spec.max_height_row look.max_height;
}
