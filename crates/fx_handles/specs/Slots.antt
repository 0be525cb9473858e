-- How the living owners stand in slots: each slot is empty or holds a birth number.
use Rattle.std.specs.Prelude.{◌≡◌, ◌==◌, ℕ, ◌≤◌, ◌<◌, Bool, false, List, length, Option, Some, None, is_some, count_by, slice_index_or, position}
use Rattle.std.specs.Option.{option_map}
use Rattle.std.specs.List.{filter_map, range_with_len}
use Rattle.fx_handles.specs.declared.Owner.{Owner}

-- the slot holds this birth number
abbrev pub holds_birth : ℕ → Option ℕ → Bool
holds_birth birth None = false
holds_birth birth (Some held) = held == birth

-- the owner of this birth number in this slot
abbrev pub owner_at : ℕ → ℕ → Owner
owner_at birth slot = record { slot = slot; birth = birth }

-- the owner of this birth number, if a slot holds it
unfoldable pub owner_born : List (Option ℕ) → ℕ → Option Owner
owner_born slots birth = option_map (owner_at birth) (position (holds_birth birth) slots)

-- the owners that the slots hold, in order of birth, where this is the last birth number
unfoldable pub owners_in : List (Option ℕ) → ℕ → List Owner
owners_in slots born = filter_map (owner_born slots) (range_with_len 1 born)

-- each birth number stands in one slot at most
abbrev pub IsInOneSlot : List (Option ℕ) → Type 0
IsInOneSlot slots =
    (one other birth : ℕ) → slice_index_or slots one None ≡ Some birth
    → slice_index_or slots other None ≡ Some birth → one ≡ other

-- what is true of the slots and the last birth number
pub record IsKept (slots : List (Option ℕ)) (born : ℕ) : Type 0 where
  pub in_one_slot : IsInOneSlot slots
  pub given : (slot birth : ℕ) → slice_index_or slots slot None ≡ Some birth → (0 < birth) × (birth ≤ born)
  pub counted : length (owners_in slots born) ≡ count_by is_some slots
  pub few : count_by is_some slots ≤ 10000
