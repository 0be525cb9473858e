-- Rounding as it is read off the digits: those before the moved point are a number, and the first behind it,
-- which counts as `0` behind the last one, says whether it grows by one.
use Rattle.std.specs.Prelude.{ℕ, zero, suc, ◌+◌, ◌-◌, ◌*◌, Bool, false, ◌&&◌, ◌==◌, nat_le, nat_lt, if◌then◌else◌, List, [], ◌∷◌, ◌++◌, length, drop, slice_index_or}
use Rattle.std.specs.List.{list_any}
use Rattle.fx_text.specs.Characters.{digit_zero, digit_five}
use Rattle.fx_look.specs.Decimals.{Decimal}
use Rattle.fx_look.specs.Numbers.{Power}

abbrev pub digits_of : Decimal → List ℕ
digits_of d = d.whole ++ d.fraction

-- the number of the first digits
abbrev pub leading : List ℕ → ℕ → ℕ
leading digits zero = 0
leading digits (suc n) = leading digits n * 10 + (slice_index_or digits n digit_zero - digit_zero)

-- whether the digits behind the point are at least a half, or more than a half under a minus
abbrev pub rounds_away : Bool → List ℕ → Bool
rounds_away negative [] = false
rounds_away negative (c ∷ cs) =
    if negative && (c == digit_five) then list_any (nat_lt digit_zero) cs else nat_le digit_five c

abbrev pub rounded_at : Bool → List ℕ → ℕ → ℕ
rounded_at negative digits places =
    leading digits places + (if rounds_away negative (drop places digits) then 1 else 0)

abbrev pub size_of : Decimal → Power → ℕ
size_of d power =
    if nat_lt (length d.whole + power.up) power.down then 0
    else rounded_at d.negative (digits_of d) (length d.whole + power.up - power.down)
