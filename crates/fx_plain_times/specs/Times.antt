-- The numbers in lines on timelines.
use Rattle.std.specs.Prelude.{ℕ, Bool, ◌&&◌, List, codes, nat_le, Option, Some, None, if◌then◌else◌}
use Rattle.std.specs.Str.{bytes_eq}
use Rattle.fx_event_lines.specs.Coordinates.{digits_of, is_negative}
use Rattle.fx_text.specs.Digits.{number_of_digits}

abbrev pub is_count : ℕ → Bool
is_count n = nat_le 1 n && nat_le n 1000000

-- how often a timeline runs, where it ends: 1 to 1,000,000 times
abbrev pub count_of : List ℕ → Option (Option ℕ)
count_of word =
    if bytes_eq word (codes "indefinite") then Some None
    else (if is_count (number_of_digits word) then Some (Some (number_of_digits word)) else None)

-- a time is so long at least, and at most an hour
abbrev pub is_time : ℕ → ℕ → Bool
is_time least n = nat_le least n && nat_le n 3600000

-- no time is below 0
abbrev pub is_below : List ℕ → Bool
is_below word = is_negative word && nat_le 1 (number_of_digits (digits_of word))

-- the milliseconds that a word says
abbrev pub time_of : ℕ → List ℕ → Option ℕ
time_of least word =
    if is_below word then None
    else (if is_time least (number_of_digits (digits_of word)) then Some (number_of_digits (digits_of word)) else None)
