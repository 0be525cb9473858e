-- Lengths and places in whole pixels. `-` on naturals stops at 0.
-- Cited by src/lengths.rt and by every pane.
use Rattle.std.specs.Prelude.{ℕ, suc, ℤ, pos, negsuc, ◌+◌, ◌-◌, ◌/◌, ◌==◌, min, if◌then◌else◌}

-- the greatest length
abbrev pub longest : ℕ
longest = 100000

-- a number as a length
abbrev pub length_of : ℤ → ℕ
length_of (pos n) = min n longest
length_of (negsuc n) = 0

-- a length as a number of pixels
abbrev pub pixels : ℕ → ℤ
pixels length = pos (min length longest)

-- a number as a place; negsuc n is -(n + 1)
abbrev pub place_of : ℤ → ℤ
place_of (pos n) = pos (min n longest)
place_of (negsuc n) = negsuc (min n 99999)

-- the end of a length that begins at a place, or 0 where that is below 0
abbrev pub end_of : ℤ → ℕ → ℕ
end_of (pos n) length = n + length
end_of (negsuc n) length = length - suc n

-- where a used length begins in a free one: 0 start, 1 centre, else end
abbrev pub aligned : ℕ → ℕ → ℕ → ℕ
aligned how used free =
    if how == 0 then 0 else (if how == 1 then (free - used) / 2 else free - used)
