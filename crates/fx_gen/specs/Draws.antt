-- The numbers that a demo draws: a linear congruential generator, and the digits 1 to 9 by its upper bits.
use Rattle.std.specs.Prelude.{ℕ, zero, suc, ◌+◌, ◌*◌, ◌/◌, ◌%◌, ◌^◌}

abbrev pub step : ℕ → ℕ
step x = (1103515245 * x + 12345) % 2 ^ 31

-- the generator after so many steps from the demo's number
unfoldable pub state : ℕ → ℕ → ℕ
state number zero = number
state number (suc k) = step (state number k)

abbrev pub digit : ℕ → ℕ
digit x = x / 65536 % 9 + 1

-- the digit that is drawn by the step behind so many others
abbrev pub drawn : ℕ → ℕ → ℕ
drawn number k = digit (state number (k + 1))
