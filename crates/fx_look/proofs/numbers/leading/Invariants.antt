-- the number of the digits so far
use Rattle.std.proofs.Common.{◌≡◌, ◌^◌, ◌-◌, min}
use Rattle.fx_look.specs.Rounding.{digits_of, leading}
use Rattle.fx_look.specs.Written.{written}
use Rattle.fx_look.proofs.numbers.leading.Given as goal

abbrev pub invariant-loop-i : goal.invariant-loop-i
invariant-loop-i l = l.size ≡ min (leading (digits_of (written l.decimal)) l.i) (2 ^ 64 - 1)
