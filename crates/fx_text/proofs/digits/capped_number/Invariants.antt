-- the number of the digits so far, as far as 32 bits hold it
use Rattle.std.proofs.Common.{◌≡◌, take}
use Rattle.fx_text.specs.Digits.{capped, number_of_digits}
use Rattle.fx_text.proofs.digits.capped_number.Given as goal

abbrev pub invariant-loop-digit : goal.invariant-loop-digit
invariant-loop-digit l = l.number ≡ capped (number_of_digits (take l.digit-index l.digits))
