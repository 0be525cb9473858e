-- the number of the digits so far, as far as 32 bits hold it
use Rattle.std.proofs.Common.{◌≡◌, take}
use Rattle.fx_stage_model.specs.Nodes.{place_of_digits}
use Rattle.fx_stage_words.proofs.numbers.number_of.Given as goal

abbrev pub invariant-loop-digit : goal.invariant-loop-digit
invariant-loop-digit l = l.number ≡ place_of_digits (take l.digit-index l.word)
