-- the rest tells it
use Rattle.std.proofs.Common.{◌≡◌, drop}
use Rattle.std.specs.Str.{bytes_eq}
use Rattle.fx_select.proofs.matching.have_same_bytes.Given as goal

abbrev pub invariant-loop-at : goal.invariant-loop-at
invariant-loop-at l = bytes_eq (drop l.at l.bytes) (drop l.at l.others) ≡ bytes_eq l.bytes l.others
