-- the escaped bytes so far
use Rattle.std.proofs.Common.{◌≡◌, take}
use Rattle.std.specs.List.{flat_map}
use Rattle.fx_base.specs.Printing.{escaped}
use Rattle.fx_base.proofs.values.escaped_text.Given as goal

abbrev pub invariant-loop-byte : goal.invariant-loop-byte
invariant-loop-byte l = l.all.items ≡ flat_map escaped (take l.byte-index l.bytes)
