use Rattle.std.proofs.Common.{◌≡◌, ◌++◌, map}
use Rattle.std.specs.List.{range_with_len}
use Rattle.fx_base.specs.Names.{name_of}
use Rattle.fx_stage_parts.proofs.dropping.push_range.Given as goal

abbrev pub invariant-loop-place : goal.invariant-loop-place
invariant-loop-place l = l.names.items ≡ l.fn.names.items ++ map name_of (range_with_len l.fn.first l.place)
