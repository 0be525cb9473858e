use Rattle.std.proofs.Common.{◌≡◌, drop}
use Rattle.fx_tree.specs.Scene.{has}
use Rattle.fx_stage_tables.proofs.paths.is_among.Given as goal

abbrev pub invariant-loop-other : goal.invariant-loop-other
invariant-loop-other l = has (drop l.other-index l.keys) l.key ≡ has l.keys l.key
