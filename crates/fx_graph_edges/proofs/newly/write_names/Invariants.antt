use Rattle.std.proofs.Common.{◌≡◌, take}
use Rattle.fx_base.specs.Names.{numbers}
use Rattle.fx_graph_edges.proofs.newly.write_names.Given as goal

abbrev pub invariant-loop-place : goal.invariant-loop-place
invariant-loop-place l = numbers (take l.place l.newly) ≡ take l.place l.listed
