use Rattle.fx_graph.proofs.RowLemmas.{AreRowsSoFar}
use Rattle.fx_graph.proofs.declaring.declare_rows.Given as goal

-- the rows so far are declared
abbrev pub invariant-loop-place : goal.invariant-loop-place
invariant-loop-place g l = AreRowsSoFar (g.R.Rows.rows l.rows) l.fn.lists l.lists l.place l.count
