use Rattle.std.proofs.Common.{length}
use Rattle.fx_doc_runs.specs.Reached.{IsReached}
use Rattle.fx_doc_runs.specs.Views.{view}
use Rattle.fx_doc.proofs.reading.read_text.Given as goal

abbrev pub invariant-loop-c : goal.invariant-loop-c
invariant-loop-c l = IsReached l.text l.at.text.now l.at.position (view l.reader)

abbrev pub decreases-loop-c : goal.decreases-loop-c
decreases-loop-c l = length l.at.text.now
