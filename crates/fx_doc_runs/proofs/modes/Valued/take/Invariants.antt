use Rattle.std.proofs.Common.{length}
use denote.Text.{Utf8}
use denote.Shadow.{shadow}
use Rattle.fx_doc_runs.specs.Reached.{TookValue}
use Rattle.fx_doc_runs.proofs.modes.Valued.take.Given as goal

abbrev pub invariant-loop-found : goal.invariant-loop-found
invariant-loop-found l = record { utf8 : shadow (Utf8 l.left); took : TookValue l.fn.rest l.fn.self l.left l.self }

abbrev pub decreases-loop-found : goal.decreases-loop-found
decreases-loop-found l = length l.left
