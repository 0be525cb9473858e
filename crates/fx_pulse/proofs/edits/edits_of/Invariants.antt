-- the nodes so far were passed
use Rattle.fx_pulse.specs.Drawing.{drawn}
use Rattle.fx_pulse.specs.Editing.{IsEditedUpTo}
use Rattle.fx_pulse.proofs.edits.edits_of.Given as goal

abbrev pub invariant-loop-place : goal.invariant-loop-place
invariant-loop-place l =
    IsEditedUpTo (drawn l.laid) l.last.entries.now l.place l.editing.edits l.editing.count
