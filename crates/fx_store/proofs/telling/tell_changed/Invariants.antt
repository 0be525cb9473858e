use Rattle.fx_store.proofs.TellLemmas.{AreTold}
use Rattle.fx_store.proofs.telling.tell_changed.Given as goal

abbrev pub invariant-loop-place : goal.invariant-loop-place
invariant-loop-place l = AreTold l.graph.entries l.heard l.before l.place l.notices.items
