use Rattle.slab.specs.Slab.{slab_len}
use Rattle.fx_tree.proofs.Prune.{IsPruning, IsResting}
use Rattle.fx_tree.proofs.nodes.prune.Given as goal

abbrev pub invariant-loop-top : goal.invariant-loop-top
invariant-loop-top l =
    record { pruning : IsPruning l.initial.nodes.slots l.nodes.slots l.top; resting : IsResting l.nodes.slots l.top l.at }

abbrev pub decreases-loop-top : goal.decreases-loop-top
decreases-loop-top l = slab_len l.nodes
