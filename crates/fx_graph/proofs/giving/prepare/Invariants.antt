use Rattle.std.proofs.Common.{◌≡◌, take}
use Rattle.fx_graph.specs.Given.{texts_in}
use Rattle.fx_graph.proofs.giving.prepare.Given as goal

-- the texts so far are copied
abbrev pub invariant-loop-pair : goal.invariant-loop-pair
invariant-loop-pair l = l.texts.items ≡ texts_in (take l.pair-index l.pairs)
