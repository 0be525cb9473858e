-- the nodes so far are apart
use Rattle.std.specs.Option.{option_copied}
use Rattle.fx_style.proofs.PartingLemmas.{ArePartsBelow}
use Rattle.fx_style.proofs.parting.parts_of.Given as goal

abbrev pub invariant-loop-at : goal.invariant-loop-at
invariant-loop-at l =
    ArePartsBelow (option_copied l.scene.last) l.scene.facts.now l.rest l.marks l.there.items l.left.items l.at
