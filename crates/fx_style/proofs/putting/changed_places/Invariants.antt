use Rattle.std.proofs.Common.{take}
use Rattle.fx_style.specs.Changes.{NamesChanges}
use Rattle.fx_style.proofs.putting.changed_places.Given as goal

abbrev pub invariant-loop-one : goal.invariant-loop-one
invariant-loop-one l = NamesChanges l.looks (take l.one-index l.fresh) l.places.items
