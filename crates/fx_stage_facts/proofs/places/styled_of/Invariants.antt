use Rattle.std.proofs.Common.{◌≡◌, ◌++◌, drop}
use Rattle.fx_kinds.specs.Properties.{properties_of}
use Rattle.fx_stage_facts.specs.Places.{styled_from}
use Rattle.fx_stage_facts.proofs.places.styled_of.Given as goal

-- what is done, with what is left
abbrev pub invariant-loop-place : goal.invariant-loop-place
invariant-loop-place l =
    l.styled.items ++ styled_from l.place (drop l.place (properties_of l.fn.class)) ≡ styled_from 0 (properties_of l.fn.class)
