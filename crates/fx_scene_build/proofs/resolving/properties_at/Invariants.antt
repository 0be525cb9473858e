-- the names so far stand in front of those that are still looked up
use Rattle.std.proofs.Common.{◌≡◌, drop}
use Rattle.fx_scene_plan.specs.Plans.{properties_at, standing_of}
use Rattle.fx_scene_build.proofs.PropertyLemmas.{behind}
use Rattle.fx_scene_build.proofs.resolving.properties_at.Given as goal

abbrev pub invariant-loop-property : goal.invariant-loop-property
invariant-loop-property l =
    behind l.names.items (properties_at (standing_of l.stage l.keys) (drop l.property-index l.properties))
    ≡ properties_at (standing_of l.stage l.keys) l.properties
