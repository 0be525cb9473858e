-- What property elements give their values to, as definitions have it.
use Rattle.std.specs.Prelude.{Result, Ok, Err}
use Rattle.fx_kinds.specs.ConstraintRows.{constraint_entry}
use Rattle.fx_kinds.specs.Listing.{listed_property}
use Rattle.fx_scene_elements.specs.Targets as plain
use Rattle.fx_scene_elements.specs.declared.targets.Target.{Target}
use Rattle.fx_scene_elements.specs.declared.targets.Target.TheVariants as target
use Rattle.fx_scene_flaws.specs.declared.flaws.Flaw.{Flaw}

abbrev pub target_view : Target → plain.Target
target_view (target.Plain property) = plain.Plain (listed_property property.now)
target_view (target.Static row) = plain.Static (constraint_entry row)

abbrev pub seen_target : Result Target Flaw → Result plain.Target Flaw
seen_target (Ok found) = Ok (target_view found)
seen_target (Err mistake) = Err mistake
