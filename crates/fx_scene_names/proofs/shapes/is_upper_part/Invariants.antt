-- what is known of the part so far, and what is left, tell of the whole name
use Rattle.std.proofs.Common.{◌≡◌, drop}
use Rattle.fx_scene_names.specs.Names.{begins_upper, last_is_upper}
use Rattle.fx_scene_names.proofs.shapes.is_upper_part.Given as goal

abbrev pub invariant-loop-place : goal.invariant-loop-place
invariant-loop-place l = last_is_upper l.upper (drop l.place l.name) ≡ last_is_upper (begins_upper l.name) l.name
