-- How far a line of a script has come: it may run actions, whose lines run others.
use Rattle.std.specs.Prelude.{ℕ, Bool, false, List, [], ◌++◌}
use Rattle.fx_base.specs.declared.keys.Name.{Name}
use Rattle.fx_stage_model.specs.World.{World}
use Rattle.fx_plain_steps.specs.Lines.{Step}

-- the world, what was printed, which listeners were told (each by its property and number), and whether the event on
-- its way was consumed
pub record Course : Type 0 where
  pub world : World
  pub text : List ℕ
  pub heard : List (Name × ℕ)
  pub consumed : Bool

-- nothing was printed, and nobody was told
abbrev pub begun : World → Course
begun world = record { world = world; text = []; heard = []; consumed = false }

abbrev pub after : Step → Course → Course
after step course =
    record {
      world = step.world;
      text = course.text ++ step.text;
      heard = course.heard ++ step.heard;
      consumed = course.consumed;
    }
