-- What a trace tells of a line.
use Rattle.fx_plain_steps.specs.Courses.{Course}
use Rattle.fx_play_steps.specs.declared.traces.Trace.{Trace}
use Rattle.fx_stage_model.specs.World.{World}

-- how far a line has come, where the world is this one
abbrev pub course_of : World → Trace → Course
course_of world trace =
    record { world = world; text = trace.text.items; heard = trace.heard.items; consumed = trace.consumed }
