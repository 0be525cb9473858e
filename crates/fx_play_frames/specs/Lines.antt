-- Lines that the stage doesn't carry out, frames and events aside.
use Rattle.std.specs.Prelude.{Bool, is_some, ◌||◌}
use Rattle.fx_plain_frames.specs.Playing.{explained_by, time_line}
use Rattle.fx_script_commands.specs.Requests.{Request}

-- a line on timelines, or one that asks why a property is as it is
abbrev pub is_own : Request → Bool
is_own request = is_some (time_line request) || is_some (explained_by request)
