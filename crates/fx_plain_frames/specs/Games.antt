-- The world between two script lines, its timelines, and the frame that was written last.
use Rattle.std.specs.Prelude.{ℕ, List, [], Option, None, Some}
use Rattle.fx_picture.specs.declared.entries.Entry.{Entry}
use Rattle.fx_plain_times.specs.Clocks.{Clock, no_timelines}
use Rattle.fx_pulse_model.specs.Frames.{Framed}
use Rattle.fx_stage_model.specs.World.{World}

-- a world with its timelines, how many frames were made of it, and the last of them
pub record Game : Type 0 where
  pub world : World
  pub clock : Clock
  pub frames : ℕ
  pub last : Option Framed

-- before the first frame
abbrev pub begun : World → Game
begun world = record { world = world; clock = no_timelines; frames = 0; last = None }

abbrev pub with_world : World → Game → Game
with_world world game = record game { world = world }

-- the entries of the last picture, none before the first frame
abbrev pub entries_in : Option Framed → List Entry
entries_in None = []
entries_in (Some frame) = frame.picture
