-- What is seen of timelines. Cited by src/timeline.rt and src/timelines.rt.
use Rattle.std.specs.Prelude.{ℤ, List, map, unsigned_abs}
use Rattle.fx_base.specs.declared.keys.Name.{Name}
use Rattle.fx_base.specs.declared.values.Value.{Value}
use Rattle.fx_keyframes.specs.declared.frames.Frame.{Frame}
use Rattle.fx_anim.specs.declared.timeline.Timeline.{Timeline}
use Rattle.fx_anim.specs.declared.timelines.Timelines.{Timelines}
use Rattle.fx_anim.specs.Line.{Line}

abbrev pub line_of : Timeline → Line
line_of timeline = record {
  cycles = timeline.cycles;
  frames = timeline.frames.items;
  targets = timeline.targets.items;
  playing = timeline.playing;
  elapsed = timeline.elapsed;
}

-- the key frame that a call gives
abbrev pub frame_of : ℤ → Name → Value → Frame
frame_of at name value = record { at = unsigned_abs at; name = name; value = value }

-- all timelines, in the order of their making
abbrev pub lines_of : Timelines → List Line
lines_of timelines = map line_of timelines.lines.items
