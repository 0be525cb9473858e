-- The lines on timelines, one case a line.
use Rattle.std.specs.Prelude.{ℕ, Bool, true, false, ◌&&◌, ◌==◌, not, nat_le, List, [], length, map, is_some, Option, Some, None, Result, Ok, Err}
use Rattle.fx_anim.specs.Line as timeline
use Rattle.fx_base.specs.declared.keys.Name.{Name}
use Rattle.fx_base.specs.declared.values.Value.{Value}
use Rattle.fx_graph_model.specs.Refusals.{kind_at, read_only_in}
use Rattle.fx_keyframes.specs.declared.frames.Frame.{Frame}
use Rattle.fx_look.specs.Readings.{value_at}
use Rattle.fx_plain_steps.specs.Courses.{Course, after, begun}
use Rattle.fx_plain_steps.specs.Lines.{answered}
use Rattle.fx_script_lines.specs.declared.instructions.Instruction.{Instruction}
use Rattle.fx_script_lines.specs.declared.instructions.Instruction.TheVariants as line
use Rattle.fx_stage_model.specs.Answers.{and_then, or_word, unless}
use Rattle.fx_stage_model.specs.Looking as looking
use Rattle.fx_stage_model.specs.World.{World}
use Rattle.fx_stage_types.specs.declared.refusals.Refusal.{Refusal}
use Rattle.fx_stage_types.specs.declared.refusals.Refusal.TheVariants as word
use Rattle.fx_plain_times.specs.Clocks.{Clock, changed_at, find, place_of, with_timeline}
use Rattle.fx_plain_times.specs.Ticks.{all_animated, cost_of_sets}
use Rattle.fx_plain_times.specs.Times.{count_of, time_of}

unfoldable pub is_time_line : Instruction → Bool
is_time_line (line.Timeline label count back) = true
is_time_line (line.Keyframe label time path text) = true
is_time_line (line.Play label) = true
is_time_line (line.Stop label) = true
is_time_line (line.Tick time) = true
is_time_line other = false

-- at most 256 timelines, of at most 1,024 key frames each

abbrev pub with_room : List ℕ → timeline.Line → Clock → Result Clock Refusal
with_room label line clock =
    unless (nat_le 256 (length clock.lines)) word.Full (Ok (with_timeline label line clock))

unfoldable pub added : List ℕ → List ℕ → Bool → Clock → Result Clock Refusal
added label count back clock =
    and_then (or_word word.Value (count_of count)) (λ (cycles : Option ℕ).
    unless (is_some (place_of label clock)) word.Exists
    (with_room label (timeline.new_line (record { count = cycles; reverse = back })) clock))

-- a key frame takes the place of one of its time and property
abbrev pub keyed_at : ℕ → Frame → Clock → timeline.Line → Result Clock Refusal
keyed_at place frame clock line =
    unless line.playing word.Used
    (unless (timeline.is_new frame line.frames && nat_le 1024 (length line.frames)) word.Full
    (Ok (changed_at place (timeline.with_frame frame) clock)))

unfoldable pub keyed : List ℕ → List ℕ → List (List ℕ) → List ℕ → Clock → World → Result Clock Refusal
keyed label time path text clock world =
    and_then (find clock label) (λ (place : ℕ).
    and_then (looking.find world path) (λ (name : Name).
    unless (read_only_in world.store.entries name.0) word.ReadOnly
    (and_then (or_word word.Value (time_of 0 time)) (λ (at : ℕ).
    and_then (or_word word.Value (value_at (kind_at world.store.entries name.0) text)) (λ (value : Value).
    keyed_at place (record { at = at; name = name; value = value }) clock (timeline.line_at clock.lines place))))))

-- a timeline that doesn't play can be played only where it has a key frame behind its start
abbrev pub is_empty : timeline.Line → Bool
is_empty line = not line.playing && (timeline.longest line.frames == 0)

unfoldable pub played : List ℕ → Clock → Result Clock Refusal
played label clock =
    and_then (find clock label) (λ (place : ℕ).
    unless (is_empty (timeline.line_at clock.lines place)) word.Value (Ok (changed_at place timeline.begun clock)))

unfoldable pub halted : List ℕ → Clock → Result Clock Refusal
halted label clock = and_then (find clock label) (λ (place : ℕ). Ok (changed_at place timeline.stopped clock))

-- the timelines behind a line, and how far the line has come
pub record Passed : Type 0 where
  pub clock : Clock
  pub course : Course

abbrev pub passed : ℕ → Clock → World → Passed
passed ms clock world =
    record {
      clock = record clock { lines = map (timeline.ticked ms) clock.lines };
      course = all_animated (timeline.sets_of ms clock.lines) (begun world);
    }

-- time passes for all that play
unfoldable pub tick : List ℕ → Clock → World → Result Passed Refusal
tick time clock world = and_then (or_word word.Value (time_of 1 time)) (λ (ms : ℕ). Ok (passed ms clock world))

-- timelines that are others, and nobody is told
abbrev pub still : World → Result Clock Refusal → Result Passed Refusal
still world answer = and_then answer (λ (clock : Clock). Ok (record { clock = clock; course = begun world }))

unfoldable pub timed : Instruction → Clock → World → Result Passed Refusal
timed (line.Timeline label count back) clock world = still world (added label count back clock)
timed (line.Keyframe label time path text) clock world = still world (keyed label time path text clock world)
timed (line.Play label) clock world = still world (played label clock)
timed (line.Stop label) clock world = still world (halted label clock)
timed (line.Tick time) clock world = tick time clock world
timed other clock world = still world (Ok clock)

abbrev pub passed_or_refused : ℕ → Clock → World → Result Passed Refusal → Passed
passed_or_refused number clock world (Ok passed) = passed
passed_or_refused number clock world (Err word) =
    record { clock = clock; course = after (answered number [] (Err word) world) (begun world) }

-- what the line of this number makes; what is refused changes nothing
abbrev pub time_step : ℕ → Instruction → Clock → World → Passed
time_step number instruction clock world = passed_or_refused number clock world (timed instruction clock world)

-- how many expressions the line evaluates at most: only time that passes sets properties
abbrev pub tick_cost : Option ℕ → Clock → World → ℕ
tick_cost (Some ms) clock world = cost_of_sets (timeline.sets_of ms clock.lines) world
tick_cost None clock world = 0

unfoldable pub time_cost : Instruction → Clock → World → ℕ
time_cost (line.Tick time) clock world = tick_cost (time_of 1 time) clock world
time_cost other clock world = 0
