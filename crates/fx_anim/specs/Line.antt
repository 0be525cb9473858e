-- A timeline and what time makes of it: JavaFX 21 API, javafx.animation.Timeline. Cited by src/timeline.rt and
-- src/timelines.rt.
use Rattle.std.specs.Prelude.{ℕ, ◌+◌, ◌*◌, ◌%◌, ◌==◌, ◌&&◌, ◌++◌, Bool, true, false, not, List, [], ◌∷◌, Option, Some, None, max, min, slice_index_or, if◌then◌else◌}
use Rattle.std.specs.List.{filter_map, flat_map, list_any}
use Rattle.std.specs.Option.{option_map}
use Rattle.fx_base.specs.declared.keys.Name.{Name}
use Rattle.fx_base.specs.declared.values.Value.{Value}
use Rattle.fx_keyframes.specs.declared.cycles.Cycles.{Cycles}
use Rattle.fx_keyframes.specs.declared.frames.Frame.{Frame}
use Rattle.fx_keyframes.specs.Cycles.{is_over, position}
use Rattle.fx_keyframes.specs.Reading.{value_at}

-- a timeline: how it runs, its key frames, its properties in the order of their first key frames, and the milliseconds
-- that have passed since it was started
pub record Line : Type 0 where
  pub cycles : Cycles
  pub frames : List Frame
  pub targets : List Name
  pub playing : Bool
  pub elapsed : ℕ

-- one without key frames, which doesn't play
abbrev pub new_line : Cycles → Line
new_line cycles = record { cycles = cycles; frames = []; targets = []; playing = false; elapsed = 0 }

-- the line at a place
abbrev pub line_at : List Line → ℕ → Line
line_at lines k = slice_index_or lines k (new_line (record { count = None; reverse = false }))

-- how long a cycle is: the greatest time of a key frame
abbrev pub longest : List Frame → ℕ
longest [] = 0
longest (frame ∷ frames) = max frame.at (longest frames)

-- the two are of one time and one property
abbrev pub is_same : Frame → Frame → Bool
is_same one other = (one.at == other.at) && (one.name.0 == other.name.0)

-- a key frame more, in the place of one of the same time and property
abbrev pub put_frame : Frame → List Frame → List Frame
put_frame new [] = new ∷ []
put_frame new (frame ∷ frames) = if is_same frame new then new ∷ frames else frame ∷ put_frame new frames

-- none is the same
abbrev pub is_new : Frame → List Frame → Bool
is_new new frames = not (list_any (λ frame. is_same frame new) frames)

abbrev pub has_name : Name → List Name → Bool
has_name name names = list_any (λ other. other.0 == name.0) names

-- its property is a target from now on
abbrev pub with_frame : Frame → Line → Line
with_frame new line = record line {
  frames = put_frame new line.frames;
  targets = if has_name new.name line.targets then line.targets else line.targets ++ new.name ∷ [];
}

-- it plays from its start; one that plays goes on
abbrev pub begun : Line → Line
begun line = if line.playing then line else record line { playing = true; elapsed = 0 }

abbrev pub stopped : Line → Line
stopped line = record line { playing = false }

-- how much of the time that passed counts: no more than all cycles take, and without an end what is left of two cycles,
-- after which a timeline stands where it stood
abbrev pub passed : Option ℕ → ℕ → ℕ → ℕ
passed None length elapsed = if length == 0 then 0 else elapsed % (2 * length)
passed (Some count) length elapsed = min elapsed (length * count)

abbrev pub elapsed_after : ℕ → Line → ℕ
elapsed_after ms line = passed line.cycles.count (longest line.frames) (line.elapsed + ms)

-- time passes for one that plays, which stops at its end
abbrev pub ticked : ℕ → Line → Line
ticked ms line =
    if line.playing then record line {
      playing = not (is_over line.cycles (longest line.frames) (elapsed_after ms line));
      elapsed = elapsed_after ms line;
    }
    else line

-- what a property becomes where the timeline stands after so much time
abbrev pub set_at : List Frame → ℕ → Name → Option (Name × Value)
set_at frames place name = option_map (λ value. (name, value)) (value_at name place frames)

abbrev pub sets_at : Line → ℕ → List (Name × Value)
sets_at line elapsed =
    filter_map (set_at line.frames (position line.cycles (longest line.frames) elapsed)) line.targets

-- what its properties become after so many milliseconds more, where it plays
abbrev pub sets_in : ℕ → Line → List (Name × Value)
sets_in ms line = if line.playing then sets_at line (elapsed_after ms line) else []

-- and those of all timelines, in the order of their making
abbrev pub sets_of : ℕ → List Line → List (Name × Value)
sets_of ms lines = flat_map (sets_in ms) lines
