-- What a property is at a position of its timeline: JavaFX 21 API, javafx.animation.Timeline. What it is before its
-- first frame is our own. Cited by src/reading.rt.
use Rattle.std.specs.Prelude.{ℕ, ◌-◌, ◌==◌, ◌&&◌, Bool, nat_le, List, [], ◌∷◌, Option, Some, None, if◌then◌else◌}
use Rattle.fx_base.specs.declared.keys.Name.{Name}
use Rattle.fx_base.specs.declared.values.Value.{Value}
use Rattle.fx_keyframes.specs.declared.frames.Frame.{Frame}
use Rattle.fx_keyframes.specs.Mixing.{between}

-- the frame is of this property, and not after the position
abbrev pub is_before : Name → ℕ → Frame → Bool
is_before name position frame = (frame.name.0 == name.0) && nat_le frame.at position

-- or not before it
abbrev pub is_after : Name → ℕ → Frame → Bool
is_after name position frame = (frame.name.0 == name.0) && nat_le position frame.at

-- of two frames the later one, and the earlier one
abbrev pub later : Frame → Option Frame → Frame
later frame None = frame
later frame (Some other) = if nat_le frame.at other.at then other else frame

abbrev pub earlier : Frame → Option Frame → Frame
earlier frame None = frame
earlier frame (Some other) = if nat_le other.at frame.at then other else frame

-- the last frame of a property up to a position
abbrev pub before : Name → ℕ → List Frame → Option Frame
before name position [] = None
before name position (frame ∷ frames) =
    if is_before name position frame then Some (later frame (before name position frames))
    else before name position frames

-- and the first one from it on
abbrev pub after : Name → ℕ → List Frame → Option Frame
after name position [] = None
after name position (frame ∷ frames) =
    if is_after name position frame then Some (earlier frame (after name position frames))
    else after name position frames

-- at a frame, or between two
unfoldable pub mixed : ℕ → Frame → Frame → Value
mixed position first next =
    if nat_le next.at first.at then first.value
    else between first.value next.value (position - first.at) (next.at - first.at)

-- before the first frame it is the first one's value, and after the last frame the last one's
abbrev pub mixed_at : ℕ → Option Frame → Option Frame → Option Value
mixed_at position None None = None
mixed_at position None (Some next) = Some next.value
mixed_at position (Some first) None = Some first.value
mixed_at position (Some first) (Some next) = Some (mixed position first next)

-- what the frames make of a property at a position, where any is of it
unfoldable pub value_at : Name → ℕ → List Frame → Option Value
value_at name position frames = mixed_at position (before name position frames) (after name position frames)
