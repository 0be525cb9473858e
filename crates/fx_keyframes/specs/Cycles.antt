-- Where a timeline stands in its cycles: JavaFX 21 API, javafx.animation.Timeline (cycleCount, autoReverse).
-- Cited by src/cycles.rt.
use Rattle.std.specs.Prelude.{ℕ, ◌*◌, ◌-◌, ◌/◌, ◌%◌, ◌==◌, ◌&&◌, Bool, false, nat_le, Option, Some, None, if◌then◌else◌}
use Rattle.fx_keyframes.specs.declared.cycles.Cycles.{Cycles}

-- a finite number of cycles has passed
abbrev pub is_over : Cycles → ℕ → ℕ → Bool
is_over cycles longest elapsed = ends_by cycles.count longest elapsed
  where
    ends_by : Option ℕ → ℕ → ℕ → Bool
    ends_by None longest elapsed = false
    ends_by (Some count) longest elapsed = nat_le (longest * count) elapsed

-- at the end: where the last cycle ends, which is the start where it ran backwards
abbrev pub last : Cycles → ℕ → ℕ
last cycles longest = end_of cycles.count
  where
    end_of : Option ℕ → ℕ
    end_of None = longest
    end_of (Some count) = if cycles.reverse && (count % 2 == 0) then 0 else longest

-- every second cycle runs backwards
abbrev pub is_turned : Cycles → ℕ → ℕ → Bool
is_turned cycles longest elapsed = cycles.reverse && (elapsed / longest % 2 == 1)

-- the position in the cycle after so much time
unfoldable pub position : Cycles → ℕ → ℕ → ℕ
position cycles longest elapsed =
    if longest == 0 then 0
    else (if is_over cycles longest elapsed then last cycles longest
    else (if is_turned cycles longest elapsed then longest - elapsed % longest else elapsed % longest))
