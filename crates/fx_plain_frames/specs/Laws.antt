-- What is true of every pulse.
use Rattle.std.specs.Prelude.{◌≡◌, ℕ}
use Rattle.fx_pulse_model.specs.Scenes.{IsScene}
use Rattle.fx_plain_frames.specs.Games.{Game}
use Rattle.fx_plain_frames.specs.Pulses.{IsPulsed, Pulsed, scene_of}

-- a pulse leaves nothing open, where the scene is in order: the game behind it, what is told of it, and its cost
abbrev pub OnePulse : Type 0
OnePulse = (before one other : Game) (first second : Pulsed) (cost more : ℕ) → IsScene (scene_of before.world)
    → IsPulsed before one first cost → IsPulsed before other second more
    → (one ≡ other) × ((first ≡ second) × (cost ≡ more))
