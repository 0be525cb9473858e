-- What is answered of a scene that is to be staged.
use Rattle.std.specs.Prelude.{ℕ, List, Option, Result, Ok, Err}
use Rattle.fx_plain_runs.specs.Runs.{IsBegun, IsFaulty}
use Rattle.fx_play_frames.specs.Games.{game_of}
use Rattle.fx_play_frames.specs.declared.game.Game.{Game}
use Rattle.fx_scene_acts.specs.declared.tasks.Task.{Task}
use Rattle.fx_scene_raise.specs.declared.errors.RaiseError.{RaiseError}
use Rattle.fx_scene_raise.specs.declared.errors.RaiseError.TheVariants.{Fault, Memory}

-- the game of the raised scene, or its first fault; want of memory says nothing
abbrev pub IsStaged : Option (ℕ × ℕ) → List Task → Result Game RaiseError → Type 0
IsStaged window tasks (Ok game) = IsBegun window tasks (game_of game)
IsStaged window tasks (Err (Fault fault)) = IsFaulty tasks fault
IsStaged window tasks (Err Memory) = Unit {0}
