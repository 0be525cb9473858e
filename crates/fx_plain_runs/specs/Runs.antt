-- A script played on a loaded scene, and what it writes.
use Rattle.std.specs.Prelude.{◌≡◌, ℕ, List, ◌++◌, Option, Some, None, Result, OnErr, OnOk, Ok, Err, if◌then◌else◌, take}
use Rattle.fx_frame_text.specs.declared.forms.Form.{Form}
use Rattle.fx_plain_frames.specs.Games.{Game, begun}
use Rattle.fx_plain_frames.specs.Playing.{IsPlayed}
use Rattle.fx_plain_steps.specs.Told.{Told, Totals, summary_line, texts_of, totals_of}
use Rattle.fx_port.specs.Pieces.{GrewByPrefix, grown}
use Rattle.fx_scene_acts.specs.Acts.{IsActed}
use Rattle.fx_scene_acts.specs.declared.tasks.SceneFault.{SceneFault}
use Rattle.fx_scene_acts.specs.declared.tasks.Task.{Task}
use Rattle.fx_scene_plan.specs.Plans.{Standing}
use Rattle.fx_script_commands.specs.Requests.{Numbered}
use Rattle.fx_stage_model.specs.World.{World, nowhere}
use Rattle.fx_plain_runs.specs.declared.manners.Manner.{Manner}

-- a world in the window that the run has, if it has one
abbrev pub in_window : Option (ℕ × ℕ) → World → World
in_window None world = world
in_window (Some window) world = record world { window = Some window }

-- the tasks of a scene are done on a bare stage, and no frame was made
pub record IsBegun (window : Option (ℕ × ℕ)) (tasks : List Task) (first : Game) : Type 0 where
  pub standing : Standing
  pub built : IsActed tasks nowhere (Ok standing)
  pub begins : first ≡ begun (in_window window standing.world)

-- this is the first fault of the tasks
abbrev pub IsFaulty : List Task → SceneFault → Type 0
IsFaulty tasks fault = IsActed tasks nowhere (Err fault)

-- what is written of what lines tell: what was dropped of sheets, and then one line behind the other; or the totals of
-- them all
abbrev pub written_of : Manner → List ℕ → List Told → List ℕ
written_of manner warnings tolds =
    if manner.summary then summary_line (totals_of tolds) else warnings ++ texts_of tolds

-- what is written of these lines
pub record IsWritten (manner : Manner) (warnings : List ℕ) (first : Game) (lines : List Numbered) (bytes : List ℕ)
    : Type 0 where
  pub tolds : List Told
  pub played : IsPlayed manner.form first lines tolds
  pub written : bytes ≡ written_of manner warnings tolds

-- these are the totals of what the lines tell
pub record AreCounted (form : Form) (first : Game) (lines : List Numbered) (totals : Totals) : Type 0 where
  pub tolds : List Told
  pub played : IsPlayed form first lines tolds
  pub counted : totals ≡ totals_of tolds

-- a sink took all that is written of these lines
pub record IsPutWhole (manner : Manner) (warnings : List ℕ) (first : Game) (lines : List Numbered)
    (old new : Option (List ℕ)) : Type 0 where
  pub bytes : List ℕ
  pub written : IsWritten manner warnings first lines bytes
  pub told : new ≡ grown old bytes

-- a sink took a part of what is written of the first of these lines
pub record IsPutPart (manner : Manner) (warnings : List ℕ) (first : Game) (lines : List Numbered)
    (old new : Option (List ℕ)) : Type 0 where
  pub count : ℕ
  pub bytes : List ℕ
  pub written : IsWritten manner warnings first (take count lines) bytes
  pub part : GrewByPrefix old new bytes

pub record IsPut {E : Type 0} (manner : Manner) (warnings : List ℕ) (first : Game) (lines : List Numbered)
    (old new : Option (List ℕ)) (result : Result (Unit {0}) E) : Type 0 where
  pub ok : OnOk result (IsPutWhole manner warnings first lines old new)
  pub err : OnErr result (IsPutPart manner warnings first lines old new)
