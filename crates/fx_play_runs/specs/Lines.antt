-- What is said of a line that is taken and written.
use Rattle.std.specs.Prelude.{◌≡◌, ℕ, List, Option}
use Rattle.fx_frame_text.specs.declared.forms.Form.{Form}
use Rattle.fx_plain_frames.specs.Games.{Game}
use Rattle.fx_plain_frames.specs.Playing.{IsTold}
use Rattle.fx_plain_runs.specs.Runs.{written_of}
use Rattle.fx_plain_runs.specs.declared.manners.Manner.{Manner}
use Rattle.fx_plain_steps.specs.Told.{Told, Totals, totals_of}
use Rattle.fx_plain_work.specs.Works.{Counted, IsWorked, Sight}
use Rattle.fx_port.specs.Pieces.{GrewByPrefix, grown}
use Rattle.fx_script_commands.specs.Requests.{Numbered}

-- the line is done at this cost, and all that it tells is written
pub record IsLineWhole (form : Form) (line : Numbered) (before now : Game) (old new : Option (List ℕ)) (cost : ℕ)
    : Type 0 where
  pub told : Told
  pub is : IsTold form line before now told cost
  pub wrote : new ≡ grown old told.text

-- nothing of what the line tells is written, or a part of it
pub data IsLinePart (form : Form) (line : Numbered) (before : Game) (old new : Option (List ℕ)) : Type 0 where
  none_written : new ≡ old → IsLinePart form line before old new
  part_written : (next : Game) (told : Told) (cost : ℕ) → IsTold form line before next told cost
      → GrewByPrefix old new told.text → IsLinePart form line before old new

-- the line is done at this cost, and adds this to the totals
pub record IsLineCounted (form : Form) (line : Numbered) (before now : Game) (totals : Totals) (cost : ℕ) : Type 0 where
  pub told : Told
  pub is : IsTold form line before now told cost
  pub adds : totals ≡ told.totals

-- All lines are done at this cost, and what they tell is written, one line behind the other or as their totals.
pub record AreDone (manner : Manner) (warnings : List ℕ) (first : Game) (start : Sight) (lines : List Numbered)
    (old new : Option (List ℕ)) (count last : Counted) (cost : ℕ) : Type 0 where
  pub tolds : List Told
  pub worked : IsWorked manner.form first start lines tolds count last cost
  pub wrote : new ≡ grown old (written_of manner warnings tolds)

-- all lines are done at this cost, and what they tell adds up to these totals
pub record AreAdded (form : Form) (first : Game) (start : Sight) (lines : List Numbered) (totals : Totals)
    (count last : Counted) (cost : ℕ) : Type 0 where
  pub tolds : List Told
  pub worked : IsWorked form first start lines tolds count last cost
  pub adds : totals ≡ totals_of tolds
