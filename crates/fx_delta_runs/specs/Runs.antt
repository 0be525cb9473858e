-- What the lines of a script tell, apart from the form of frames.
use Rattle.std.specs.Prelude.{◌≡◌, ℕ, false, List, [], ◌∷◌, ◌++◌, All, IfSome, None}
use Rattle.fx_delta.specs.Stream.{shown}
use Rattle.fx_frame_text.specs.declared.forms.Form.{Form}
use Rattle.fx_frame_text.specs.declared.forms.Form.TheVariants.{Delta, Text}
use Rattle.fx_plain_frames.specs.Drawable.{IsDrawable}
use Rattle.fx_plain_frames.specs.Games.{Game}
use Rattle.fx_plain_frames.specs.Playing.{IsTold}
use Rattle.fx_plain_runs.specs.Runs.{IsWritten}
use Rattle.fx_plain_runs.specs.declared.manners.Manner.{Manner}
use Rattle.fx_plain_steps.specs.Told.{Told, texts_of}
use Rattle.fx_script_commands.specs.Requests.{Numbered}
use Rattle.fx_delta_runs.specs.Frames.{IsProper, Telling, last_behind, number_behind, told_in, tolds_in}

-- a line tells so between two games, in each form of frames, at the same cost
pub record IsTelling (line : Numbered) (before now : Game) (telling : Telling) : Type 0 where
  pub cost : ℕ
  pub told : (form : Form) → IsTold form line before now (told_in form before.frames before.last telling) cost
  pub number : now.frames ≡ number_behind before.frames telling.frame
  pub last : now.last ≡ last_behind before.last telling.frame

-- what is told of each of the lines, one after another
pub data IsRun : Game → List Numbered → List Telling → Type 0 where
  no_line : (game : Game) → IsRun game [] []
  one_line : (game next : Game) (line : Numbered) (lines : List Numbered) (telling : Telling) (rest : List Telling)
      → IsTelling line game next telling → IsRun next lines rest → IsRun game (line ∷ lines) (telling ∷ rest)

-- what is told of each of the lines with frames in this form, where the last frame behind each of them can be drawn
pub data IsPlayedDrawn (form : Form) : Game → List Numbered → List Told → Type 0 where
  none_played : (game : Game) → IsPlayedDrawn form game [] []
  one_played : (game next : Game) (line : Numbered) (lines : List Numbered) (told : Told) (rest : List Told) (cost : ℕ)
      → IsTold form line game next told cost → IfSome next.last IsDrawable → IsPlayedDrawn form next lines rest
      → IsPlayedDrawn form game (line ∷ lines) (told ∷ rest)

-- whatever these lines tell of this game is proper
abbrev pub AreProper : Game → List Numbered → Type 0
AreProper first lines = (tellings : List Telling) → IsRun first lines tellings → All IsProper tellings

-- before the first frame
pub record IsFirst (game : Game) : Type 0 where
  pub none : game.frames ≡ 0
  pub last : game.last ≡ None

-- all lines are written, with frames in this form
abbrev pub in_form : Form → Manner → Manner
in_form form manner = record manner { form = form; summary = false }

-- the run writes a text of which a viewer of its stream shows just that
pub record IsShownAs (manner : Manner) (warnings : List ℕ) (first : Game) (lines : List Numbered)
    (stream text : List ℕ) : Type 0 where
  pub written : IsWritten (in_form Text manner) warnings first lines text
  pub shows : shown stream ≡ record { bytes = text; bad = None }

-- all that is written where lines tell so from the beginning, with frames in this form
abbrev pub written_in : Form → List ℕ → List Telling → List ℕ
written_in form warnings tellings = warnings ++ texts_of (tolds_in form 0 None tellings)

-- where its lines tell so, the run writes this stream and this text, and of the stream a viewer shows just the text
pub record AreShown (manner : Manner) (warnings : List ℕ) (first : Game) (lines : List Numbered)
    (tellings : List Telling) : Type 0 where
  pub stream : IsWritten (in_form Delta manner) warnings first lines (written_in Delta warnings tellings)
  pub text : IsWritten (in_form Text manner) warnings first lines (written_in Text warnings tellings)
  pub shows : shown (written_in Delta warnings tellings)
      ≡ record { bytes = written_in Text warnings tellings; bad = None }
