-- What is played for the run that the words ask for.
use Rattle.std.specs.Prelude.{ℕ, List, Option, Some, None, codes}
use Rattle.std.specs.Option.{option_map}
use Rattle.fx_frame_text.specs.declared.forms.Form.{Form}
use Rattle.fx_frame_text.specs.declared.forms.Form.TheVariants as form
use Rattle.fx_load_parts.specs.Files.{Run}
use Rattle.fx_plain_runs.specs.declared.manners.Manner.{Manner}
use Rattle.fx_words.specs.Reading.{accept}
use Rattle.fx_words.specs.declared.runs.Frames.{Frames}
use Rattle.fx_words.specs.declared.runs.Frames.TheVariants as frames
use Rattle.fx_words.specs.declared.runs.Run.{Run as Asked}
use Rattle.fx_words.specs.declared.runs.Size.{Size}
use Rattle.fx_words.specs.declared.runs.Source.{Source}
use Rattle.fx_words.specs.declared.runs.Source.TheVariants as source

-- a run over files is played in some manner, or the demo of so many labels; or no run is asked for
pub data Plan : Type 0 where
  Plays : Run → Manner → Plan
  PlaysDemo : ℕ → Manner → Plan
  ShowsUsage : Plan

abbrev pub window_of : Size → ℕ × ℕ
window_of size = (size.width, size.height)

abbrev pub form_of : Frames → Form
form_of frames.Text = form.Text
form_of frames.Ppm = form.Ppm
form_of frames.Nothing = form.Nothing
form_of frames.Delta = form.Delta

abbrev pub manner_of : Asked → Manner
manner_of run =
    record { window = option_map window_of run.size; form = form_of run.frames; summary = run.summary }

-- what is played is played in this manner
abbrev pub played : Source → Manner → Plan
played (source.Demo number) manner = PlaysDemo number manner
played (source.Files scene script sheets) manner =
    Plays (record { scene = scene; script = script; sheets = sheets }) manner

abbrev pub plan_of_run : Asked → Plan
plan_of_run run = played run.source (manner_of run)

abbrev pub plan_of : Option Asked → Plan
plan_of None = ShowsUsage
plan_of (Some run) = plan_of_run run

-- what is played for the words behind the program's name
abbrev pub plan_in : List (List ℕ) → Plan
plan_in words = plan_of (accept words)

-- only a run over files fetches any
abbrev pub Fetches : Plan → Type 0
Fetches (Plays run manner) = Unit {0}
Fetches (PlaysDemo number manner) = ⊥
Fetches ShowsUsage = ⊥

unfoldable pub usage_line : List ℕ
usage_line =
    codes "usage: fxplay SCENE SCRIPT [SHEET..] [--size WxH] [--frames text|ppm|none|delta] [--summary]\n"
