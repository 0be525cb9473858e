-- The last frame behind each line that is told can be drawn.
use Rattle.std.proofs.Common.{ℕ, Bool, true, false, List, Option, Some, None, sym, ap, ◌∙◌, subst}
use Rattle.std.specs.Prelude.{IfSome, Ok}
use Rattle.fx_damage.specs.Laws.{SameOutside}
use Rattle.fx_frame_text.specs.declared.forms.Form.{Form}
use Rattle.fx_frame_text.specs.declared.forms.Form.TheVariants.{Delta}
use Rattle.fx_load.specs.Loading.{IsElaborated, Loaded}
use Rattle.fx_load_parts.specs.Files.{Run}
use Rattle.fx_plain_frames.specs.Drawable.{IsDrawable}
use Rattle.fx_plain_frames.specs.Games.{Game}
use Rattle.fx_plain_frames.specs.Playing.{IsPlayed, IsTold, IsToldBy, IsToldOf, explained_by, is_pulse, no_line, one_line, time_line}
use Rattle.fx_plain_runs.specs.Runs.{IsBegun, IsWritten}
use Rattle.fx_plain_runs.specs.declared.manners.Manner.{Manner}
use Rattle.fx_plain_steps.specs.Told.{Told}
use Rattle.fx_port.specs.Files.{Files}
use Rattle.fx_pulse_model.specs.Frames.{Framed}
use Rattle.fx_script_commands.specs.Requests.{Numbered}
use Rattle.fx_script_lines.specs.declared.instructions.Instruction.{Instruction}
use Rattle.fx_delta_runs.specs.Runs.{IsPlayedDrawn, IsShownAs, in_form, none_played, one_played}
use Rattle.fx_delta_runs.specs.Tame.{AreNames}
use Rattle.fx_delta_runs.proofs.BeginLemmas.{begins}
use Rattle.fx_delta_runs.proofs.LoadedLemmas.{plays_are_shown}
use Rattle.fx_delta_runs.proofs.StreamLemmas.{ViewersShow}

abbrev IsLast : Option Framed → Type 0
IsLast last = IfSome last IsDrawable

-- a line that draws no frame keeps the last one
by_other : (form : Form) (line : Numbered) (before now : Game) (told : Told) (cost : ℕ) (timed : Option Instruction)
    (asked : Option (List (List ℕ) × List ℕ)) → IsToldOf timed asked line before now told cost → IsLast before.last
    → IsLast now.last
by_other form line before now told cost (Some instruction) asked s last =
    subst IsLast (sym (ap (λ (g : Game). g.last) s.after)) last
by_other form line before now told cost None (Some asked) s last =
    subst IsLast (sym (ap (λ (g : Game). g.last) s.after)) last
by_other form line before now told cost None None s last =
    subst IsLast (sym (ap (λ (g : Game). g.last) s.after)) last

by_line : (form : Form) (line : Numbered) (before now : Game) (told : Told) (cost : ℕ) (pulse : Bool)
    → IsToldBy pulse form line before now told cost → IsLast before.last → IsLast now.last
by_line form line before now told cost true s last =
    subst IsLast (sym (ap (λ (g : Game). g.last) s.after ∙ s.made.drawn.last_one)) s.made.drawn.drawable
by_line form line before now told cost false s last =
    by_other form line before now told cost (time_line line.request) (explained_by line.request) s last

line_drawn : (form : Form) (line : Numbered) (before now : Game) (told : Told) (cost : ℕ)
    → IsTold form line before now told cost
    → IsLast before.last → IsLast now.last
line_drawn form line before now told cost s last = by_line form line before now told cost (is_pulse line.request) s last

pub played_drawn : (form : Form) (first : Game) (lines : List Numbered) (tolds : List Told)
    → IsPlayed form first lines tolds → IsLast first.last → IsPlayedDrawn form first lines tolds
played_drawn form first lines tolds (no_line game) last = none_played first
played_drawn form first lines tolds (one_line game next line rest told others cost one more) last =
    let behind : IsLast next.last = line_drawn form line game next told cost one last in
    one_played game next line rest told others cost one behind (played_drawn form next rest others more behind)

-- a run over files, whatever it tells
pub streams_are_shown : SameOutside → ViewersShow → (run : Run) (files : Files) (loaded : Loaded) (manner : Manner)
    (first : Game) (stream : List ℕ) → IsElaborated run files (Ok loaded) → AreNames loaded.files
    → IsBegun manner.window loaded.tasks first
    → IsWritten (in_form Delta manner) loaded.warnings first loaded.lines stream
    → (text : List ℕ) × IsShownAs manner loaded.warnings first loaded.lines stream text
streams_are_shown outside viewer run files loaded manner first stream is names begun written =
    let start = begins manner.window loaded.tasks first begun in
    let last : IsLast first.last = subst IsLast (sym start.0.last) tt in
    let drawn = played_drawn Delta first loaded.lines written.tolds written.played last in
    let one = plays_are_shown outside viewer run files loaded manner first written.tolds is names begun drawn in (
      one.0,
      subst (λ (bytes : List ℕ). IsShownAs manner loaded.warnings first loaded.lines bytes one.0)
          (sym written.written) one.1,
    )
