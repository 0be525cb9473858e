-- A line that is taken and counted, and the lines that are left.
use Rattle.std.proofs.Common.{◌≡◌, ◌≤◌, ◌<◌, ◌+◌, ◌^◌, ℕ, true, List, [], ◌∷◌, ◌++◌, Option, Result, Vec, length, map, vec_len, ap, ◌∙◌, sym, subst, refl, arith}
use Rattle.std.specs.Global.{Global}
use Rattle.std.specs.Prelude.{reverse}
use Rattle.std.proofs.lemmas.List.{length-append, length-map, reverse-append, reverse-reverse}
use Rattle.fx_frame_text.specs.declared.forms.Form.{Form}
use Rattle.fx_plain_frames.specs.Games.{Game}
use Rattle.fx_plain_runs.proofs.CountingLemmas.{IsCounting, begins, ends, goes_on}
use Rattle.fx_plain_runs.proofs.PlayingLemmas.{totals_put}
use Rattle.fx_plain_runs.specs.Runs.{AreCounted, IsPut}
use Rattle.fx_plain_runs.specs.declared.manners.Manner.{Manner}
use Rattle.fx_plain_steps.specs.Told.{AreSmall, Totals, added, no_totals, summary_line}
use Rattle.fx_port.specs.Pieces.{Writes}
use Rattle.fx_script_commands.specs.Requests.{Numbered, line_view}
use Rattle.fx_script_commands.specs.declared.commands.Line.{Line}
use Rattle.fx_play_runs.specs.Lines.{IsLineCounted}
use Rattle.fx_play_runs.proofs.LineLemmas.{next_line, nothing_left}

-- no line is left
pub none_uncounted : (form : Form) {first now : Game} {all : List Numbered} {totals : Totals} (left : Vec Line Global)
    → vec_len left ≡ 0 → IsCounting form first now all (map line_view (reverse left.items)) totals
    → AreCounted form first all totals
none_uncounted form {first} {now} {all} {totals} left h so =
    let IsLast : List Line → Type 0 =
    λ lines. IsCounting form first now all (map line_view (reverse lines)) totals in
    ends (subst IsLast (nothing_left left.items (let long : length left.items ≡ vec_len left = cc in long ∙ h)) so)

-- the totals have room for a line more
pub record HaveRoom (totals more : Totals) : Type 0 where
  pub frames : totals.frames + more.frames < 2 ^ 128
  pub area : totals.area + more.area < 2 ^ 128
  pub notices : totals.notices + more.notices < 2 ^ 128
  pub pixels : totals.pixels + more.pixels < 2 ^ 128

pub adds_up : {form : Form} {first now : Game} {left : List Numbered} {totals more : Totals} (lines : Vec Line Global)
    (so : IsCounting form first now (map line_view lines.items) left totals) → vec_len lines ≤ 100000
    → AreSmall more → HaveRoom totals more
adds_up {form} {first} {now} {left} {totals} {more} lines so few small =
    let seen : length (map line_view lines.items) ≡ length lines.items = length-map lines.items line_view in
    let held : length lines.items ≡ vec_len lines = cc in
    let split : length so.done + length left ≡ length (map line_view lines.items) =
    sym (length-append so.done left) ∙ ap length so.joins in
    let short : length so.done ≤ 100000 = omega (arith, seen, held, split, few) in
    record {
      frames = omega (arith, so.frames, short, small.frames);
      area = omega (arith, so.area, short, small.area);
      notices = omega (arith, so.notices, short, small.notices);
      pixels = omega (arith, so.pixels, short, small.pixels);
    }

-- the totals of all lines are told, or a part of that
pub totals_told : {E : Type 0} {manner : Manner} {warnings : List ℕ} {first : Game} {all : List Numbered}
    {old new : Option (List ℕ)} {totals : Totals} {slice text : List ℕ} (result : Result (Unit {0}) E)
    → manner.summary ≡ true → AreCounted manner.form first all totals → slice ≡ text → text ≡ summary_line totals
    → Writes old new result slice → IsPut manner warnings first all old new result
totals_told {E} {manner} {warnings} {first} {all} {old} {new} {totals} {slice} {text} result h so same told writes =
    let AreWritten : List ℕ → Type 0 = λ bytes. Writes old new result bytes in
    totals_put result h so (subst AreWritten (same ∙ told) writes)
