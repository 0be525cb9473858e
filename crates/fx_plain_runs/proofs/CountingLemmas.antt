-- Lines that are taken and counted one by one.
use Rattle.std.proofs.Common.{◌≡◌, ◌≤◌, ◌+◌, ◌*◌, ◌^◌, ℕ, true, List, [], ◌∷◌, ◌++◌, length, append_assoc, append-nil, length-append, ap, sym, ◌∙◌, subst, refl, arith}
use Rattle.fx_frame_text.specs.declared.forms.Form.{Form}
use Rattle.fx_plain_runs.specs.Runs.{AreCounted, IsWritten, written_of}
use Rattle.fx_plain_runs.specs.declared.manners.Manner.{Manner}
use Rattle.fx_plain_frames.specs.Games.{Game}
use Rattle.fx_plain_frames.specs.Playing.{IsPlayed, IsTold}
use Rattle.fx_plain_frames.proofs.PlayedLemmas.{IsUnderway, done_played, line_done, not_begun}
use Rattle.fx_plain_steps.specs.Told.{AreSmall, Told, Totals, added, no_totals, summary_line, totals_of}
use Rattle.fx_plain_steps.proofs.ToldLemmas.{totals-snoc}
use Rattle.fx_script_commands.specs.Requests.{Numbered}

-- some lines were played and counted, and these are left
pub record IsCounting (form : Form) (first now : Game) (all left : List Numbered) (totals : Totals) : Type 0 where
  pub done : List Numbered
  pub tolds : List Told
  pub joins : done ++ left ≡ all
  pub under : IsUnderway form first now done tolds
  pub counted : totals ≡ totals_of tolds
  pub frames : totals.frames ≤ length done
  pub area : totals.area ≤ length done * 2 ^ 90
  pub notices : totals.notices ≤ length done * 2 ^ 64
  pub pixels : totals.pixels ≤ length done * 2 ^ 64

unfoldable pub begins : (form : Form) (first : Game) (all : List Numbered) → IsCounting form first first all all no_totals
unfolding totals_of
begins form first all = record {
  done = [];
  tolds = [];
  joins = refl;
  under = not_begun form first;
  counted = refl;
  frames = omega arith;
  area = omega arith;
  notices = omega arith;
  pixels = omega arith;
}

unfoldable pub goes_on : {form : Form} {first now next : Game} {all left : List Numbered} {totals : Totals} (line : Numbered) (told : Told)
    (more : Totals) → IsCounting form first now all (line ∷ left) totals → (cost : ℕ)
    → IsTold form line now next told cost → more ≡ told.totals → AreSmall more
    → IsCounting form first next all left (added totals more)
goes_on {form} {first} {now} {next} {all} {left} {totals} line told more so cost is same small =
    let longer : length (so.done ++ line ∷ []) ≡ length so.done + 1 = length-append so.done (line ∷ []) in
    record {
      done = so.done ++ line ∷ [];
      tolds = so.tolds ++ told ∷ [];
      joins = append_assoc so.done (line ∷ []) left ∙ so.joins;
      under = line_done so.done so.tolds line told so.under cost is;
      counted = ap (λ (t : Totals). added t more) so.counted ∙ (ap (added (totals_of so.tolds)) same ∙ sym (totals-snoc so.tolds told));
      frames = omega (arith, so.frames, small.frames, longer);
      area = omega (arith, so.area, small.area, longer);
      notices = omega (arith, so.notices, small.notices, longer);
      pixels = omega (arith, so.pixels, small.pixels, longer);
    }

pub ends : {form : Form} {first now : Game} {all : List Numbered} {totals : Totals}
    → IsCounting form first now all [] totals → AreCounted form first all totals
ends {form} {first} {now} {all} {totals} so = record {
  tolds = so.tolds;
  played = subst (λ (ls : List Numbered). IsPlayed form first ls so.tolds) (sym (append-nil so.done) ∙ so.joins)
      (done_played so.done so.tolds so.under);
  counted = so.counted;
}

-- the summary is what is written of the lines
pub summed : {manner : Manner} {first : Game} {all : List Numbered} {totals : Totals} (warnings : List ℕ)
    → manner.summary ≡ true → AreCounted manner.form first all totals
    → IsWritten manner warnings first all (summary_line totals)
summed {manner} {first} {all} {totals} warnings h so = record {
  tolds = so.tolds;
  played = so.played;
  written = ap summary_line so.counted ∙ short so.tolds;
}
  where
    short : (tolds : List Told) → summary_line (totals_of tolds) ≡ written_of manner warnings tolds
    short tolds = rw h refl
