-- A run tells the same in each form of frames, and its stream shows its text.
use Rattle.std.proofs.Common.{◌≡◌, ◌<◌, ◌^◌, ℕ, suc, Bool, true, false, List, [], ◌∷◌, ◌++◌, length, Option, Some, None, All, refl, sym, ap, ap₂, ◌∙◌, subst, arith}
use Rattle.std.specs.Prelude.{IfSome}
use Rattle.std.specs.Option.{option_map}
use Rattle.std.proofs.lemmas.List.Elements.{All-cons, All-nil}
use Rattle.fx_base.specs.declared.geometry.Rect.{Rect}
use Rattle.fx_damage.specs.Laws.{SameOutside}
use Rattle.fx_delta.specs.Stream.{shown}
use Rattle.fx_frame_text.specs.Frames.{frame_text}
use Rattle.fx_frame_text.specs.declared.forms.Form.{Form}
use Rattle.fx_frame_text.specs.declared.forms.Form.TheVariants.{Text, Delta}
use Rattle.fx_plain_frames.specs.Drawable.{IsDrawable}
use Rattle.fx_plain_frames.specs.Games.{Game}
use Rattle.fx_plain_frames.specs.Playing.{IsPlayed, IsShown, IsTold, IsToldBy, IsToldOf, explained_by, is_pulse, no_line, one_line, time_line}
use Rattle.fx_plain_frames.specs.Pulses.{image_in, told_of}
use Rattle.fx_plain_runs.specs.Runs.{IsWritten}
use Rattle.fx_plain_runs.specs.declared.manners.Manner.{Manner}
use Rattle.fx_plain_steps.specs.Told.{Told, texts_of}
use Rattle.fx_pulse_model.specs.Frames.{Framed}
use Rattle.fx_script_commands.specs.Requests.{Numbered}
use Rattle.fx_script_lines.specs.declared.instructions.Instruction.{Instruction}
use Rattle.fx_delta_runs.specs.Frames.{AreDrawn, AreLines, IsProper, Telling, last_behind, told_in, tolds_in}
use Rattle.fx_delta_runs.specs.Runs as runs
use Rattle.fx_delta_runs.specs.Runs.{AreProper, AreShown, IsFirst, IsPlayedDrawn, IsRun, IsShownAs, IsTelling, in_form, none_played, one_played, written_in}
use Rattle.fx_delta_runs.proofs.StreamLemmas.{ViewersShow, shown_all}

-- ---- one line
-- a line that tells so in this form
record Tells (form : Form) (line : Numbered) (before now : Game) (told : Told) : Type 0 where
  telling : Telling
  tells : IsTelling line before now telling
  same : told ≡ told_in form before.frames before.last telling

-- a frame
framed : (form : Form) (line : Numbered) (before now : Game) (told : Told) (cost : ℕ) → is_pulse line.request ≡ true
    → IsShown form line.number before now told cost → Tells form line before now told
framed form line before now told cost pulse s =
    record {
      telling = telling;
      tells = record {
        cost = cost;
        told = λ other.
            subst (λ (t : Bool). IsToldBy t other line before now (told_in other before.frames before.last telling) cost)
            (sym pulse)
            (record {
              pulsed = s.pulsed;
              drawn = s.drawn;
              own = s.own;
              made = s.made;
              course = s.course;
              further = s.further;
              settled = s.settled;
              after = s.after;
              told_so = sym (in_each other);
              sum = s.sum;
            });
        number = ap (λ (game : Game). game.frames) s.after ∙ s.made.count;
        last = ap (λ (game : Game). game.last) s.after ∙ s.made.drawn.last_one;
      };
      same = s.told_so ∙ in_each form;
    }
  where
    telling : Telling
    telling = record {
      frame = Some s.pulsed.frame;
      text = s.course.text;
      totals = (told_of form before s.drawn s.pulsed s.course).totals;
    }

    in_each : (other : Form)
        → told_of other before s.drawn s.pulsed s.course ≡ told_in other before.frames before.last telling
    in_each other =
        ap₂ (λ (n : ℕ) (rects : List Rect). record {
          text = frame_text other n (option_map image_in before.last) rects (image_in s.pulsed.frame) ++ s.course.text;
          totals = (told_of form before s.drawn s.pulsed s.course).totals;
        }) s.made.count s.made.drawn.damage

-- no frame
pub still : (line : Numbered) (before now : Game) (told : Told) (cost : ℕ) (instruction : Option Instruction)
    (asked : Option (List (List ℕ) × List ℕ)) → IsToldOf instruction asked line before now told cost
    → (now.frames ≡ before.frames) × (now.last ≡ before.last)
still line before now told cost (Some instruction) asked s =
    (ap (λ (game : Game). game.frames) s.after, ap (λ (game : Game). game.last) s.after)
still line before now told cost None (Some asked) s =
    (ap (λ (game : Game). game.frames) s.after, ap (λ (game : Game). game.last) s.after)
still line before now told cost None None s =
    (ap (λ (game : Game). game.frames) s.after, ap (λ (game : Game). game.last) s.after)

unframed : (form : Form) (line : Numbered) (before now : Game) (told : Told) (cost : ℕ) → is_pulse line.request ≡ false
    → IsToldOf (time_line line.request) (explained_by line.request) line before now told cost
    → Tells form line before now told
unframed form line before now told cost pulse s =
    let as_before = still line before now told cost (time_line line.request) (explained_by line.request) s in
    record {
      telling = record { frame = None; text = told.text; totals = told.totals };
      tells = record {
        cost = cost;
        told = λ other. subst (λ (t : Bool). IsToldBy t other line before now told cost) (sym pulse) s;
        number = as_before.0;
        last = as_before.1;
      };
      same = refl;
    }

tells : (form : Form) (line : Numbered) (before now : Game) (told : Told) (cost : ℕ)
    → IsTold form line before now told cost
    → Tells form line before now told
tells form line before now told cost is = by (is_pulse line.request) refl is
  where
    by : (t : Bool) → is_pulse line.request ≡ t → IsToldBy t form line before now told cost
        → Tells form line before now told
    by true e s = framed form line before now told cost e s
    by false e s = unframed form line before now told cost e s

-- ---- all lines
pub runs_are_one : (form : Form) (first : Game) (lines : List Numbered) (tolds : List Told)
    → IsPlayed form first lines tolds
    → (tellings : List Telling) × (IsRun first lines tellings)
    × (tolds ≡ tolds_in form first.frames first.last tellings)
runs_are_one form first [] tolds (no_line game) = ([], runs.no_line first, refl)
runs_are_one form first lines tolds (one_line game next line rest told others cost is played) =
    let one : Tells form line game next told = tells form line game next told cost is in
    let more = runs_are_one form next rest others played in
    let t : Telling = one.telling in (
      t ∷ more.0,
      runs.one_line game next line rest t more.0 one.tells more.1,
      ap₂ (λ (a : Told) (b : List Told). a ∷ b) one.same
          (more.2 ∙ ap₂ (λ (n : ℕ) (l : Option Framed). tolds_in form n l more.0) one.tells.number one.tells.last),
    )

pub runs_have_each_form : (form : Form) (first : Game) (lines : List Numbered) (tellings : List Telling)
    → IsRun first lines tellings → IsPlayed form first lines (tolds_in form first.frames first.last tellings)
runs_have_each_form form first lines tellings (runs.no_line game) = no_line game
runs_have_each_form form first lines tellings (runs.one_line game next line rest telling others is run) =
    one_line game next line rest (told_in form game.frames game.last telling)
    (tolds_in form _ _ others) is.cost (is.told form)
    (subst (λ (l : List Told). IsPlayed form next rest l)
    (ap₂ (λ (n : ℕ) (l : Option Framed). tolds_in form n l others) is.number is.last)
    (runs_have_each_form form next rest others run))

-- the frame that a line tells is the last one behind it
drawn_last : (last next now : Option Framed) → now ≡ last_behind last next → IfSome now IsDrawable
    → IfSome next IsDrawable
drawn_last last None now e is = tt
drawn_last last (Some next) now e is = subst (λ (o : Option Framed). IfSome o IsDrawable) e is

pub drawn_plays : (form : Form) (first : Game) (lines : List Numbered) (tolds : List Told)
    → IsPlayedDrawn form first lines tolds
    → (tellings : List Telling) × (IsRun first lines tellings)
    × (tolds ≡ tolds_in form first.frames first.last tellings) × AreDrawn tellings
drawn_plays form first lines tolds (none_played game) =
    ([], runs.no_line first, refl, All-nil (λ (t : Telling). IfSome t.frame IsDrawable))
drawn_plays form first lines tolds (one_played game next line rest told others cost is drawn played) =
    let one : Tells form line game next told = tells form line game next told cost is in
    let more = drawn_plays form next rest others played in
    let t : Telling = one.telling in (
      t ∷ more.0,
      runs.one_line game next line rest t more.0 one.tells more.1,
      ap₂ (λ (a : Told) (b : List Told). a ∷ b) one.same
          (more.2 ∙ ap₂ (λ (n : ℕ) (l : Option Framed). tolds_in form n l more.0) one.tells.number one.tells.last),
      All-cons (λ (t : Telling). IfSome t.frame IsDrawable) t more.0
          (drawn_last game.last t.frame next.last one.tells.last drawn) more.3,
    )

-- as many as there are lines
length-run : (first : Game) (lines : List Numbered) (tellings : List Telling) → IsRun first lines tellings
    → length tellings ≡ length lines
length-run first lines tellings (runs.no_line game) = refl
length-run first lines tellings (runs.one_line game next line rest telling others is run) =
    ap (λ (n : ℕ). suc n) (length-run next rest others run)

-- before the first frame
pub from_first : (form : Form) (first : Game) (tellings : List Telling) → IsFirst first
    → tolds_in form first.frames first.last tellings ≡ tolds_in form 0 None tellings
from_first form first tellings is = ap₂ (λ (n : ℕ) (l : Option Framed). tolds_in form n l tellings) is.none is.last

-- ---- what is shown of a run
-- the two texts of a run
record Pair (warnings : List ℕ) (first : Game) (tellings : List Telling) (stream text : List ℕ) : Type 0 where
  stream_so : stream ≡ warnings ++ texts_of (tolds_in Delta first.frames first.last tellings)
  text_so : text ≡ warnings ++ texts_of (tolds_in Text first.frames first.last tellings)

pair_shown : SameOutside → ViewersShow → (warnings : List ℕ) (first : Game) (lines : List Numbered)
    (tellings : List Telling) (stream text : List ℕ) → IsFirst first → length lines < 2 ^ 64 → AreLines warnings
    → All IsProper tellings → IsRun first lines tellings → Pair warnings first tellings stream text
    → shown stream ≡ record { bytes = text; bad = None }
pair_shown outside viewer warnings first lines tellings stream text is small warned proper run pair =
    let long : length tellings ≡ length lines = length-run first lines tellings run in
    ap shown (pair.stream_so ∙ ap (λ (l : List Told). warnings ++ texts_of l) (from_first Delta first tellings is))
    ∙ shown_all outside viewer warnings tellings warned (omega (arith, small, long)) proper
    ∙ ap (λ (l : List ℕ). record { bytes = l; bad = None })
    (sym (pair.text_so ∙ ap (λ (l : List Told). warnings ++ texts_of l) (from_first Text first tellings is)))

pub streams_show_their_runs : SameOutside → ViewersShow → (manner : Manner) (warnings : List ℕ) (first : Game)
    (lines : List Numbered) (stream : List ℕ) → IsFirst first → length lines < 2 ^ 64 → AreLines warnings
    → AreProper first lines → IsWritten (in_form Delta manner) warnings first lines stream
    → (text : List ℕ) × IsShownAs manner warnings first lines stream text
streams_show_their_runs outside viewer manner warnings first lines stream is small warned proper written =
    let one = runs_are_one Delta first lines written.tolds written.played in
    let tellings : List Telling = one.0 in
    let texts : List Told = tolds_in Text first.frames first.last tellings in
    let text : List ℕ = warnings ++ texts_of texts in (
      text,
      record {
        written = record {
          tolds = texts;
          played = runs_have_each_form Text first lines tellings one.1;
          written = refl;
        };
        shows = pair_shown outside viewer warnings first lines tellings stream text is small warned
            (proper tellings one.1) one.1
            (record {
              stream_so = written.written ∙ ap (λ (l : List Told). warnings ++ texts_of l) one.2;
              text_so = refl;
            });
      },
    )

pub runs_are_shown : SameOutside → ViewersShow → (manner : Manner) (warnings : List ℕ) (first : Game)
    (lines : List Numbered) (text : List ℕ) → IsFirst first → length lines < 2 ^ 64 → AreLines warnings
    → AreProper first lines → IsWritten (in_form Text manner) warnings first lines text
    → (stream : List ℕ) × (IsWritten (in_form Delta manner) warnings first lines stream)
    × (shown stream ≡ record { bytes = text; bad = None })
runs_are_shown outside viewer manner warnings first lines text is small warned proper written =
    let one = runs_are_one Text first lines written.tolds written.played in
    let tellings : List Telling = one.0 in
    let streams : List Told = tolds_in Delta first.frames first.last tellings in
    let stream : List ℕ = warnings ++ texts_of streams in (
      stream,
      record { tolds = streams; played = runs_have_each_form Delta first lines tellings one.1; written = refl },
      pair_shown outside viewer warnings first lines tellings stream text is small warned
          (proper tellings one.1) one.1
          (record {
            stream_so = refl;
            text_so = written.written ∙ ap (λ (l : List Told). warnings ++ texts_of l) one.2;
          }),
    )

-- ---- one run
-- what it writes in this form
written : (form : Form) (manner : Manner) (warnings : List ℕ) (first : Game) (lines : List Numbered)
    (tellings : List Telling) → IsFirst first → IsRun first lines tellings
    → IsWritten (in_form form manner) warnings first lines (written_in form warnings tellings)
written form manner warnings first lines tellings is run =
    record {
      tolds = tolds_in form 0 None tellings;
      played = subst (λ (l : List Told). IsPlayed form first lines l) (from_first form first tellings is)
          (runs_have_each_form form first lines tellings run);
      written = refl;
    }

pub one_is_shown : SameOutside → ViewersShow → (manner : Manner) (warnings : List ℕ) (first : Game)
    (lines : List Numbered) (tellings : List Telling) → IsFirst first → length lines < 2 ^ 64 → AreLines warnings
    → IsRun first lines tellings → All IsProper tellings → AreShown manner warnings first lines tellings
one_is_shown outside viewer manner warnings first lines tellings is small warned run proper =
    let long : length tellings ≡ length lines = length-run first lines tellings run in
    record {
      stream = written Delta manner warnings first lines tellings is run;
      text = written Text manner warnings first lines tellings is run;
      shows = shown_all outside viewer warnings tellings warned (omega (arith, small, long)) proper;
    }
