-- The work of lines that are taken, and of those that are left, beside what they tell.
use Rattle.std.proofs.Common.{◌≡◌, ◌∙◌, ℕ, Bool, false, true, List, [], ◌∷◌, ◌++◌, Option, OnOk, Result, Ok, Err, Vec, length, map, vec_len, ap, refl, subst, sym}
use Rattle.std.specs.Global.{Global}
use Rattle.std.specs.Prelude.{reverse}
use Rattle.std.proofs.lemmas.List.{reverse-append, reverse-reverse}
use Rattle.fx_frame_text.specs.declared.forms.Form.{Form}
use Rattle.fx_plain_dispatch.specs.Costs.{IsDoneWithin}
use Rattle.fx_plain_frames.specs.Games.{Game}
use Rattle.fx_plain_frames.specs.Playing.{IsTold, is_pulse}
use Rattle.fx_plain_runs.proofs.CountingLemmas as counting
use Rattle.fx_plain_runs.proofs.CountingLemmas.{IsCounting, summed}
use Rattle.fx_plain_runs.proofs.PlayingLemmas as playing
use Rattle.fx_plain_runs.proofs.PlayingLemmas.{IsPlaying}
use Rattle.fx_plain_runs.specs.Runs.{written_of}
use Rattle.fx_plain_runs.specs.declared.manners.Manner.{Manner}
use Rattle.fx_plain_steps.specs.Told.{AreSmall, Told, Totals, added, no_totals, summary_line, texts_of, totals_of}
use Rattle.fx_plain_work.specs.Works.{Counted, IsLineWork, IsWorked, Sight}
use Rattle.fx_plain_work.proofs.WorkLemmas as working
use Rattle.fx_plain_work.proofs.WorkLemmas.{IsWorking}
use Rattle.fx_port.specs.Pieces.{Writes, grown}
use Rattle.fx_script_commands.specs.Requests.{Numbered, line_view}
use Rattle.fx_script_commands.specs.declared.commands.Line.{Line}
use Rattle.fx_play_runs.specs.Lines.{AreAdded, AreDone, IsLineCounted, IsLineWhole}
use Rattle.fx_play_runs.proofs.LineLemmas.{next_line, nothing_left}

-- where the work began: the game, what was seen, all lines, and the counters
pub record Start : Type 0 where
  pub game : Game
  pub sight : Sight
  pub lines : List Numbered
  pub count : Counted
  pub evaluated : ℕ

-- how far it has come
pub record Point : Type 0 where
  pub game : Game
  pub sight : Sight
  pub count : Counted
  pub evaluated : ℕ

-- some lines were played and written, these are left, and the work so far is of just what was told
pub record GoesSo (form : Form) (warnings : List ℕ) (start : Start) (here : Point) (left : List Numbered)
    (old new : Option (List ℕ)) : Type 0 where
  pub playing : IsPlaying form warnings start.game here.game start.lines left old new
  pub working : IsWorking form start.game start.sight start.lines start.count start.evaluated here.game here.sight left
      playing.tolds here.count here.evaluated

-- the same of lines that are counted
pub record AddsSo (form : Form) (start : Start) (here : Point) (left : List Numbered) (totals : Totals) : Type 0 where
  pub counting : IsCounting form start.game here.game start.lines left totals
  pub working : IsWorking form start.game start.sight start.lines start.count start.evaluated here.game here.sight left
      counting.tolds here.count here.evaluated

abbrev pub started : Start → Point
started start =
    record { game = start.game; sight = start.sight; count = start.count; evaluated = start.evaluated }

-- all lines are left
pub all_to_do : (form : Form) (warnings : List ℕ) (start : Start) (lines : List Line) {left : List Line}
    {old new : Option (List ℕ)} → start.lines ≡ map line_view lines → left ≡ reverse lines → new ≡ grown old warnings
    → GoesSo form warnings start (started start) (map line_view (reverse left)) old new
unfolding playing.begins
all_to_do form warnings start lines {left} {old} {new} are turned told =
    let IsFirst : List Numbered → Type 0 = λ rest. GoesSo form warnings start (started start) rest old new in
    subst IsFirst (are ∙ ap (map line_view) (sym (ap reverse turned ∙ reverse-reverse lines)))
    (record {
      playing = playing.begins form warnings start.game start.lines old new told;
      working = working.begun form start.game start.sight start.lines start.count start.evaluated;
    })

one_next : {form : Form} {warnings : List ℕ} {start : Start} {here next : Point} {old mid new : Option (List ℕ)}
    {left : List Numbered} (line : Numbered) → GoesSo form warnings start here (line ∷ left) old mid
    → IsDoneWithin (IsLineWhole form line here.game next.game mid new) here.evaluated next.evaluated
    → IsLineWork (is_pulse line.request) here.game next.game here.sight next.sight here.count next.count
    → GoesSo form warnings start next left old new
unfolding playing.goes_on
one_next {form} {warnings} {start} {here} {next} {old} {mid} {new} {left} line so whole work = record {
  playing = playing.goes_on line whole.done.told so.playing whole.cost whole.done.is whole.done.wrote;
  working = working.goes_on line whole.done.told so.playing.tolds so.working
      (record { cost = whole.cost; done = whole.done.is; few = whole.few }) work;
}

pub one_done : {form : Form} {warnings : List ℕ} {start : Start} {here next : Point} {old mid new : Option (List ℕ)}
    (left rest : List Line) (line : Line) → left ≡ rest ++ (line ∷ [])
    → GoesSo form warnings start here (map line_view (reverse left)) old mid
    → IsDoneWithin (IsLineWhole form (line_view line) here.game next.game mid new) here.evaluated next.evaluated
    → IsLineWork (is_pulse (line_view line).request) here.game next.game here.sight next.sight here.count next.count
    → GoesSo form warnings start next (map line_view (reverse rest)) old new
one_done {form} {warnings} {start} {here} {next} {old} {mid} {new} left rest line e so whole work =
    let IsNext : List Numbered → Type 0 = λ lines. GoesSo form warnings start here lines old mid in
    one_next (line_view line) (subst IsNext (next_line left rest line e) so) whole work

-- no line is left
pub all_done : {manner : Manner} {warnings : List ℕ} {start : Start} {here : Point} {old new : Option (List ℕ)}
    (left : Vec Line Global) → vec_len left ≡ 0 → manner.summary ≡ false
    → GoesSo manner.form warnings start here (map line_view (reverse left.items)) old new
    → IsDoneWithin (AreDone manner warnings start.game start.sight start.lines old new start.count here.count)
    start.evaluated here.evaluated
all_done {manner} {warnings} {start} {here} {old} {new} left none long so =
    by (subst IsLast (nothing_left left.items (let same : length left.items ≡ vec_len left = cc in same ∙ none)) so)
  where
    IsLast : List Line → Type 0
    IsLast lines = GoesSo manner.form warnings start here (map line_view (reverse lines)) old new

    written : (tolds : List Told) → warnings ++ texts_of tolds ≡ written_of manner warnings tolds
    written tolds = rw long refl

    by : GoesSo manner.form warnings start here [] old new
        → IsDoneWithin (AreDone manner warnings start.game start.sight start.lines old new start.count here.count)
        start.evaluated here.evaluated
    by s =
        let worked = working.ends s.playing.tolds s.working in
        record {
          cost = worked.cost;
          done = record {
            tolds = s.playing.tolds;
            worked = worked.done;
            wrote = s.playing.written ∙ ap (grown old) (written s.playing.tolds);
          };
          few = worked.few;
        }

-- the same of lines that are counted

pub all_to_add : (form : Form) (start : Start) (lines : List Line) {left : List Line} → start.lines ≡ map line_view lines
    → left ≡ reverse lines → AddsSo form start (started start) (map line_view (reverse left)) no_totals
unfolding counting.begins
all_to_add form start lines {left} are turned =
    let IsFirst : List Numbered → Type 0 = λ rest. AddsSo form start (started start) rest no_totals in
    subst IsFirst (are ∙ ap (map line_view) (sym (ap reverse turned ∙ reverse-reverse lines)))
    (record {
      counting = counting.begins form start.game start.lines;
      working = working.begun form start.game start.sight start.lines start.count start.evaluated;
    })

next_added : (form : Form) {start : Start} {here next : Point} {totals more : Totals} {left : List Numbered} (line : Numbered)
    → AddsSo form start here (line ∷ left) totals
    → IsDoneWithin (IsLineCounted form line here.game next.game more) here.evaluated next.evaluated
    → IsLineWork (is_pulse line.request) here.game next.game here.sight next.sight here.count next.count
    → AreSmall more → AddsSo form start next left (added totals more)
unfolding counting.goes_on
next_added form {start} {here} {next} {totals} {more} {left} line so counted work small = record {
  counting = counting.goes_on line counted.done.told more so.counting counted.cost counted.done.is counted.done.adds small;
  working = working.goes_on line counted.done.told so.counting.tolds so.working
      (record { cost = counted.cost; done = counted.done.is; few = counted.few }) work;
}

pub one_added : (form : Form) {start : Start} {here next : Point} {totals more sum : Totals} (left rest : List Line) (line : Line)
    → left ≡ rest ++ (line ∷ []) → AddsSo form start here (map line_view (reverse left)) totals
    → IsDoneWithin (IsLineCounted form (line_view line) here.game next.game more) here.evaluated next.evaluated
    → IsLineWork (is_pulse (line_view line).request) here.game next.game here.sight next.sight here.count next.count
    → AreSmall more → sum ≡ added totals more → AddsSo form start next (map line_view (reverse rest)) sum
one_added form {start} {here} {next} {totals} {more} {sum} left rest line e so counted work small same =
    let IsNext : List Numbered → Type 0 = λ lines. AddsSo form start here lines totals in
    let IsSum : Totals → Type 0 = λ t. AddsSo form start next (map line_view (reverse rest)) t in
    subst IsSum (sym same)
    (next_added form (line_view line) (subst IsNext (next_line left rest line e) so) counted work small)

pub all_added : {form : Form} {start : Start} {here : Point} {totals : Totals} (left : Vec Line Global) → vec_len left ≡ 0
    → AddsSo form start here (map line_view (reverse left.items)) totals
    → IsDoneWithin (AreAdded form start.game start.sight start.lines totals start.count here.count) start.evaluated
    here.evaluated
all_added {form} {start} {here} {totals} left none so =
    by (subst IsLast (nothing_left left.items (let same : length left.items ≡ vec_len left = cc in same ∙ none)) so)
  where
    IsLast : List Line → Type 0
    IsLast lines = AddsSo form start here (map line_view (reverse lines)) totals

    by : AddsSo form start here [] totals
        → IsDoneWithin (AreAdded form start.game start.sight start.lines totals start.count here.count) start.evaluated
        here.evaluated
    by s =
        let worked = working.ends s.counting.tolds s.working in
        record {
          cost = worked.cost;
          done = record { tolds = s.counting.tolds; worked = worked.done; adds = s.counting.counted };
          few = worked.few;
        }

-- what was counted is written as the totals
pub added_done : {E : Type 0} (manner : Manner) {first : Game} {start : Sight} {lines : List Numbered}
    {totals : Totals} {count last : Counted} {began end : ℕ} {old new : Option (List ℕ)} {slice text : List ℕ}
    (warnings : List ℕ) (result : Result (Unit {0}) E) → manner.summary ≡ true
    → IsDoneWithin (AreAdded manner.form first start lines totals count last) began end
    → slice ≡ text → text ≡ summary_line totals → Writes old new result slice
    → OnOk result (IsDoneWithin (AreDone manner warnings first start lines old new count last) began end)
added_done {E} manner {first} {start} {lines} {totals} {count} {last} {began} {end} {old} {new} {slice} {text} warnings (Ok done) short so same told writes =
    record {
      cost = so.cost;
      done = record {
        tolds = so.done.tolds;
        worked = so.done.worked;
        wrote = writes.ok ∙ ap (grown old) (same ∙ told ∙ ap summary_line so.done.adds ∙ in_short so.done.tolds);
      };
      few = so.few;
    }
  where
    in_short : (tolds : List Told) → summary_line (totals_of tolds) ≡ written_of manner warnings tolds
    in_short tolds = rw short refl
added_done manner warnings (Err error) short so same told writes = tt

-- a line that was taken is written, which is no work
pub also_written : {E : Type 0} (result : Result (Unit {0}) E) (pulse : Bool) (before mid now : Game)
    (seen next last : Sight) (old new : Counted) → now ≡ mid → last ≡ next
    → IsLineWork pulse before mid seen next old new → OnOk result (IsLineWork pulse before now seen last old new)
also_written (Ok done) pulse before mid now seen next last old new same kept work =
    subst (λ (g : Game). IsLineWork pulse before g seen last old new) (sym same)
    (subst (λ (s : Sight). IsLineWork pulse before mid seen s old new) (sym kept) work)
also_written (Err error) pulse before mid now seen next last old new same kept work = tt
