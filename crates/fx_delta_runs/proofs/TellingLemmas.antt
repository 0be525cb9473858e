-- Whatever a line of a game tells beside a frame is whole lines, and its world stays tame.
use Rattle.std.proofs.Common.{◌≡◌, ◌<◌, ◌+◌, ◌^◌, ℕ, Bool, true, false, List, [], ◌∷◌, ◌++◌, length, Option, Some, None, Ok, Err, All, refl, sym, ap, ap₂, ◌∙◌, subst, arith}
use Rattle.std.specs.Prelude.{IfOk, IfSome, Result, codes}
use Rattle.std.specs.Fmt.{decimal}
use Rattle.std.specs.List.{flat_map}
use Rattle.std.specs.Option.{option_map, option_map_or}
use Rattle.std.proofs.lemmas.List.{append_cancel_left}
use Rattle.std.proofs.lemmas.List.Elements.{All-cons, All-filter, All-head, All-nil, All-tail}
use Rattle.fx_text.specs.Characters.{space}
use Rattle.fx_base.specs.declared.geometry.Rect.{Rect}
use Rattle.fx_base.specs.declared.keys.Name.{Name}
use Rattle.fx_base.specs.declared.keys.NodeKey.{NodeKey}
use Rattle.fx_base.specs.declared.values.Value.{Value}
use Rattle.fx_cascade.specs.declared.sources.Source.{Source}
use Rattle.fx_css_types.specs.declared.sheets.Candidate.{Candidate}
use Rattle.fx_css_types.specs.declared.sheets.SheetAt.{SheetAt}
use Rattle.fx_css_types.specs.declared.sheets.SheetOrigin.{SheetOrigin}
use Rattle.fx_css_types.specs.declared.sheets.SheetOrigin.TheVariants as origin
use Rattle.fx_damage.specs.Laws.{SameOutside}
use Rattle.fx_delta.specs.Items.{ended}
use Rattle.fx_explain.specs.Told.{rank_of}
use Rattle.fx_explain.specs.declared.cuts.Cut.{Cut}
use Rattle.fx_explain.specs.declared.cuts.Cut.TheVariants as cut
use Rattle.fx_explain.specs.declared.explained.Explained.{Explained}
use Rattle.fx_explain.specs.declared.explained.Loser.{Loser}
use Rattle.fx_explain.specs.declared.told.Rank.{Rank}
use Rattle.fx_explain.specs.declared.told.Rank.TheVariants as rank
use Rattle.fx_frame_text.specs.Frames.{frame_text}
use Rattle.fx_frame_text.specs.declared.forms.Form.TheVariants.{Text}
use Rattle.fx_anim.specs.Line.{sets_of}
use Rattle.fx_kinds.specs.declared.facts.StyleFacts.{StyleFacts}
use Rattle.fx_plain_explain.specs.Explaining.{IsAnswered, find_attached, seen_by}
use Rattle.fx_plain_explain.specs.Ranks.{cut_text, declared_text, explanation_lines, loser_line, origin_text, rank_text, source_text, three, winner_line, winner_text}
use Rattle.fx_plain_frames.specs.Drawable.{IsDrawable}
use Rattle.fx_plain_frames.specs.Games.{Game, entries_in}
use Rattle.fx_plain_frames.specs.Playing.{IsShown, IsToldBy, IsToldOf, explained_by, is_pulse, time_line}
use Rattle.fx_plain_frames.specs.Pulses.{course_behind, image_in}
use Rattle.fx_plain_steps.specs.Courses.{Course, after, begun}
use Rattle.fx_plain_steps.specs.Lines.{Step}
use Rattle.fx_plain_runs.specs.declared.manners.Manner.{Manner}
use Rattle.fx_plain_steps.specs.Told.{Told}
use Rattle.fx_plain_times.specs.Clocks.{Clock}
use Rattle.fx_plain_times.specs.Lines.{Passed, added, halted, keyed, passed, passed_or_refused, played, still, tick, time_step, timed}
use Rattle.fx_plain_times.specs.Ticks.{after_set, all_animated, animated}
use Rattle.fx_plain_times.specs.Ticks as ticks
use Rattle.fx_plain_times.specs.Times.{time_of}
use Rattle.fx_pulse_model.specs.Frames.{Framed}
use Rattle.fx_script_commands.specs.Requests.{Numbered}
use Rattle.fx_script_lines.specs.declared.instructions.Instruction.{Instruction}
use Rattle.fx_script_lines.specs.declared.instructions.Instruction.TheVariants as line
use Rattle.fx_select.specs.AllMatching.{matching_of}
use Rattle.fx_select.specs.Chains.{chain}
use Rattle.fx_stage_facts.specs.Sheets.{sheets_of}
use Rattle.fx_stage_facts.specs.Styles.{style_facts}
use Rattle.fx_stage_model.specs.Answers.{Taken, and_then, or_word}
use Rattle.fx_stage_model.specs.Properties as property
use Rattle.fx_stage_model.specs.World.{World}
use Rattle.fx_stage_types.specs.declared.refusals.Refusal.{Refusal}
use Rattle.fx_stage_types.specs.declared.refusals.Refusal.TheVariants as word
use Rattle.fx_store_model.specs.declared.changes.Change.TheVariants.{Set}
use Rattle.fx_delta_runs.specs.Frames.{AreDrawn, AreLines, IsProper, Telling, frame_behind, last_behind, number_behind, told_in}
use Rattle.fx_delta_runs.specs.Runs as runs
use Rattle.fx_delta_runs.specs.Runs.{AreProper, AreShown, IsFirst, IsRun, IsTelling}
use Rattle.fx_delta_runs.specs.Tame.{AreDrawable, AreTameLines, IsOneLine, IsOnePath, IsTameLine, IsTameWorld}
use Rattle.fx_delta_runs.proofs.PrintLemmas.{lines_append, lines_flat, no_lines, notices_lines, one_append, one_decimal, one_known, one_line, one_none, one_space, refused_lines, two_ended}
use Rattle.fx_delta_runs.proofs.RunLemmas.{one_is_shown, still as still_game}
use Rattle.fx_delta_runs.proofs.StreamLemmas.{ViewersShow}
use Rattle.fx_delta_runs.proofs.TameLemmas.{IsTameCourse, after_answer, begun_tame, settled_tame, whole_line}
use Rattle.fx_delta_runs.proofs.WorldLemmas.{Keeps, changed_keeps}

-- ---- timelines
set_step : (set : Name × Value) (course : Course) → IsTameCourse course → IsTameCourse (after_set course set)
unfolding animated
set_step set course is = by (property.changed (Set set.0 set.1) course.world) (changed_keeps _ course.world is.world)
  where
    by : (answer : Result Taken Refusal) → Keeps answer
        → IsTameCourse (after (ticks.told_of course.world answer) course)
    by (Ok t) keeps =
        record {
          text = lines_append course.text _ is.text (notices_lines t.world.names.written t.notices keeps.written);
          world = keeps;
        }
    by (Err refusal) keeps = record { text = lines_append course.text [] is.text no_lines; world = is.world }

sets_tame : (sets : List (Name × Value)) (course : Course) → IsTameCourse course
    → IsTameCourse (all_animated sets course)
sets_tame [] course is = is
sets_tame (set ∷ sets) course is = sets_tame sets (after_set course set) (set_step set course is)

abbrev PassesTame : Result Passed Refusal → Type 0
PassesTame answer = IfOk answer (λ (p : Passed). IsTameCourse p.course)

still_tame : (world : World) (answer : Result Clock Refusal) → IsTameWorld world → PassesTame (still world answer)
still_tame world (Ok clock) is = begun_tame world is
still_tame world (Err refusal) is = tt

timed_tame : (instruction : Instruction) (clock : Clock) (world : World) → IsTameWorld world
    → PassesTame (timed instruction clock world)
unfolding timed tick
timed_tame (line.Timeline label count back) clock world is = still_tame world (added label count back clock) is
timed_tame (line.Keyframe label time path text) clock world is =
    still_tame world (keyed label time path text clock world) is
timed_tame (line.Play label) clock world is = still_tame world (played label clock) is
timed_tame (line.Stop label) clock world is = still_tame world (halted label clock) is
timed_tame (line.Tick time) clock world is = by (or_word word.Value (time_of 1 time))
  where
    by : (answer : Result ℕ Refusal) → PassesTame (and_then answer (λ (ms : ℕ). Ok (passed ms clock world)))
    by (Ok ms) = sets_tame (sets_of ms clock.lines) (begun world) (begun_tame world is)
    by (Err refusal) = tt
timed_tame other clock world is = begun_tame world is

time_tame : (number : ℕ) (instruction : Instruction) (clock : Clock) (world : World) → IsTameWorld world
    → IsTameCourse (time_step number instruction clock world).course
time_tame number instruction clock world is = by (timed instruction clock world) (timed_tame instruction clock world is)
  where
    by : (answer : Result Passed Refusal) → PassesTame answer
        → IsTameCourse (passed_or_refused number clock world answer).course
    by (Ok p) tame = tame
    by (Err refusal) tame = after_answer number refusal world is

-- ---- explanations
one_three : (a b c : ℕ) → IsOneLine (three a b c)
one_three a b c =
    one_append (decimal a) (space ∷ (decimal b ++ (space ∷ decimal c))) (one_decimal a)
    (one_space (decimal b ++ (space ∷ decimal c))
    (one_append (decimal b) (space ∷ decimal c) (one_decimal b) (one_space (decimal c) (one_decimal c))))

one_origin : (from : SheetOrigin) → IsOneLine (origin_text from)
one_origin origin.Agent = one_known (codes "agent") refl
one_origin origin.Scene = one_known (codes "scene") refl
one_origin (origin.Parent depth) =
    one_append (codes "parent:") (decimal depth) (one_known (codes "parent:") refl) (one_decimal depth)
one_origin origin.Inline = one_known (codes "inline") refl

one_rank : (r : Rank) → IsOneLine (rank_text r)
unfolding declared_text
one_rank rank.Bound = one_known (codes "bound") refl
one_rank rank.Code = one_known (codes "code") refl
one_rank (rank.Declared from weight sheet rule place) =
    one_append (origin_text from)
    (space ∷ (three weight.0 weight.1 weight.2 ++ (space ∷ three (sheet + 1) (rule + 1) (place + 1)))) (one_origin from)
    (one_space (three weight.0 weight.1 weight.2 ++ (space ∷ three (sheet + 1) (rule + 1) (place + 1)))
    (one_append (three weight.0 weight.1 weight.2) (space ∷ three (sheet + 1) (rule + 1) (place + 1))
    (one_three weight.0 weight.1 weight.2)
    (one_space (three (sheet + 1) (rule + 1) (place + 1)) (one_three (sheet + 1) (rule + 1) (place + 1)))))

one_source : (sheets : List SheetAt) (seen : List ℕ) (matched : List Candidate) (source : Source)
    → IsOneLine (source_text sheets seen matched source)
one_source sheets seen matched source = by (rank_of sheets seen matched source)
  where
    by : (r : Option Rank) → IsOneLine (option_map_or rank_text r [])
    by None = one_none
    by (Some r) = one_rank r

one_cut : (c : Cut) → IsOneLine (cut_text c)
one_cut cut.Bound = one_known (codes "bound") refl
one_cut cut.Origin = one_known (codes "origin") refl
one_cut cut.Specificity = one_known (codes "specificity") refl
one_cut cut.Sheet = one_known (codes "sheet") refl
one_cut cut.Rule = one_known (codes "rule") refl
one_cut cut.Place = one_known (codes "place") refl

winner_lines : (shown : Source → List ℕ) (winner : Option Source) → ((s : Source) → IsOneLine (shown s))
    → AreLines (winner_line shown winner)
unfolding winner_line
winner_lines shown winner each =
    one_line (codes "win " ++ winner_text shown winner) (codes "win " ++ ended (winner_text shown winner)) refl
    (record {
      one = one_append (codes "win ") (winner_text shown winner) (one_known (codes "win ") refl) (text winner);
      no_frame = refl;
      no_row = refl;
      no_end = refl;
    })
  where
    text : (winner : Option Source) → IsOneLine (winner_text shown winner)
    text None = one_known (codes "none") refl
    text (Some source) = each source

loser_lines : (shown : Source → List ℕ) (loser : Loser) → ((s : Source) → IsOneLine (shown s))
    → AreLines (loser_line shown loser)
unfolding loser_line
loser_lines shown loser each =
    let rest : List ℕ = shown loser.source ++ (space ∷ cut_text loser.cut) in
    one_line (codes "lose " ++ rest) (codes "lose " ++ (shown loser.source ++ (space ∷ ended (cut_text loser.cut))))
    (ap (λ (l : List ℕ). codes "lose " ++ l) (two_ended (shown loser.source) (cut_text loser.cut)))
    (record {
      one = one_append (codes "lose ") rest (one_known (codes "lose ") refl)
          (one_append (shown loser.source) (space ∷ cut_text loser.cut) (each loser.source)
          (one_space (cut_text loser.cut) (one_cut loser.cut)));
      no_frame = refl;
      no_row = refl;
      no_end = refl;
    })

explanation : (shown : Source → List ℕ) (told : Explained) → ((s : Source) → IsOneLine (shown s))
    → AreLines (explanation_lines shown told)
explanation shown told each =
    lines_append (winner_line shown told.winner) (flat_map (loser_line shown) told.losers)
    (winner_lines shown told.winner each)
    (lines_flat (loser_line shown) told.losers (λ loser. loser_lines shown loser each))

-- a step of which the world is tame and the text is whole lines
record StepsTame (step : Step) : Type 0 where
  text : AreLines step.text
  world : IsTameWorld step.world

explained_tame : (number : ℕ) (name : List ℕ) (world : World) (found : Result NodeKey Refusal) (step : Step)
    → IsTameWorld world → IsAnswered number name world found step → StepsTame step
explained_tame number name world (Ok key) step is told =
    let sheets : List SheetAt = sheets_of world in
    let nodes : List StyleFacts = style_facts world in
    let seen : List ℕ = seen_by (chain nodes told.told.at) in
    let matched : List Candidate = matching_of sheets nodes told.told.at in
    subst StepsTame (sym told.is)
    (record {
      text = subst AreLines (sym told.told.told.is)
          (explanation (source_text sheets seen matched) told.told.told.told
          (λ source. one_source sheets seen matched source));
      world = record { written = is.written; actions = is.actions };
    })
explained_tame number name world (Err refusal) step is e =
    subst StepsTame (sym e) (record { text = refused_lines number refusal; world = is })

-- ---- what a line tells
record Stays (now : Game) (text : List ℕ) : Type 0 where
  lines : AreLines text
  world : IsTameWorld now.world

of_course : (now : Game) (course : Course) (text : List ℕ) → now.world ≡ course.world → text ≡ course.text
    → IsTameCourse course → Stays now text
of_course now course text w t is =
    record {
      lines = subst AreLines (sym t) is.text;
      world = subst IsTameWorld (sym w) is.world;
    }

told_stays : (l : Numbered) (before now : Game) (told : Told) (cost : ℕ) (instruction : Option Instruction)
    (asked : Option (List (List ℕ) × List ℕ)) → IsTameLine l → IsTameWorld before.world
    → IsToldOf instruction asked l before now told cost → Stays now told.text
told_stays l before now told cost (Some instruction) asked one is s =
    of_course now s.course told.text (ap (λ (game : Game). game.world) s.after)
    (ap (λ (t : Told). t.text) s.told_so)
    (settled_tame l.number 1000 0 _ s.course s.further (time_tame l.number instruction before.clock before.world is) s.settled)
told_stays l before now told cost None (Some asked) one is s =
    let step =
    explained_tame l.number asked.1 before.world (find_attached before.world asked.0) s.step is s.explained in
    record {
      lines = subst AreLines (sym (ap (λ (t : Told). t.text) s.told_so)) step.text;
      world = subst IsTameWorld (sym (ap (λ (game : Game). game.world) s.after)) step.world;
    }
told_stays l before now told cost None None one is s =
    of_course now s.course told.text (ap (λ (game : Game). game.world) s.after)
    (ap (λ (t : Told). t.text) s.told_so) (whole_line (entries_in before.last) l before.world s.course cost one is s.taken)

shown_stays : (number : ℕ) (before now : Game) (told : Told) (cost : ℕ) (s : IsShown Text number before now told cost)
    → IsTameWorld before.world → Stays now s.course.text
shown_stays number before now told cost s is =
    let drawn : IsTameWorld s.drawn.world =
    subst IsTameWorld (sym s.made.drawn.published)
    (record {
      written = All-filter _ (λ (entry : ℕ × List (List ℕ)). IsOnePath entry.1) before.world.names.written is.written;
      actions = is.actions;
    }) in
    of_course now s.course s.course.text (ap (λ (game : Game). game.world) s.after) refl
    (settled_tame number 1000 0 (course_behind s.drawn.world s.pulsed.notices) s.course s.further
    (record {
      text = notices_lines s.drawn.world.names.written s.pulsed.notices drawn.written;
      world = drawn;
    }) s.settled)

-- ---- a telling
-- what stands behind a frame is what the course behind it printed
behind_frame : (number : ℕ) (before now : Game) (telling : Telling) (cost : ℕ)
    → now.frames ≡ number_behind before.frames telling.frame → now.last ≡ last_behind before.last telling.frame
    → (s : IsShown Text number before now (told_in Text before.frames before.last telling) cost)
    → telling.text ≡ s.course.text
behind_frame number before now telling cost count last s = by telling.frame refl
  where
    written : List ℕ
    written = frame_text Text s.drawn.frames (option_map image_in before.last) s.pulsed.damage (image_in s.pulsed.frame)

    more : now.frames ≡ before.frames + 1
    more = ap (λ (game : Game). game.frames) s.after ∙ s.made.count

    newest : now.last ≡ Some s.pulsed.frame
    newest = ap (λ (game : Game). game.last) s.after ∙ s.made.drawn.last_one

    none : (n : ℕ) → n ≡ n + 1 → ⊥
    none n e = omega (arith, e)

    by : (frame : Option Framed) → telling.frame ≡ frame → telling.text ≡ s.course.text
    by None e =
        absurd (none before.frames
        (sym (ap (number_behind before.frames) e) ∙ sym count ∙ more))
    by (Some next) e =
        let same : Some next ≡ Some s.pulsed.frame =
        sym (ap (last_behind before.last) e) ∙ sym last ∙ newest in
        let front : frame_behind Text before.frames before.last telling.frame ≡ written =
        ap (frame_behind Text before.frames before.last) (e ∙ same)
        ∙ ap₂ (λ (n : ℕ) (rects : List Rect).
        frame_text Text n (option_map image_in before.last) rects (image_in s.pulsed.frame)) (sym s.made.count)
        (sym s.made.drawn.damage) in
        append_cancel_left written telling.text s.course.text
        (ap (λ (l : List ℕ). l ++ telling.text) (sym front) ∙ ap (λ (t : Told). t.text) s.told_so)

-- without a frame all that is told stands behind none
no_frame : (before now : Game) (telling : Telling) → now.frames ≡ number_behind before.frames telling.frame
    → now.frames ≡ before.frames → frame_behind Text before.frames before.last telling.frame ≡ []
no_frame before now telling count as_before = by telling.frame refl
  where
    none : (n : ℕ) → n + 1 ≡ n → ⊥
    none n e = omega (arith, e)

    by : (frame : Option Framed) → telling.frame ≡ frame
        → frame_behind Text before.frames before.last telling.frame ≡ []
    by None e = ap (frame_behind Text before.frames before.last) e
    by (Some next) e =
        absurd (none before.frames (sym (ap (number_behind before.frames) e) ∙ sym count ∙ as_before))

telling_stays : (l : Numbered) (before now : Game) (telling : Telling) → IsTameLine l → IsTameWorld before.world
    → IsTelling l before now telling → Stays now telling.text
telling_stays l before now telling one is t = by (is_pulse l.request) (t.told Text)
  where
    by : (pulse : Bool) → IsToldBy pulse Text l before now (told_in Text before.frames before.last telling) t.cost
        → Stays now telling.text
    by true s =
        let stays = shown_stays l.number before now (told_in Text before.frames before.last telling) t.cost s is in
        record {
          lines = subst AreLines (sym (behind_frame l.number before now telling t.cost t.number t.last s)) stays.lines;
          world = stays.world;
        }
    by false s =
        let told : Told = told_in Text before.frames before.last telling in
        let stays = told_stays l before now told t.cost (time_line l.request) (explained_by l.request) one is s in
        let as_before = still_game l before now told t.cost (time_line l.request) (explained_by l.request) s in
        let none : told.text ≡ telling.text =
        ap (λ (l : List ℕ). l ++ telling.text) (no_frame before now telling t.number as_before.0) in
        record { lines = subst AreLines none stays.lines; world = stays.world }

-- ---- all lines
texts_stay : (first : Game) (lines : List Numbered) (tellings : List Telling) → AreTameLines lines
    → IsTameWorld first.world → IsRun first lines tellings → All (λ (t : Telling). AreLines t.text) tellings
texts_stay first lines tellings are is (runs.no_line game) = All-nil (λ (t : Telling). AreLines t.text)
texts_stay first lines tellings are is (runs.one_line game next l rest telling others t run) =
    let stays = telling_stays l game next telling (All-head IsTameLine l rest are) is t in
    All-cons (λ (t : Telling). AreLines t.text) telling others stays.lines
    (texts_stay next rest others (All-tail IsTameLine l rest are) stays.world run)

both : (tellings : List Telling) → AreDrawn tellings
    → All (λ (t : Telling). AreLines t.text) tellings → All IsProper tellings
both [] frames texts = All-nil IsProper
both (t ∷ ts) frames texts =
    All-cons IsProper t ts
    (record {
      frame = All-head (λ (t : Telling). IfSome t.frame IsDrawable) t ts frames;
      text = All-head (λ (t : Telling). AreLines t.text) t ts texts;
    })
    (both ts (All-tail (λ (t : Telling). IfSome t.frame IsDrawable) t ts frames)
    (All-tail (λ (t : Telling). AreLines t.text) t ts texts))

pub drawn_run : SameOutside → ViewersShow → (manner : Manner) (warnings : List ℕ) (first : Game)
    (lines : List Numbered) (tellings : List Telling) → IsFirst first → IsTameWorld first.world
    → length lines < 2 ^ 64 → AreTameLines lines → AreLines warnings → IsRun first lines tellings
    → AreDrawn tellings → AreShown manner warnings first lines tellings
drawn_run outside viewer manner warnings first lines tellings is tame small are warned run drawn =
    one_is_shown outside viewer manner warnings first lines tellings is small warned run
    (both tellings drawn (texts_stay first lines tellings are tame run))

pub tame_lines : (first : Game) (lines : List Numbered) → IsTameWorld first.world → AreTameLines lines
    → AreDrawable first lines → AreProper first lines
tame_lines first lines is are drawable tellings run =
    both tellings (drawable tellings run) (texts_stay first lines tellings are is run)
