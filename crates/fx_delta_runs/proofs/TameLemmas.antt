-- What lines print is whole lines, and what they make is tame again: line by line, with events, actions and frames.
use Rattle.std.proofs.Common.{◌≡◌, ◌+◌, ℕ, Bool, true, false, cond, not, List, [], ◌∷◌, Option, Some, None, Ok, Err, All, drop, refl, sym, subst}
use Rattle.std.specs.Prelude.{IfOk, IfSome, Result, option_and_then, unwrap_or}
use Rattle.std.specs.List.{find}
use Rattle.std.specs.Map.{lookup}
use Rattle.std.specs.Str.{bytes_eq}
use Rattle.std.proofs.lemmas.List.Elements.{All-head, All-nil, All-tail}
use Rattle.fx_base.specs.declared.keys.Name.{Name}
use Rattle.fx_base.specs.declared.keys.NodeKey.{NodeKey}
use Rattle.fx_event_lines.specs.Coordinates.{coordinate_of}
use Rattle.fx_event_lines.specs.Focusing.{focus_on, focused_on, may_have_focus, traversed, with_focus}
use Rattle.fx_event_lines.specs.Hovering.{dragged, move_to, moved, picked, pointed_at, roamed}
use Rattle.fx_event_lines.specs.Keys.{key_pressed}
use Rattle.fx_event_lines.specs.Pressing.{press, pressed_on, release, released}
use Rattle.fx_event_lines.specs.Started.{Started, quietly}
use Rattle.fx_event_lines.specs.Starting.{is_event_line, started}
use Rattle.fx_events.specs.declared.kinds.EventKind.{EventKind}
use Rattle.fx_picture.specs.declared.entries.Entry.{Entry}
use Rattle.fx_plain_dispatch.specs.Running as running
use Rattle.fx_plain_dispatch.specs.Running.{AreCalled, AreRun, behind, lines_of, no_call, one_call}
use Rattle.fx_plain_dispatch.specs.Sending.{ArePassed, AreSent, Pass, calls_at, no_event, no_pass, one_event, one_pass, passes_of, sent_off}
use Rattle.fx_plain_dispatch.specs.Settling.{IsSettled, Run, all_ran, first_run, next_run, one_ran, or_later, too_many}
use Rattle.fx_plain_dispatch.specs.Taking.{IsActed, IsCarried, IsInstructed, IsLine, IsStarted}
use Rattle.fx_plain_steps.specs.Courses.{Course, after, begun}
use Rattle.fx_plain_steps.specs.Lines.{Step, answered, asked_by, inner_step, instruction_step, is_barred, is_carried, line_step, said_by, saying}
use Rattle.fx_script_commands.specs.Requests.{Numbered, Request, asks, bad, binds, defines}
use Rattle.fx_script_lines.specs.declared.instructions.Instruction.{Instruction}
use Rattle.fx_script_lines.specs.declared.instructions.Instruction.TheVariants as line
use Rattle.fx_stage_model.specs.Answers.{Taken, and_then, or_word, unless}
use Rattle.fx_stage_model.specs.Lines.{instructed, taken}
use Rattle.fx_stage_model.specs.Running.{action_in, action_tagged, run_by, run_tagged}
use Rattle.fx_stage_model.specs.Taking.{outcome_of}
use Rattle.fx_stage_model.specs.Looking.{find_node}
use Rattle.fx_stage_model.specs.World.{Names, World}
use Rattle.fx_listen.specs.Listening.{is_numbered}
use Rattle.fx_listen.specs.declared.entries.Listener.{Listener}
use Rattle.fx_event_lines.specs.declared.events.Event.{Event}
use Rattle.fx_stage_types.specs.declared.refusals.Refusal.{Refusal}
use Rattle.fx_stage_types.specs.declared.refusals.Refusal.TheVariants as word
use Rattle.fx_delta_runs.specs.Frames.{AreLines}
use Rattle.fx_delta_runs.specs.Tame.{AreTameLines, IsOneLine, IsOnePath, IsTame, IsTameInstruction, IsTameLine, IsTameWorld}
use Rattle.fx_delta_runs.proofs.PrintLemmas.{lines_append, no_lines, outcomes_lines, overrun_lines, refused_lines, said_lines}
use Rattle.fx_delta_runs.proofs.WorldLemmas.{Keeps, taken_keeps}

-- ---- steps
record IsTameStep (step : Step) : Type 0 where
  text : AreLines step.text
  world : IsTameWorld step.world

answered_tame : (number : ℕ) (path : List (List ℕ)) (answer : Result Taken Refusal) (world : World)
    → IsOnePath path → IsTameWorld world → Keeps answer → IsTameStep (answered number path answer world)
answered_tame number path (Ok t) world one is keeps =
    record { text = outcomes_lines t.world.names.written number path (outcome_of t) keeps.written one; world = keeps }
answered_tame number path (Err refusal) world one is keeps =
    record { text = refused_lines number refusal; world = is }

asked_tame : (instruction : Instruction) → IsTameInstruction instruction → IsOnePath (asked_by instruction)
unfolding asked_by
asked_tame (line.Get path) one = one
asked_tame other one = All-nil IsOneLine

said_tame : (instruction : Instruction) (world : World) → IsTameInstruction instruction → IsTameWorld world
    → IsTameStep (said_by (saying instruction) world)
unfolding saying
said_tame (line.Say text) world one is = record { text = said_lines text one; world = is }
said_tame other world one is = record { text = no_lines; world = is }

no_path : IsOnePath []
no_path = All-nil IsOneLine

instruction_tame : (slot number : ℕ) (instruction : Instruction) (world : World) → IsTameInstruction instruction
    → IsTameWorld world → IsTameStep (instruction_step slot number instruction world)
unfolding instruction_step taken
instruction_tame slot number instruction world one is = by (is_carried instruction)
  where
    by : (t : Bool) → IsTameStep (cond t
        (answered number (asked_by instruction) (instructed slot instruction world) world)
        (said_by (saying instruction) world))
    by true =
        answered_tame number (asked_by instruction) (instructed slot instruction world) world
        (asked_tame instruction one) is (taken_keeps slot (asks instruction) world one is)
    by false = said_tame instruction world one is

line_tame : (slot number : ℕ) (request : Request) (world : World) → IsTame request → IsTameWorld world
    → IsTameStep (line_step slot number request world)
unfolding line_step
line_tame slot number (asks instruction) world one is = instruction_tame slot number instruction world one is
line_tame slot number (binds path expression) world one is =
    answered_tame number [] (taken slot (binds path expression) world) world no_path is
    (taken_keeps slot (binds path expression) world one is)
line_tame slot number (defines name lines) world one is =
    answered_tame number [] (taken slot (defines name lines) world) world no_path is
    (taken_keeps slot (defines name lines) world one is)
line_tame slot number bad world one is =
    answered_tame number [] (taken slot bad world) world no_path is (taken_keeps slot bad world one is)

inner_tame : (slot number : ℕ) (request : Request) (world : World) → IsTame request → IsTameWorld world
    → IsTameStep (inner_step slot number request world)
unfolding inner_step
inner_tame slot number request world one is = by (is_barred request)
  where
    by : (t : Bool) → IsTameStep (cond t (answered number [] (Err word.Syntax) world)
        (line_step slot number request world))
    by true = answered_tame number [] (Err word.Syntax) world no_path is tt
    by false = line_tame slot number request world one is

-- ---- courses
pub record IsTameCourse (course : Course) : Type 0 where
  pub text : AreLines course.text
  pub world : IsTameWorld course.world

pub begun_tame : (world : World) → IsTameWorld world → IsTameCourse (begun world)
begun_tame world is = record { text = no_lines; world = is }

after_tame : (step : Step) (course : Course) → IsTameCourse course → IsTameStep step
    → IsTameCourse (after step course)
after_tame step course is next =
    record { text = lines_append course.text step.text is.text next.text; world = next.world }

run_tame : (lines : List Numbered) (course now : Course) (cost : ℕ) → AreTameLines lines → IsTameCourse course
    → AreRun lines course now cost → IsTameCourse now
run_tame lines course now cost are is (running.no_line c) = is
run_tame lines course now cost are is (running.one_line slot l rest c n more run) =
    let step = inner_tame slot l.number l.request c.world (All-head IsTameLine l rest are) is.world in
    run_tame rest (behind slot l c) n more (All-tail IsTameLine l rest are)
    (record { text = lines_append c.text _ is.text step.text; world = step.world }) run

found_tame : (name : List ℕ) (actions : List (List ℕ × List Numbered))
    → All (λ (entry : List ℕ × List Numbered). AreTameLines entry.1) actions
    → IfSome (lookup (bytes_eq name) actions) AreTameLines
found_tame name [] all = tt
found_tame name (entry ∷ rest) all =
    by (bytes_eq name entry.0)
    (found_tame name rest (All-tail (λ (entry : List ℕ × List Numbered). AreTameLines entry.1) entry rest all))
  where
    by : (t : Bool) → IfSome (lookup (bytes_eq name) rest) AreTameLines
        → IfSome (cond t (Some entry.1) (lookup (bytes_eq name) rest)) AreTameLines
    by true more = All-head (λ (entry : List ℕ × List Numbered). AreTameLines entry.1) entry rest all
    by false more = more

lines_of_tame : (world : World) (name : List ℕ) → IsTameWorld world → AreTameLines (lines_of world name)
lines_of_tame world name is = by (action_in world name) (found_tame name world.names.actions is.actions)
  where
    by : (found : Option (List Numbered)) → IfSome found AreTameLines → AreTameLines (unwrap_or found [])
    by None all = All-nil IsTameLine
    by (Some lines) all = all

called_tame : (names : List (List ℕ)) (course now : Course) (cost : ℕ) → IsTameCourse course
    → AreCalled names course now cost
    → IsTameCourse now
called_tame names course now cost is (no_call c) = is
called_tame names course now cost is (one_call name more c next n one_cost more_cost run called) =
    called_tame more next n more_cost
    (run_tame (lines_of c.world name) c next one_cost (lines_of_tame c.world name is.world) is run) called

passed_tame : (on : EventKind) (passes : List Pass) (course now : Course) (cost : ℕ) → IsTameCourse course
    → ArePassed on passes course now cost → IsTameCourse now
passed_tame on passes course now cost is (no_pass c) = is
passed_tame on passes course now cost is (one_pass pass more c next n one_cost more_cost called passed) =
    passed_tame on more next n more_cost (called_tame (calls_at on pass c) c next one_cost is called) passed

sent_tame : (events : List Event) (course now : Course) (cost : ℕ) → IsTameCourse course
    → AreSent events course now cost
    → IsTameCourse now
sent_tame events course now cost is (no_event c) = is
sent_tame events course now cost is (one_event event more c next n one_cost more_cost passed sent) =
    sent_tame more next n more_cost
    (passed_tame event.on (passes_of event c) (sent_off event c) next one_cost
    (record { text = is.text; world = is.world }) passed)
    sent

-- ---- listeners
runs_tame : (world : World) (name : Name) (number : ℕ) → IsTameWorld world
    → IfSome (run_by world name number) AreTameLines
unfolding run_by
runs_tame world name number is = by (find (is_numbered name.0 number) world.store.listeners)
  where
    named : (action : Option (List ℕ)) → IfSome (option_and_then (action_in world) action) AreTameLines
    named None = tt
    named (Some action) = found_tame action world.names.actions is.actions

    by : (listener : Option Listener)
        → IfSome (option_and_then (λ (l : Listener). action_tagged world l.tag) listener) AreTameLines
    by None = tt
    by (Some listener) = named (run_tagged world.names.run listener.tag)

next_tame : (world : World) (place : ℕ) (told : List (Name × ℕ)) → IsTameWorld world
    → IfSome (first_run world place told) (λ (run : Run). AreTameLines run.1)
next_tame world place [] is = tt
next_tame world place (one ∷ others) is =
    by (run_by world one.0 one.1) (runs_tame world one.0 one.1 is) (next_tame world (place + 1) others is)
  where
    by : (lines : Option (List Numbered)) → IfSome lines AreTameLines
        → IfSome (first_run world (place + 1) others) (λ (run : Run). AreTameLines run.1)
        → IfSome (or_later place lines (first_run world (place + 1) others)) (λ (run : Run). AreTameLines run.1)
    by None all later = later
    by (Some lines) all later = all

told_tame : (place : ℕ) (course : Course) (run : Run) → next_run place course ≡ Some run → IsTameCourse course
    → AreTameLines run.1
told_tame place course run e is =
    subst (λ (o : Option Run). IfSome o (λ (run : Run). AreTameLines run.1)) e
    (next_tame course.world place (drop place course.heard) is.world)

pub settled_tame : (number left place : ℕ) (course now : Course) (cost : ℕ) → IsTameCourse course
    → IsSettled number left place course now cost → IsTameCourse now
settled_tame number left place course now cost is (all_ran l p c e) = is
settled_tame number left place course now cost is (one_ran l p run c next n one_cost more_cost e ran settled) =
    settled_tame number l (run.0 + 1) next n more_cost (run_tame run.1 c next one_cost (told_tame p c run e is) is ran) settled
settled_tame number left place course now cost is (too_many p run c e) =
    record { text = lines_append c.text _ is.text (overrun_lines number); world = is.world }

-- ---- event lines
abbrev StartsTame : Result Started Refusal → Type 0
StartsTame answer = IfOk answer (λ (s : Started). IsTameWorld s.world)

then_starts : {A : Type 0} (answer : Result A Refusal) (next : A → Result Started Refusal)
    → ((a : A) → StartsTame (next a)) → StartsTame (and_then answer next)
then_starts (Ok a) next each = each a
then_starts (Err refusal) next each = tt

unless_starts : (so : Bool) (refusal : Refusal) (next : Result Started Refusal) → StartsTame next
    → StartsTame (unless so refusal next)
unless_starts true refusal next is = tt
unless_starts false refusal next is = is

same_names : (one other : World) → one.names ≡ other.names → IsTameWorld other → IsTameWorld one
same_names one other e is =
    record {
      written = subst (λ (n : Names). All (λ (entry : ℕ × List (List ℕ)). IsOnePath entry.1) n.written) (sym e)
          is.written;
      actions = subst (λ (n : Names). All (λ (entry : List ℕ × List Numbered). AreTameLines entry.1) n.actions) (sym e)
          is.actions;
    }

moved_names : (entries : List Entry) (world : World) → (moved entries world).world.names ≡ world.names
moved_names entries world = by world.button
  where
    by : (t : Bool) → (cond {A = Started} t (dragged world) (roamed entries world)).world.names ≡ world.names
    by true = refl
    by false = refl

pressed_names : (entries : List Entry) (key : Option NodeKey) (world : World)
    → (pressed_on entries key world).world.names ≡ world.names
pressed_names entries None world = refl
pressed_names entries (Some key) world = refl

focused_names : (entries : List Entry) (world : World) (key : NodeKey)
    → (focused_on entries world key).world.names ≡ world.names
focused_names entries world key = by (may_have_focus world.graph.tree entries key)
  where
    by : (t : Bool)
        → (cond {A = Started} t (quietly (with_focus (Some key) world)) (quietly world)).world.names ≡ world.names
    by true = refl
    by false = refl

started_tame : (entries : List Entry) (instruction : Instruction) (world : World) → IsTameWorld world
    → StartsTame (started entries instruction world)
unfolding started move_to press release focus_on key_pressed traversed
started_tame entries (line.Move x y) world is =
    then_starts (or_word word.Value (coordinate_of x)) _ (λ v.
    then_starts (or_word word.Value (coordinate_of y)) _ (λ w.
    same_names (moved entries (pointed_at world v w)).world world (moved_names entries (pointed_at world v w)) is))
started_tame entries line.Press world is =
    unless_starts world.button word.Button _
    (same_names (pressed_on entries (picked entries world) world).world world
    (pressed_names entries (picked entries world) world) is)
started_tame entries line.ReleaseButton world is =
    unless_starts (not world.button) word.Button _ (same_names (released entries world).world world refl is)
started_tame entries (line.Key name) world is = is
started_tame entries (line.Focus path) world is =
    then_starts (find_node world path) _ (λ key.
    same_names (focused_on entries world key).world world (focused_names entries world key) is)
started_tame entries line.Tab world is = same_names (traversed entries false world).world world refl is
started_tame entries line.Backtab world is = same_names (traversed entries true world).world world refl is
started_tame entries other world is = is

pub after_answer : (number : ℕ) (refusal : Refusal) (world : World) → IsTameWorld world
    → IsTameCourse (after (answered number [] (Err refusal) world) (begun world))
after_answer number refusal world is =
    after_tame (answered number [] (Err refusal) world) (begun world) (begun_tame world is)
    (answered_tame number [] (Err refusal) world no_path is tt)

began_tame : (number : ℕ) (answer : Result Started Refusal) (world : World) (now : Course) (cost : ℕ)
    → StartsTame answer → IsTameWorld world → IsStarted number answer world now cost → IsTameCourse now
began_tame number (Ok starts) world now cost tame is sent =
    sent_tame starts.events (begun starts.world) now cost (begun_tame starts.world tame) sent
began_tame number (Err refusal) world now cost tame is e =
    subst IsTameCourse (sym e.0) (after_answer number refusal world is)

carried_tame : (l : Numbered) (world : World) (now : Course) (cost : ℕ) → IsTameLine l → IsTameWorld world
    → IsCarried l world now cost → IsTameCourse now
carried_tame l world now cost one is (slot, e, spent) =
    subst IsTameCourse (sym e)
    (after_tame (line_step slot l.number l.request world) (begun world) (begun_tame world is)
    (line_tame slot l.number l.request world one is))

told_line : (entries : List Entry) (l : Numbered) (t : Bool) (instruction : Instruction) (world : World)
    (now : Course) (cost : ℕ) → IsTameLine l → IsTameWorld world → IsInstructed entries l t instruction world now cost
    → IsTameCourse now
told_line entries l true instruction world now cost one is acted =
    began_tame l.number (started entries instruction world) world now cost (started_tame entries instruction world is) is
    acted
told_line entries l false instruction world now cost one is acted = carried_tame l world now cost one is acted

acted_tame : (entries : List Entry) (l : Numbered) (request : Request) (world : World) (now : Course) (cost : ℕ)
    → IsTameLine l → IsTameWorld world → IsActed entries l request world now cost → IsTameCourse now
acted_tame entries l (asks instruction) world now cost one is acted =
    told_line entries l (is_event_line instruction) instruction world now cost one is acted
acted_tame entries l (binds path expression) world now cost one is acted = carried_tame l world now cost one is acted
acted_tame entries l (defines name lines) world now cost one is acted = carried_tame l world now cost one is acted
acted_tame entries l bad world now cost one is acted = carried_tame l world now cost one is acted

pub whole_line : (entries : List Entry) (l : Numbered) (world : World) (now : Course) (cost : ℕ) → IsTameLine l
    → IsTameWorld world → IsLine entries l world now cost → IsTameCourse now
whole_line entries l world now cost one is whole =
    settled_tame l.number 1000 0 whole.first now whole.further (acted_tame entries l l.request world whole.first whole.own one is whole.acted)
    whole.settled
