-- Courses of actions that keep what they make in the same slots are one.
use Rattle.std.proofs.Common.{◌≡◌, ◌∙◌, ℕ, suc, ◌+◌, List, [], ◌∷◌, ◌++◌, length, refl, sym, ap, Option, Some, None, unwrap_or, arith}
use Rattle.std.proofs.lemmas.List.{append_assoc}
use Rattle.fx_event_lines.specs.declared.events.Event.{Event}
use Rattle.fx_events.specs.declared.kinds.EventKind.{EventKind}
use Rattle.fx_plain_dispatch.specs.Running.{AreCalled, AreRun, behind, lines_of, no_call, no_line, one_call, one_line}
use Rattle.fx_plain_dispatch.specs.Sending.{ArePassed, AreSent, Pass, calls_at, no_event, no_pass, one_event, one_pass, passes_of, sent_off}
use Rattle.fx_plain_dispatch.specs.Settling.{IsSettled, Run, all_ran, next_run, one_ran, overrun, too_many}
use Rattle.fx_plain_steps.specs.Courses.{Course}
use Rattle.fx_script_commands.specs.Requests.{Numbered}
use Rattle.fx_stage_model.specs.Answers.{cost_of}
use Rattle.fx_stage_model.specs.Lines.{taken}
use Rattle.fx_plain_laws.specs.Slots.{slots_of_calls, slots_of_events, slots_of_passes, slots_of_run, slots_of_settling}

-- one course and one cost, and the same slots are left
pub record IsOne (now end : Course) (cost more : ℕ) (rest left : List ℕ) : Type 0 where
  pub ended : now ≡ end
  pub priced : cost ≡ more
  pub remains : rest ≡ left

abbrev pub first_or : {X : Type 0} → X → List X → X
first_or default [] = default
first_or default (x ∷ xs) = x

abbrev pub others_of : {X : Type 0} → List X → List X
others_of [] = []
others_of (x ∷ xs) = xs

pub nothing_there : {X : Type 0} (x : X) (xs : List X) → [] ≡ x ∷ xs → ⊥
nothing_there x xs same = let long : 0 ≡ suc (length xs) = ap length same in absurd (omega (arith, long))

pub run_one : (lines others : List Numbered) (course start now end : Course) (cost more : ℕ)
    (one : AreRun lines course now cost) (other : AreRun others start end more) → lines ≡ others → course ≡ start
    → (rest left : List ℕ)
    → slots_of_run lines course now cost one ++ rest ≡ slots_of_run others start end more other ++ left
    → IsOne now end cost more rest left
run_one lines others course start now end cost more (no_line c) (no_line b) all here rest left slots =
    record { ended = here; priced = refl; remains = slots }
run_one lines others course start now end cost more (no_line c) (one_line t m ms b z j q) all here rest left slots =
    absurd (nothing_there m ms all)
run_one lines others course start now end cost more (one_line s l ls c n k r) (no_line b) all here rest left slots =
    absurd (nothing_there l ls (sym all))
run_one lines others course start now end cost more (one_line s l ls c n k r) (one_line t m ms b z j q) all here rest left slots =
    let line : l ≡ m = ap (first_or l) all in
    let slot : s ≡ t = ap (first_or s) slots in
    let later = run_one ls ms (behind s l c) (behind t m b) n z k j r q (ap others_of all)
    (λ i. behind (slot i) (line i) (here i)) rest left (ap others_of slots) in
    record {
      ended = later.ended;
      priced = λ i. cost_of (taken (slot i) (line i).request (here i).world) + later.priced i;
      remains = later.remains;
    }

calls_one : (names others : List (List ℕ)) (course start now end : Course) (cost more : ℕ)
    (one : AreCalled names course now cost) (other : AreCalled others start end more) → names ≡ others → course ≡ start
    → (rest left : List ℕ)
    → slots_of_calls names course now cost one ++ rest ≡ slots_of_calls others start end more other ++ left
    → IsOne now end cost more rest left
calls_one names others course start now end cost more (no_call c) (no_call b) all here rest left slots =
    record { ended = here; priced = refl; remains = slots }
calls_one names others course start now end cost more (no_call c) (one_call m ms b y z j q ran called) all here rest left slots =
    absurd (nothing_there m ms all)
calls_one names others course start now end cost more (one_call l ls c x n k r run calls) (no_call b) all here rest left slots =
    absurd (nothing_there l ls (sym all))
calls_one names others course start now end cost more (one_call l ls c x n k r run calls) (one_call m ms b y z j q ran called)
    all here rest left slots =
    let name : l ≡ m = ap (first_or l) all in
    let first = run_one (lines_of c.world l) (lines_of b.world m) c b x y k j run ran
    (λ i. lines_of (here i).world (name i)) here
    (slots_of_calls ls x n r calls ++ rest) (slots_of_calls ms y z q called ++ left)
    (sym (append_assoc (slots_of_run (lines_of c.world l) c x k run) (slots_of_calls ls x n r calls) rest) ∙ slots
    ∙ append_assoc (slots_of_run (lines_of b.world m) b y j ran) (slots_of_calls ms y z q called) left) in
    let later = calls_one ls ms x y n z r q calls called (ap others_of all) first.ended rest left first.remains in
    record { ended = later.ended; priced = λ i. first.priced i + later.priced i; remains = later.remains }

passes_one : (on by : EventKind) (passes others : List Pass) (course start now end : Course) (cost more : ℕ)
    (one : ArePassed on passes course now cost) (other : ArePassed by others start end more) → on ≡ by → passes ≡ others
    → course ≡ start → (rest left : List ℕ)
    → slots_of_passes on passes course now cost one ++ rest ≡ slots_of_passes by others start end more other ++ left
    → IsOne now end cost more rest left
passes_one on by passes others course start now end cost more (no_pass c) (no_pass b) kind all here rest left slots =
    record { ended = here; priced = refl; remains = slots }
passes_one on by passes others course start now end cost more (no_pass c) (one_pass m ms b y z j q ran called) kind all here rest left slots =
    absurd (nothing_there m ms all)
passes_one on by passes others course start now end cost more (one_pass l ls c x n k r run calls) (no_pass b) kind all here rest left slots =
    absurd (nothing_there l ls (sym all))
passes_one on by passes others course start now end cost more (one_pass l ls c x n k r run calls) (one_pass m ms b y z j q ran called)
    kind all here rest left slots =
    let pass : l ≡ m = ap (first_or l) all in
    let first = calls_one (calls_at on l c) (calls_at by m b) c b x y k j run ran
    (λ i. calls_at (kind i) (pass i) (here i)) here
    (slots_of_passes on ls x n r calls ++ rest) (slots_of_passes by ms y z q called ++ left)
    (sym (append_assoc (slots_of_calls (calls_at on l c) c x k run) (slots_of_passes on ls x n r calls) rest) ∙ slots
    ∙ append_assoc (slots_of_calls (calls_at by m b) b y j ran) (slots_of_passes by ms y z q called) left) in
    let later = passes_one on by ls ms x y n z r q calls called kind (ap others_of all) first.ended rest left first.remains in
    record { ended = later.ended; priced = λ i. first.priced i + later.priced i; remains = later.remains }

pub events_one : (events others : List Event) (course start now end : Course) (cost more : ℕ)
    (one : AreSent events course now cost) (other : AreSent others start end more) → events ≡ others → course ≡ start
    → (rest left : List ℕ)
    → slots_of_events events course now cost one ++ rest ≡ slots_of_events others start end more other ++ left
    → IsOne now end cost more rest left
events_one events others course start now end cost more (no_event c) (no_event b) all here rest left slots =
    record { ended = here; priced = refl; remains = slots }
events_one events others course start now end cost more (no_event c) (one_event m ms b y z j q ran called) all here rest left slots =
    absurd (nothing_there m ms all)
events_one events others course start now end cost more (one_event l ls c x n k r run calls) (no_event b) all here rest left slots =
    absurd (nothing_there l ls (sym all))
events_one events others course start now end cost more (one_event l ls c x n k r run calls) (one_event m ms b y z j q ran called)
    all here rest left slots =
    let event : l ≡ m = ap (first_or l) all in
    let first = passes_one l.on m.on (passes_of l c) (passes_of m b) (sent_off l c) (sent_off m b) x y k j run ran (λ i. (event i).on)
    (λ i. passes_of (event i) (here i)) (λ i. sent_off (event i) (here i))
    (slots_of_events ls x n r calls ++ rest) (slots_of_events ms y z q called ++ left)
    (sym (append_assoc (slots_of_passes l.on (passes_of l c) (sent_off l c) x k run) (slots_of_events ls x n r calls) rest) ∙ slots
    ∙ append_assoc (slots_of_passes m.on (passes_of m b) (sent_off m b) y j ran) (slots_of_events ms y z q called) left) in
    let later = events_one ls ms x y n z r q calls called (ap others_of all) first.ended rest left first.remains in
    record { ended = later.ended; priced = λ i. first.priced i + later.priced i; remains = later.remains }

not_both : {X : Type 0} (x : X) (found other : Option X) → found ≡ None → other ≡ Some x → found ≡ other → ⊥
not_both x found other none some same = absurd (cc)

some_run : (default one other : Run) → Some one ≡ Some other → one ≡ other
some_run default one other same = ap (λ (run : Option Run). unwrap_or run default) same

pub settling_one : (number left more_left place other_place : ℕ) (course start now end : Course) (cost more : ℕ)
    (one : IsSettled number left place course now cost) (other : IsSettled number more_left other_place start end more)
    → left ≡ more_left → place ≡ other_place → course ≡ start → (rest others : List ℕ)
    → slots_of_settling number left place course now cost one ++ rest
    ≡ slots_of_settling number more_left other_place start end more other ++ others
    → IsOne now end cost more rest others
settling_one number left more_left place other_place course start now end cost more (all_ran l p c none) (all_ran m q b nobody)
    room at here rest others slots =
    record { ended = here; priced = refl; remains = slots }
settling_one number left more_left place other_place course start now end cost more (all_ran l p c none) (one_ran m q run b y z j u found ran settled)
    room at here rest others slots =
    absurd (not_both run (next_run p c) (next_run q b) none found (λ i. next_run (at i) (here i)))
settling_one number left more_left place other_place course start now end cost more (all_ran l p c none) (too_many q run b found)
    room at here rest others slots =
    absurd (not_both run (next_run p c) (next_run q b) none found (λ i. next_run (at i) (here i)))
settling_one number left more_left place other_place course start now end cost more (one_ran l p run c x n k r some run_done after) (all_ran m q b nobody)
    room at here rest others slots =
    absurd (not_both run (next_run q b) (next_run p c) nobody some (λ i. next_run (sym at i) (sym here i)))
settling_one number left more_left place other_place course start now end cost more (one_ran l p run c x n k r some run_done after)
    (one_ran m q other b y z j u found ran settled) room at here rest others slots =
    let same : run ≡ other = some_run run run other (sym some ∙ (λ i. next_run (at i) (here i)) ∙ found) in
    let first = run_one run.1 other.1 c b x y k j run_done ran (ap (λ (one : Run). one.1) same) here
    (slots_of_settling number l (run.0 + 1) x n r after ++ rest)
    (slots_of_settling number m (other.0 + 1) y z u settled ++ others)
    (sym (append_assoc (slots_of_run run.1 c x k run_done) (slots_of_settling number l (run.0 + 1) x n r after) rest)
    ∙ slots
    ∙ append_assoc (slots_of_run other.1 b y j ran) (slots_of_settling number m (other.0 + 1) y z u settled) others) in
    let later = settling_one number l m (run.0 + 1) (other.0 + 1) x y n z r u after settled (omega (arith, room))
    (ap (λ (one : Run). one.0 + 1) same) first.ended rest others first.remains in
    record { ended = later.ended; priced = λ i. first.priced i + later.priced i; remains = later.remains }
settling_one number left more_left place other_place course start now end cost more (one_ran l p run c x n k r some run_done after) (too_many q other b found)
    room at here rest others slots =
    absurd (omega (arith, room))
settling_one number left more_left place other_place course start now end cost more (too_many p run c some) (all_ran m q b nobody)
    room at here rest others slots =
    absurd (not_both run (next_run q b) (next_run p c) nobody some (λ i. next_run (sym at i) (sym here i)))
settling_one number left more_left place other_place course start now end cost more (too_many p run c some) (one_ran m q other b y z j u found ran settled)
    room at here rest others slots =
    absurd (omega (arith, room))
settling_one number left more_left place other_place course start now end cost more (too_many p run c some) (too_many q other b found)
    room at here rest others slots =
    record { ended = ap (overrun number) here; priced = refl; remains = slots }
