-- What is left of a list of things to do: the next one, and then the rest.
use Rattle.std.proofs.Common.{◌≡◌, ℕ, ◌+◌, ◌<◌, ◌≤◌, List, [], ◌∷◌, ◌++◌, arith, drop, get_or, length, map, subst, sym, ap, Option, Some, None, unwrap_or, Result, Ok, Err, OnOk}
use Rattle.std.proofs.Math.ListN.{drop_of_length-le}
use Rattle.std.proofs.lemmas.List.{drop_more}
use Rattle.fx_base.specs.declared.keys.NodeKey.{NodeKey}
use Rattle.fx_events.specs.declared.kinds.EventKind.{EventKind}
use Rattle.fx_event_lines.specs.declared.events.Event.{Event}
use Rattle.fx_plain_dispatch.specs.Costs.{IsDoneWithin}
use Rattle.fx_plain_dispatch.specs.Running.{AreCalled, AreRun, behind, lines_of, no_call, no_line, one_call, one_line}
use Rattle.fx_plain_dispatch.specs.Sending.{ArePassed, AreSent, Pass, calls_at, no_event, no_pass, one_event, one_pass, passes_of, sent_off}
use Rattle.fx_plain_steps.specs.Courses.{Course}
use Rattle.fx_script_commands.specs.Requests.{Numbered, line_view}
use Rattle.fx_script_commands.specs.declared.commands.Line.{Line}
use Rattle.fx_stage_model.specs.Answers.{cost_of}
use Rattle.fx_stage_model.specs.Lines.{taken}
use Rattle.fx_stage_model.specs.Running.{action_in}
use Rattle.fx_stage_model.specs.World.{World}

-- nothing that is done costs nothing
pub at_no_cost : (Done : ℕ → Type 0) (count : ℕ) → Done 0 → IsDoneWithin Done count count
at_no_cost Done count done = record { cost = 0; done = done; few = omega arith }

-- what does all that is left from here on does the whole
abbrev pub LeadsTo : {A : Type 0} → (List A → Course → Course → ℕ → Type 0) → List A → Course → ℕ → List A → Course → ℕ
    → Type 0
LeadsTo Done left here mid whole start old =
    (now : Course) (new : ℕ) → IsDoneWithin (Done left here now) mid new → IsDoneWithin (Done whole start now) old new

pub next_line : (lines : List Line) (i : ℕ) (line : Line) → i < length lines → line ≡ get_or lines i line
    → {start here : Course} {old mid : ℕ} → LeadsTo AreRun (map line_view (drop i lines)) here mid (map line_view lines) start old
    → (slot : ℕ) {next : Course} {more : ℕ} → next ≡ behind slot (line_view line) here
    → more ≤ mid + cost_of (taken slot (line_view line).request here.world)
    → LeadsTo AreRun (map line_view (drop (i + 1) lines)) next more (map line_view lines) start old
next_line lines i line below same {start} {here} {old} {mid} leads slot {next} {more} is few now new run =
    let cost : ℕ = cost_of (taken slot (line_view line).request here.world) in
    let first : more ≤ mid + cost = few in
    let rest : new ≤ more + run.cost = run.few in
    leads now new
    (record {
      cost = cost + run.cost;
      done = subst (λ (left : List Line). AreRun (map line_view left) here now (cost + run.cost)) (sym (drop_more lines i line below))
          (subst (λ (l : Line). AreRun (line_view l ∷ map line_view (drop (i + 1) lines)) here now (cost + run.cost)) same
          (one_line slot (line_view line) (map line_view (drop (i + 1) lines)) here now run.cost
          (subst (λ (c : Course). AreRun (map line_view (drop (i + 1) lines)) c now run.cost) is run.done)));
      few = omega (arith, first, rest);
    })

pub last_line : (lines : List Line) (i : ℕ) → length lines ≤ i → {start here : Course} {old mid : ℕ}
    → LeadsTo AreRun (map line_view (drop i lines)) here mid (map line_view lines) start old
    → IsDoneWithin (AreRun (map line_view lines) start here) old mid
last_line lines i end {start} {here} {old} {mid} leads =
    leads here mid
    (at_no_cost (AreRun (map line_view (drop i lines)) here here) mid
    (subst (λ (left : List Line). AreRun (map line_view left) here here 0) (sym (drop_of_length-le lines end)) (no_line here)))

pub next_call : (names : List (List ℕ)) (i : ℕ) (name : List ℕ) → i < length names → name ≡ get_or names i name
    → {start here next : Course} {old mid more : ℕ} → LeadsTo AreCalled (drop i names) here mid names start old
    → IsDoneWithin (AreRun (lines_of here.world name) here next) mid more
    → LeadsTo AreCalled (drop (i + 1) names) next more names start old
next_call names i name below same {start} {here} {next} {old} {mid} {more} leads ran now new run =
    let first : more ≤ mid + ran.cost = ran.few in
    let rest : new ≤ more + run.cost = run.few in
    leads now new
    (record {
      cost = ran.cost + run.cost;
      done = subst (λ (left : List (List ℕ)). AreCalled left here now (ran.cost + run.cost)) (sym (drop_more names i name below))
          (subst (λ (n : List ℕ). AreCalled (n ∷ drop (i + 1) names) here now (ran.cost + run.cost)) same
          (one_call name (drop (i + 1) names) here next now ran.cost run.cost ran.done run.done));
      few = omega (arith, first, rest);
    })

pub last_call : (names : List (List ℕ)) (i : ℕ) → length names ≤ i → {start here : Course} {old mid : ℕ}
    → LeadsTo AreCalled (drop i names) here mid names start old → IsDoneWithin (AreCalled names start here) old mid
last_call names i end {start} {here} {old} {mid} leads =
    leads here mid
    (at_no_cost (AreCalled (drop i names) here here) mid
    (subst (λ (left : List (List ℕ)). AreCalled left here here 0) (sym (drop_of_length-le names end)) (no_call here)))

pub next_pass : (on : EventKind) (pass : NodeKey → Pass) (nodes : List NodeKey) (i : ℕ) (d : NodeKey) → i < length nodes
    → {start here next : Course} {old mid more : ℕ}
    → LeadsTo (ArePassed on) (map pass (drop i nodes)) here mid (map pass nodes) start old
    → IsDoneWithin (AreCalled (calls_at on (pass (get_or nodes i d)) here) here next) mid more
    → LeadsTo (ArePassed on) (map pass (drop (i + 1) nodes)) next more (map pass nodes) start old
next_pass on pass nodes i d below {start} {here} {next} {old} {mid} {more} leads called now new run =
    let first : more ≤ mid + called.cost = called.few in
    let rest : new ≤ more + run.cost = run.few in
    leads now new
    (record {
      cost = called.cost + run.cost;
      done = subst (λ (left : List NodeKey). ArePassed on (map pass left) here now (called.cost + run.cost)) (sym (drop_more nodes i d below))
          (one_pass (pass (get_or nodes i d)) (map pass (drop (i + 1) nodes)) here next now called.cost run.cost called.done run.done);
      few = omega (arith, first, rest);
    })

pub last_pass : (on : EventKind) (pass : NodeKey → Pass) (nodes : List NodeKey) (i : ℕ) → length nodes ≤ i
    → {start here : Course} {old mid : ℕ}
    → LeadsTo (ArePassed on) (map pass (drop i nodes)) here mid (map pass nodes) start old
    → IsDoneWithin (ArePassed on (map pass nodes) start here) old mid
last_pass on pass nodes i end {start} {here} {old} {mid} leads =
    leads here mid
    (at_no_cost (ArePassed on (map pass (drop i nodes)) here here) mid
    (subst (λ (left : List NodeKey). ArePassed on (map pass left) here here 0) (sym (drop_of_length-le nodes end)) (no_pass here)))

joined : {on : EventKind} {first second : List Pass} {start here now : Course} {cost more : ℕ} → ArePassed on first start here cost
    → ArePassed on second here now more → ArePassed on (first ++ second) start now (cost + more)
joined {on} {first} {second} {start} {here} {now} {cost} {more} (no_pass course) then_those =
    let same : more ≡ 0 + more = omega arith in
    subst (λ (n : ℕ). ArePassed on second course now n) same then_those
joined {on} {first} {second} {start} {here} {now} {cost} {more} (one_pass pass passes course next ended c d called rest) then_those =
    let same : c + (d + more) ≡ (c + d) + more = omega arith in
    subst (λ (n : ℕ). ArePassed on (pass ∷ (passes ++ second)) course now n) same
    (one_pass pass (passes ++ second) course next now c (d + more) called (joined rest then_those))

-- first these, and then those
pub passed_both : (on : EventKind) (first second : List Pass) (start here now : Course) (old mid new : ℕ)
    → IsDoneWithin (ArePassed on first start here) old mid → IsDoneWithin (ArePassed on second here now) mid new
    → IsDoneWithin (ArePassed on (first ++ second) start now) old new
passed_both on first second start here now old mid new one other =
    let before : mid ≤ old + one.cost = one.few in
    let behind : new ≤ mid + other.cost = other.few in
    record { cost = one.cost + other.cost; done = joined one.done other.done; few = omega (arith, before, behind) }

pub next_event : (events : List Event) (i : ℕ) (d : Event) → i < length events → {start here next : Course} {old mid more : ℕ}
    → LeadsTo AreSent (drop i events) here mid events start old
    → IsDoneWithin (ArePassed (get_or events i d).on (passes_of (get_or events i d) here) (sent_off (get_or events i d) here) next) mid more
    → LeadsTo AreSent (drop (i + 1) events) next more events start old
next_event events i d below {start} {here} {next} {old} {mid} {more} leads passed now new run =
    let first : more ≤ mid + passed.cost = passed.few in
    let rest : new ≤ more + run.cost = run.few in
    leads now new
    (record {
      cost = passed.cost + run.cost;
      done = subst (λ (left : List Event). AreSent left here now (passed.cost + run.cost)) (sym (drop_more events i d below))
          (one_event (get_or events i d) (drop (i + 1) events) here next now passed.cost run.cost passed.done run.done);
      few = omega (arith, first, rest);
    })

pub last_event : (events : List Event) (i : ℕ) → length events ≤ i → {start here : Course} {old mid : ℕ}
    → LeadsTo AreSent (drop i events) here mid events start old → IsDoneWithin (AreSent events start here) old mid
last_event events i end {start} {here} {old} {mid} leads =
    leads here mid
    (at_no_cost (AreSent (drop i events) here here) mid
    (subst (λ (left : List Event). AreSent left here here 0) (sym (drop_of_length-le events end)) (no_event here)))

-- the action isn't defined
pub run_none : (world : World) (name : List ℕ) (course : Course) (count : ℕ) → None ≡ action_in world name
    → IsDoneWithin (AreRun (lines_of world name) course course) count count
run_none world name course count none =
    subst (λ (lines : Option (List Numbered)). IsDoneWithin (AreRun (unwrap_or lines []) course course) count count) none
    (at_no_cost (AreRun [] course course) count (no_line course))

-- what follows where a call succeeds
pub on_ok : {T E : Type 0} {A B : Type 0} (r : Result T E) → OnOk r A → (A → B) → OnOk r B
on_ok (Ok t) a more = more a
on_ok (Err e) a more = tt
