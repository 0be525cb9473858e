-- Lines that let no time pass, and what a tick sets.
use Rattle.std.proofs.Common.{◌≡◌, ◌≢◌, ◌∙◌, ◌≤◌, ◌+◌, ◌++◌, ◌∷◌, ℕ, Bool, arith, false, inl, inr, List, [], map, None, IfErr, OnOk, Option, Some, Result, Ok, Err, ap, ap₂, refl, subst, sym}
use Rattle.std.specs.declared.alloc.AllocError.{AllocError}
use Rattle.fx_anim.specs.Line.{Line, line_at, sets_of, ticked}
use Rattle.fx_base.specs.declared.keys.Name.{Name}
use Rattle.fx_base.specs.declared.values.Value.{Value}
use Rattle.fx_graph_model.specs.Refusals.{kind_at, read_only_in}
use Rattle.fx_look.specs.Readings.{value_at}
use Rattle.fx_plain_steps.specs.Courses.{Course, after, begun}
use Rattle.fx_plain_steps.specs.Lines.{answered}
use Rattle.fx_plain_times.specs.Clocks.{Clock, find}
use Rattle.fx_plain_times.specs.Lines.{Passed, keyed, keyed_at, passed, passed_or_refused, still, tick, tick_cost, timed}
use Rattle.fx_plain_times.specs.Ticks.{after_set, all_animated, animated, cost_of_sets}
use Rattle.fx_plain_times.specs.Times.{time_of}
use Rattle.fx_script_lines.specs.declared.instructions.Instruction.{Instruction}
use Rattle.fx_script_lines.specs.declared.instructions.Instruction.TheVariants as line
use Rattle.fx_stage_model.specs.Answers.{and_then, cost_of, or_word}
use Rattle.fx_stage_model.specs.Looking as looking
use Rattle.fx_stage_model.specs.Properties.{changed}
use Rattle.fx_stage_model.specs.World.{World}
use Rattle.fx_stage_types.specs.declared.answers.StageError.{StageError}
use Rattle.fx_stage_types.specs.declared.answers.StageError.TheVariants.{Memory, Refused}
use Rattle.fx_stage_types.specs.declared.refusals.Refusal.{Refusal}
use Rattle.fx_stage_types.specs.declared.refusals.Refusal.TheVariants as word
use Rattle.fx_store_model.specs.declared.changes.Change.TheVariants.{Set}
use Rattle.fx_play_steps.specs.Traces.{course_of}
use Rattle.fx_play_steps.specs.declared.traces.Trace.{Trace}
use Rattle.fx_play_times.specs.Passing.{HasPassed, IsKept, IsPrinted, IsTimed, passed_as}

-- timelines that are others, and nobody is told
pub still_so : (world : World) (course : Course) (answer : Result Clock Refusal) (before now : Clock)
    (result : Result (Unit {0}) StageError) → course ≡ begun world → IsKept answer before now result
    → IsTimed (still world answer) (passed_as before course) (passed_as now course) result
still_so world course (Ok clock) before now (Ok done) fresh same = ap₂ passed_as same fresh
still_so world course (Ok clock) before now (Err error) fresh is = is
still_so world course (Err word) before now (Ok done) fresh is = absurd is
still_so world course (Err word) before now (Err error) fresh (inl is) = inl is
still_so world course (Err word) before now (Err error) fresh (inr is) =
    inr (is.0, ap (λ (c : Clock). passed_as c course) is.1)

pub other_line : (i : Instruction) (clock : Clock) (world : World)
    → ((label count : List ℕ) (back : Bool) → ¬ (i ≡ line.Timeline label count back))
    → ((label time : List ℕ) (path : List (List ℕ)) (text : List ℕ) → ¬ (i ≡ line.Keyframe label time path text))
    → ((label : List ℕ) → ¬ (i ≡ line.Play label)) → ((label : List ℕ) → ¬ (i ≡ line.Stop label))
    → ((time : List ℕ) → ¬ (i ≡ line.Tick time)) → timed i clock world ≡ still world (Ok clock)
unfolding timed
other_line (line.Timeline label count back) clock world a b c d e = absurd (a label count back refl)
other_line (line.Keyframe label time path text) clock world a b c d e = absurd (b label time path text refl)
other_line (line.Play label) clock world a b c d e = absurd (c label refl)
other_line (line.Stop label) clock world a b c d e = absurd (d label refl)
other_line (line.Tick time) clock world a b c d e = absurd (e time refl)
other_line other clock world a b c d e = refl

on_none : {T E : Type 0} (A : Type 0) (r : Result T E) → OnOk r ⊥ → OnOk r A
on_none A (Ok t) none = absurd none
on_none A (Err e) none = tt

not_printed : (number : ℕ) (error : StageError) (before now : Trace) (result : Result (Unit {0}) AllocError) (A : Type 0)
    → error ≡ Memory → IsPrinted number (Err error) before now result → OnOk result A
not_printed number error before now result A memory printed =
    on_none A result (subst (λ (e : StageError). IsPrinted number (Err e) before now result) memory printed)

on_ok : {T E : Type 0} {A B : Type 0} (r : Result T E) → OnOk r A → (A → B) → OnOk r B
on_ok (Ok t) a more = more a
on_ok (Err e) a more = tt

-- the line is done, or its word is printed
pub line_told : (number : ℕ) (clock now : Clock) (before behind : World) (old mid new : Trace)
    (answer : Result Passed Refusal) (made : Result (Unit {0}) StageError) (result : Result (Unit {0}) AllocError)
    → ((world : World) → course_of world old ≡ begun world)
    → IsTimed answer (passed_as clock (course_of before old)) (passed_as now (course_of behind mid)) made
    → IsPrinted number made mid new result
    → HasPassed (passed_or_refused number clock before answer) (passed_as now (course_of behind new)) result
line_told number clock now before behind old mid new (Ok passed) (Ok done) result fresh timed printed =
    subst (λ (r : Result (Unit {0}) AllocError). HasPassed passed (passed_as now (course_of behind new)) r) (sym printed.1)
    (ap (λ (t : Trace). passed_as now (course_of behind t)) printed.0 ∙ timed)
line_told number clock now before behind old mid new (Ok passed) (Err error) result fresh timed printed =
    not_printed number error mid new result _ timed printed
line_told number clock now before behind old mid new (Err word) (Ok done) result fresh timed printed = absurd timed
line_told number clock now before behind old mid new (Err word) (Err error) result fresh (inl memory) printed =
    not_printed number error mid new result _ memory printed
line_told number clock now before behind old mid new (Err word) (Err error) result fresh (inr (is, same)) printed =
    let course : course_of behind mid ≡ begun before = ap (λ (p : Passed). p.course) same ∙ fresh before in
    let world : behind ≡ before = ap (λ (c : Course). c.world) course in
    on_ok result (subst (λ (e : StageError). IsPrinted number (Err e) mid new result) is printed behind)
    (λ told. ap₂ passed_as (ap (λ (p : Passed). p.clock) same)
    (told ∙ ap₂ (λ (w : World) (c : Course). after (answered number [] (Err word) w) c) world course))

-- a key frame whose property and time are known

abbrev IsKeyed : List ℕ → List ℕ → List (List ℕ) → List ℕ → Clock → World → ℕ → Name → ℕ → Type 0
IsKeyed label time path text clock world place name at =
    keyed label time path text clock world
    ≡ and_then (or_word word.Value (value_at (kind_at world.store.entries name.0) text)) (λ (value : Value).
    keyed_at place (record { at = at; name = name; value = value }) clock (line_at clock.lines place))

keyed_is : (label time : List ℕ) (path : List (List ℕ)) (text : List ℕ) (clock : Clock) (world : World) (place : ℕ)
    (name : Name) (at : ℕ) → find clock label ≡ Ok place → looking.find world path ≡ Ok name
    → read_only_in world.store.entries name.0 ≡ false → time_of 0 time ≡ Some at
    → IsKeyed label time path text clock world place name at
unfolding keyed
keyed_is label time path text clock world place name at found there free when = rw (found, there, free, when) refl

pub key_none : (label time : List ℕ) (path : List (List ℕ)) (text : List ℕ) (clock : Clock) (world : World) (place : ℕ)
    (name : Name) (at : ℕ) → find clock label ≡ Ok place → looking.find world path ≡ Ok name
    → read_only_in world.store.entries name.0 ≡ false → time_of 0 time ≡ Some at
    → None ≡ value_at (kind_at world.store.entries name.0) text
    → IsKept (keyed label time path text clock world) clock clock (Err (Refused word.Value))
key_none label time path text clock world place name at found there free when none =
    let is : keyed label time path text clock world ≡ Err word.Value =
    keyed_is label time path text clock world place name at found there free when
    ∙ ap (λ (o : Option Value). and_then (or_word word.Value o) (λ (value : Value).
    keyed_at place (record { at = at; name = name; value = value }) clock (line_at clock.lines place))) (sym none) in
    subst (λ (answer : Result Clock Refusal). IsKept answer clock clock (Err (Refused word.Value))) (sym is) (inr (refl, refl))

pub key_some : (label time : List ℕ) (path : List (List ℕ)) (text : List ℕ) (clock now : Clock) (world : World) (place : ℕ)
    (name : Name) (at : ℕ) (value : Value) (result : Result (Unit {0}) StageError) → find clock label ≡ Ok place
    → looking.find world path ≡ Ok name → read_only_in world.store.entries name.0 ≡ false → time_of 0 time ≡ Some at
    → Some value ≡ value_at (kind_at world.store.entries name.0) text
    → IsKept (keyed_at place (record { at = at; name = name; value = value }) clock (line_at clock.lines place)) clock now result
    → IsKept (keyed label time path text clock world) clock now result
key_some label time path text clock now world place name at value result found there free when some is_put =
    let is : keyed label time path text clock world
    ≡ keyed_at place (record { at = at; name = name; value = value }) clock (line_at clock.lines place) =
    keyed_is label time path text clock world place name at found there free when
    ∙ ap (λ (o : Option Value). and_then (or_word word.Value o) (λ (value : Value).
    keyed_at place (record { at = at; name = name; value = value }) clock (line_at clock.lines place))) (sym some) in
    subst (λ (answer : Result Clock Refusal). IsKept answer clock now result) (sym is) is_put

tick_is : (time : List ℕ) (clock : Clock) (world : World) (ms : ℕ) → time_of 1 time ≡ Some ms
    → tick time clock world ≡ Ok (passed ms clock world)
unfolding tick
tick_is time clock world ms when = rw when refl

-- time that passes
pub tick_so : (time : List ℕ) (clock now : Clock) (world : World) (before : Passed) (fresh course : Course) (n ms : ℕ)
    (sets : List (Name × Value)) → time_of 1 time ≡ Some ms → n ≡ ms → now.labels ≡ clock.labels
    → now.lines ≡ map (ticked n) clock.lines → sets ≡ sets_of n clock.lines → course ≡ all_animated sets fresh
    → fresh ≡ begun world → IsTimed (tick time clock world) before (passed_as now course) (Ok tt)
tick_so time clock now world before fresh course n ms sets when same labels lines are made begins =
    let clock_is : now ≡ record clock { lines = map (ticked ms) clock.lines } =
    ap₂ (λ (l : List (List ℕ)) (k : List Line). record { labels = l; lines = k }) labels
    (lines ∙ ap (λ (m : ℕ). map (ticked m) clock.lines) same) in
    let course_is : course ≡ all_animated (sets_of ms clock.lines) (begun world) =
    made ∙ ap₂ all_animated (are ∙ ap (λ (m : ℕ). sets_of m clock.lines) same) begins in
    subst (λ (answer : Result Passed Refusal). IsTimed answer before (passed_as now course) (Ok tt))
    (sym (tick_is time clock world ms when)) (ap₂ passed_as clock_is course_is)

-- properties that take their values one after another

pub animated_more : (sets : List (Name × Value)) (one : Name × Value) (course : Course)
    → all_animated (sets ++ one ∷ []) course ≡ after_set (all_animated sets course) one
animated_more [] one course = refl
animated_more (set ∷ sets) one course = animated_more sets one (after_set course set)

pub cost_more : (sets : List (Name × Value)) (one : Name × Value) (course : Course)
    → cost_of_sets (sets ++ one ∷ []) course.world
    ≡ cost_of_sets sets course.world + cost_of (changed (Set one.0 one.1) (all_animated sets course).world)
unfolding cost_of_sets
cost_more [] one course = omega arith
cost_more (set ∷ sets) one course =
    let rest = cost_more sets one (after_set course set) in
    ap (λ (n : ℕ). cost_of (changed (Set set.0 set.1) course.world) + n) rest
    ∙ omega arith

-- what a line that was printed evaluated
pub few_told : (number : ℕ) (answer : Result (Unit {0}) StageError) (before now : Trace) (result : Result (Unit {0}) AllocError)
    (old new cost : ℕ) → IsPrinted number answer before now result → OnOk answer (new ≤ old + cost)
    → IfErr answer (λ (error : StageError). error ≢ Memory → new ≡ old) → OnOk result (new ≤ old + cost)
few_told number (Ok done) before now (Ok told) old new cost printed few still = few
few_told number (Ok done) before now (Err error) old new cost printed few still = tt
few_told number (Err (Refused word)) before now (Ok told) old new cost printed few still =
    let same : new ≡ old = still (λ is. is_no_memory word is) in
    omega (arith, same)
  where
    is_no_memory : (word : Refusal) → ◌≡◌ {A = StageError} (Refused word) Memory → ⊥
    is_no_memory word is = cc
few_told number (Err (Refused word)) before now (Err error) old new cost printed few still = tt
few_told number (Err Memory) before now (Ok told) old new cost printed few still = absurd printed
few_told number (Err Memory) before now (Err error) old new cost printed few still = tt

-- what time that passes evaluates
pub tick_few : (time : List ℕ) (clock : Clock) (world : World) (n ms : ℕ) (sets : List (Name × Value)) (old new : ℕ)
    → time_of 1 time ≡ Some ms → n ≡ ms → sets ≡ sets_of n clock.lines → new ≤ old + cost_of_sets sets world
    → new ≤ old + tick_cost (time_of 1 time) clock world
tick_few time clock world n ms sets old new when same are few =
    subst (λ (o : Option ℕ). new ≤ old + tick_cost o clock world) (sym when)
    (subst (λ (ss : List (Name × Value)). new ≤ old + cost_of_sets ss world)
    (are ∙ ap (λ (m : ℕ). sets_of m clock.lines) same) few)
