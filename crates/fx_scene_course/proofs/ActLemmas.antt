-- What is done for acts, one after another.
use Rattle.std.proofs.Common.{◌≡◌, ◌<◌, ◌≤◌, ℕ, List, [], ◌∷◌, ◌++◌, Option, Some, None, Result, Ok, Err, true, false, refl, sym, ◌∙◌, ap, subst, length, Vec, vec_len}
use Rattle.std.specs.Global.{Global}
use Rattle.std.specs.Prelude.{reverse, OnOk}
use Rattle.std.proofs.lemmas.List.{reverse-append}
use Rattle.fx_base.specs.declared.positions.Place.{Place}
use Rattle.fx_base.specs.declared.positions.Position.{Position}
use Rattle.fx_css_types.specs.declared.sheets.Sheet.{Sheet}
use Rattle.fx_load_parts.specs.Says.{SaysSuch}
use Rattle.fx_load_parts.specs.Sheets.{IsSheetIn}
use Rattle.fx_load_parts.specs.Views.{fault_of}
use Rattle.fx_load_parts.specs.declared.files.LoadError.{LoadError}
use Rattle.fx_load_parts.specs.declared.files.LoadError.TheVariants as load
use Rattle.fx_port.specs.Files.{Files}
use Rattle.fx_port.specs.declared.files.FetchError.{FetchError}
use Rattle.fx_scene_acts.specs.Acts.{act_of}
use Rattle.fx_scene_acts.specs.declared.acts.Act.{Act}
use Rattle.fx_scene_acts.specs.declared.acts.Binding.{Binding}
use Rattle.fx_scene_acts.specs.declared.acts.Deed.{Deed}
use Rattle.fx_scene_acts.specs.declared.acts.Deed.TheVariants as deed
use Rattle.fx_scene_flaws.specs.declared.flaws.Flaw.{Flaw}
use Rattle.fx_scene_flaws.specs.declared.flaws.Flaw.TheVariants as flaw
use Rattle.fx_scene_course.specs.Courses.{Course, place_in, with_binding, with_fault_in, with_file, with_flaw, with_step}
use Rattle.fx_scene_course.specs.Made.{IsSheetKept}
use Rattle.fx_scene_course.specs.Making.{AreActsDone, IsActDone, IsSheetAdded, acts_end, bad_location, binding_kept, flaw_told, no_acts, one_act, one_too_many, sheet_located, sheet_named, sheet_read, sheet_refused, step_taken, with_read}
use Rattle.fx_scene_course.specs.Opens.{Open, step_in}
use Rattle.fx_scene_places.specs.Places.{joined}
use Rattle.fx_scene_plan.specs.declared.steps.PlannedStep.{PlannedStep}

-- what is done for the acts that are left, the next one last, completes what is done for all of them
abbrev pub Completes : Files → Open → Course → List Act → Course → List Act → Type 0
Completes files here first acts now left =
    (last : Course) → AreActsDone files here now (reverse left) last → AreActsDone files here first acts last

pub begins : (files : Files) (here : Open) (first : Course) (acts left : List Act) → reverse left ≡ acts
    → Completes files here first acts first left
begins files here first acts left turned last done =
    subst (λ (all : List Act). AreActsDone files here first all last) turned done

next_last : (left rest : List Act) (act : Act) → left ≡ rest ++ (act ∷ []) → reverse left ≡ act ∷ reverse rest
next_last left rest act e = ap reverse e ∙ reverse-append rest (act ∷ [])

pub goes_on : (files : Files) (here : Open) (first now next : Course) (acts left rest : List Act) (act : Act)
    → left ≡ rest ++ (act ∷ []) → Completes files here first acts now left → now.at_fault ≡ false
    → IsActDone files here now act next → Completes files here first acts next rest
goes_on files here first now next acts left rest act e completes calm one last more =
    completes last
    (subst (λ (all : List Act). AreActsDone files here now all last) (sym (next_last left rest act e))
    (one_act now next last act (reverse rest) calm one more))

pub stops : (files : Files) (here : Open) (first now : Course) (acts left : List Act)
    → Completes files here first acts now left → now.at_fault ≡ true → AreActsDone files here first acts now
stops files here first now acts left completes fault = completes now (acts_end now (reverse left) fault)

nothing_left : (acts : List Act) → length acts ≡ 0 → acts ≡ []
nothing_left [] h = refl
nothing_left (act ∷ acts) h = absurd (cc)

none_left : (left : Vec Act Global) → vec_len left ≡ 0 → left.items ≡ []
none_left left h = nothing_left left.items (let long : length left.items ≡ vec_len left = cc in long ∙ h)

pub ends : (files : Files) (here : Open) (first now : Course) (acts : List Act) (left : Vec Act Global) → vec_len left ≡ 0
    → Completes files here first acts now left.items → AreActsDone files here first acts now
ends files here first now acts left h completes =
    completes now
    (subst (λ (all : List Act). AreActsDone files here now all now) (ap reverse (sym (none_left left h))) (no_acts now))

-- what follows where a step was taken
pub on_ok : {T E P Q : Type 0} (answer : Result T E) → (P → Q) → OnOk answer P → OnOk answer Q
on_ok (Ok value) so p = so p
on_ok (Err error) so p = tt

pub on_both : {T E P Q R : Type 0} (answer : Result T E) → (P → Q → R) → OnOk answer P → OnOk answer Q → OnOk answer R
on_both (Ok value) so p q = so p q
on_both (Err error) so p q = tt

-- one act

abbrev IsDone : Files → Open → Course → Position → Deed → Course → Type 0
IsDone files here course place asked next = IsActDone files here course (act_of place asked) next

pub step_done : (files : Files) (here : Open) (course next : Course) (place : Position) (step : PlannedStep)
    (taken : Option PlannedStep) → taken ≡ step_in here step → next ≡ with_step course (place_in here.file place) taken
    → IsDone files here course place (deed.Step step) next
step_done files here course next place step taken is e =
    subst (λ (c : Course). IsDone files here course place (deed.Step step) c)
    (sym (e ∙ ap (with_step course (place_in here.file place)) is)) (step_taken place step)

pub flaw_done : (files : Files) (here : Open) (course next : Course) (place : Position) (mistake : Flaw)
    → next ≡ with_flaw course (place_in here.file place) mistake → IsDone files here course place (deed.Flaw mistake) next
flaw_done files here course next place mistake e =
    subst (λ (c : Course). IsDone files here course place (deed.Flaw mistake) c) (sym e) (flaw_told place mistake)

pub binding_done : (files : Files) (here : Open) (course next : Course) (place : Position) (binding : Binding)
    → next ≡ with_binding course (place_in here.file place) binding
    → IsDone files here course place (deed.Bind binding) next
binding_done files here course next place binding e =
    subst (λ (c : Course). IsDone files here course place (deed.Bind binding) c) (sym e) (binding_kept place binding)

pub misplaced : (files : Files) (here : Open) (course next : Course) (place : Position) (node : ℕ) (location : List ℕ)
    → None ≡ joined here.name location → next ≡ with_flaw course (place_in here.file place) flaw.Value
    → IsDone files here course place (deed.Sheet node location) next
misplaced files here course next place node location none e =
    subst (λ (c : Course). IsDone files here course place (deed.Sheet node location) c) (sym e)
    (bad_location place node location (sym none))

pub located : (files : Files) (here : Open) (course next : Course) (place : Position) (node : ℕ)
    (location target : List ℕ) → Some target ≡ joined here.name location
    → IsSheetAdded files (place_in here.file place) node target course next
    → IsDone files here course place (deed.Sheet node location) next
located files here course next place node location target some added =
    sheet_located place node location target next (sym some) added

pub named : (files : Files) (here : Open) (course next : Course) (place : Position) (node : ℕ) (name target : List ℕ)
    → target ≡ name → IsSheetAdded files (place_in here.file place) node target course next
    → IsDone files here course place (deed.File node name) next
named files here course next place node name target same added =
    sheet_named place node name next
    (subst (λ (t : List ℕ). IsSheetAdded files (place_in here.file place) node t course next) same added)

-- one sheet

pub too_many : (files : Files) (place : Place) (node : ℕ) (target : List ℕ) (course next : Course)
    → 63 ≤ length course.files → next ≡ with_flaw course place flaw.Limit
    → IsSheetAdded files place node target course next
too_many files place node target course next many e =
    subst (λ (c : Course). IsSheetAdded files place node target course c) (sym e) (one_too_many many)

pub kept : (files : Files) (place : Place) (node : ℕ) (target : List ℕ) (course middle next : Course) (count : ℕ)
    (answer : Result Sheet LoadError) → count ≡ length course.files → count < 63
    → SaysSuch (λ sheet. sheet) (IsSheetIn files count target) answer → middle ≡ with_file course target
    → IsSheetKept {T = Unit {0}} place node count answer middle next (Ok tt)
    → IsSheetAdded files place node target course next
kept files place node target course middle next count (Ok sheet) counted few says filed e =
    let Few : ℕ → Type 0 = λ n. n < 63 in
    let IsIn : ℕ → Type 0 = λ n. IsSheetIn files n target (Ok sheet) in
    subst (λ (c : Course). IsSheetAdded files place node target course c)
    (sym (e ∙ ap (λ (c : Course). with_read place node sheet c) filed))
    (sheet_read sheet (subst Few counted few) (subst IsIn counted says))
kept files place node target course middle next count (Err (load.Fault fault)) counted few says filed e =
    let Few : ℕ → Type 0 = λ n. n < 63 in
    let IsIn : ℕ → Type 0 = λ n. IsSheetIn files n target (Err (fault_of fault)) in
    subst (λ (c : Course). IsSheetAdded files place node target course c)
    (sym (e ∙ (ap (λ (c : Course). with_fault_in c count (fault_of fault)) filed
    ∙ ap (λ (n : ℕ). with_fault_in (with_file course target) n (fault_of fault)) counted)))
    (sheet_refused (fault_of fault) (subst Few counted few) (subst IsIn counted says))
kept files place node target course middle next count (Err load.Failed) counted few says filed e = absurd e
kept files place node target course middle next count (Err load.Memory) counted few says filed e = absurd e

pub kept_on : (files : Files) (place : Place) (node : ℕ) (target : List ℕ) (course middle next : Course) (count : ℕ)
    (answer : Result Sheet LoadError) (done : Result (Unit {0}) FetchError) → count ≡ length course.files → count < 63
    → SaysSuch (λ sheet. sheet) (IsSheetIn files count target) answer → middle ≡ with_file course target
    → IsSheetKept place node count answer middle next done
    → OnOk done (IsSheetAdded files place node target course next)
kept_on files place node target course middle next count answer (Ok tt) counted few says filed e =
    kept files place node target course middle next count answer counted few says filed e
kept_on files place node target course middle next count answer (Err error) counted few says filed e = tt

pub counted : {A : Type 0} (all : Vec A Global) (count : ℕ) → count ≡ vec_len all → count ≡ length all.items
counted all count e = let long : length all.items ≡ vec_len all = cc in e ∙ sym long
