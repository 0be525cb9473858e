-- One task after another, and what all of them make of a world.
use Rattle.std.proofs.Common.{◌≡◌, ℕ, List, [], ◌∷◌, ◌++◌, Result, Ok, Err, refl, sym, ◌∙◌, ap, subst, Vec, length, vec_len}
use Rattle.std.specs.Global.{Global}
use Rattle.std.specs.Prelude.{reverse}
use Rattle.std.specs.Result.{IsErrAnd}
use Rattle.std.proofs.lemmas.List.{reverse-append}
use Rattle.fx_base.specs.declared.keys.NodeKey.{NodeKey}
use Rattle.fx_scene_acts.specs.Acts.{IsActed, IsActedFrom, acted, all_done, one_done, one_ends}
use Rattle.fx_scene_acts.specs.declared.tasks.SceneFault.{SceneFault}
use Rattle.fx_scene_acts.specs.declared.tasks.Task.{Task}
use Rattle.fx_scene_plan.specs.Plans.{Standing}
use Rattle.fx_scene_raise.specs.Raising.{IsTaskTaken, IsRaised}
use Rattle.fx_scene_raise.specs.declared.errors.RaiseError.{RaiseError}
use Rattle.fx_scene_raise.specs.declared.errors.RaiseError.TheVariants.{Fault, Memory}
use Rattle.fx_stage_model.specs.World.{World}

-- what the tasks that are left, the next one last, make of what stands is what all tasks make of the world
abbrev pub Completes : Standing → List Task → World → List Task → Type 0
Completes now left before tasks =
    (answer : Result Standing SceneFault) → IsActedFrom now (reverse left) answer → IsActed tasks before answer

next_last : (left rest : List Task) (task : Task) → left ≡ rest ++ (task ∷ []) → reverse left ≡ task ∷ reverse rest
next_last left rest task e = ap reverse e ∙ reverse-append rest (task ∷ [])

pub goes_on : (now next : Standing) (left rest : List Task) (task : Task) (before : World) (tasks : List Task)
    → left ≡ rest ++ (task ∷ []) → Completes now left before tasks → (slot : ℕ) × (acted slot task now ≡ Ok next)
    → Completes next rest before tasks
goes_on now next left rest task before tasks e completes made answer more =
    let IsNext : List Task → Type 0 = λ steps. IsActedFrom now steps answer in
    completes answer
    (subst IsNext (sym (next_last left rest task e)) (one_done made.0 now next task (reverse rest) answer made.1 more))

pub stops : (now : Standing) (left rest : List Task) (task : Task) (fault : SceneFault) (before : World) (tasks : List Task)
    → left ≡ rest ++ (task ∷ []) → Completes now left before tasks → (slot : ℕ) × (acted slot task now ≡ Err fault)
    → IsActed tasks before (Err fault)
stops now left rest task fault before tasks e completes bad =
    let IsNext : List Task → Type 0 = λ steps. IsActedFrom now steps (Err fault) in
    completes (Err fault)
    (subst IsNext (sym (next_last left rest task e)) (one_ends bad.0 now task (reverse rest) fault bad.1))

-- the answer of a task is told on
pub told_on : (now next : Standing) (left rest : List Task) (task : Task) (before world : World) (tasks : List Task)
    (error : RaiseError) (result : Result (Vec NodeKey Global) RaiseError) → left ≡ rest ++ (task ∷ [])
    → Completes now left before tasks → IsTaskTaken {T = Unit {0}} task now next (Err error)
    → IsErrAnd result (λ e. e ≡ error) → IsRaised tasks before world result
told_on now next left rest task before world tasks error (Ok keys) e completes bad told = absurd told
told_on now next left rest task before world tasks error (Err other) e completes bad told =
    let IsTold : RaiseError → Type 0 = λ x. IsRaised tasks before world (Err x) in
    subst IsTold (sym told) (by_error error bad)
  where
    by_error : (x : RaiseError) → IsTaskTaken {T = Unit {0}} task now next (Err x) → IsRaised tasks before world (Err x)
    by_error (Fault fault) bad = stops now left rest task fault before tasks e completes bad
    by_error Memory bad = tt

nothing_left : (tasks : List Task) → length tasks ≡ 0 → tasks ≡ []
nothing_left [] h = refl
nothing_left (task ∷ tasks) h = absurd (cc)

pub none_left : (left : Vec Task Global) → vec_len left ≡ 0 → left.items ≡ []
none_left left h = nothing_left left.items (let long : length left.items ≡ vec_len left = cc in long ∙ h)

pub ends : (now : Standing) (left : List Task) (before : World) (tasks : List Task) → left ≡ []
    → Completes now left before tasks → IsActed tasks before (Ok now)
ends now left before tasks e completes =
    let IsNext : List Task → Type 0 = λ steps. IsActedFrom now steps (Ok now) in
    completes (Ok now) (subst IsNext (ap reverse (sym e)) (all_done now))
