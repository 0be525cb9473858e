-- One step after another, and what the whole plan makes of a world.
use Rattle.std.proofs.Common.{◌≡◌, ℕ, List, [], ◌∷◌, ◌++◌, Result, Ok, Err, refl, sym, ◌∙◌, ap, subst, Vec, length, vec_len}
use Rattle.std.specs.Global.{Global}
use Rattle.std.specs.Prelude.{reverse}
use Rattle.std.specs.Result.{IsErrAnd}
use Rattle.std.proofs.lemmas.List.{reverse-append}
use Rattle.fx_base.specs.declared.keys.NodeKey.{NodeKey}
use Rattle.fx_stage_types.specs.declared.answers.StageError.{StageError}
use Rattle.fx_stage_types.specs.declared.answers.StageError.TheVariants.{Refused, Memory}
use Rattle.fx_stage_types.specs.declared.refusals.Refusal.{Refusal}
use Rattle.fx_stage_model.specs.World.{World}
use Rattle.fx_scene_plan.specs.declared.steps.PlannedStep.{PlannedStep}
use Rattle.fx_scene_plan.specs.Plans.{IsBuiltFrom, IsPlanBuilt, IsScene, Standing, all_built, one_built, one_refused, stepped}
use Rattle.fx_scene_build.specs.Steps.{IsStepTaken}

-- what the steps that are left, the next one last, make of what stands is what the whole plan makes of the world
abbrev pub Completes : Standing → List PlannedStep → World → List PlannedStep → Type 0
Completes now left before plan =
    (answer : Result Standing Refusal) → IsBuiltFrom now (reverse left) answer → IsPlanBuilt plan before answer

next_last : (left rest : List PlannedStep) (step : PlannedStep) → left ≡ rest ++ (step ∷ [])
    → reverse left ≡ step ∷ reverse rest
next_last left rest step e = ap reverse e ∙ reverse-append rest (step ∷ [])

pub goes_on : (now next : Standing) (left rest : List PlannedStep) (step : PlannedStep) (before : World)
    (plan : List PlannedStep) → left ≡ rest ++ (step ∷ []) → Completes now left before plan
    → (slot : ℕ) × (stepped slot step now ≡ Ok next) → Completes next rest before plan
goes_on now next left rest step before plan e completes made answer more =
    let IsNext : List PlannedStep → Type 0 = λ steps. IsBuiltFrom now steps answer in
    completes answer
    (subst IsNext (sym (next_last left rest step e)) (one_built made.0 now next step (reverse rest) answer made.1 more))

pub stops : (now : Standing) (left rest : List PlannedStep) (step : PlannedStep) (word : Refusal) (before : World)
    (plan : List PlannedStep) → left ≡ rest ++ (step ∷ []) → Completes now left before plan
    → (slot : ℕ) × (stepped slot step now ≡ Err word) → IsPlanBuilt plan before (Err word)
stops now left rest step word before plan e completes bad =
    let IsNext : List PlannedStep → Type 0 = λ steps. IsBuiltFrom now steps (Err word) in
    completes (Err word)
    (subst IsNext (sym (next_last left rest step e)) (one_refused bad.0 now step (reverse rest) word bad.1))

-- the answer of a step is told on
pub told_on : (now next : Standing) (left rest : List PlannedStep) (step : PlannedStep) (before world : World)
    (plan : List PlannedStep) (error : StageError) (result : Result (Vec NodeKey Global) StageError)
    → left ≡ rest ++ (step ∷ []) → Completes now left before plan
    → IsStepTaken {T = Unit {0}} step now next (Err error) → IsErrAnd result (λ e. e ≡ error)
    → IsScene plan before world result
told_on now next left rest step before world plan error (Ok keys) e completes bad told = absurd told
told_on now next left rest step before world plan error (Err other) e completes bad told =
    let IsTold : StageError → Type 0 = λ x. IsScene plan before world (Err x) in
    subst IsTold (sym told) (by_error error bad)
  where
    by_error : (x : StageError) → IsStepTaken {T = Unit {0}} step now next (Err x) → IsScene plan before world (Err x)
    by_error (Refused word) bad = stops now left rest step word before plan e completes bad
    by_error Memory bad = tt

nothing_left : (steps : List PlannedStep) → length steps ≡ 0 → steps ≡ []
nothing_left [] h = refl
nothing_left (step ∷ steps) h = absurd (cc)

pub none_left : (left : Vec PlannedStep Global) → vec_len left ≡ 0 → left.items ≡ []
none_left left h = nothing_left left.items (let long : length left.items ≡ vec_len left = cc in long ∙ h)

pub ends : (now : Standing) (left : List PlannedStep) (before : World) (plan : List PlannedStep) → left ≡ []
    → Completes now left before plan → IsPlanBuilt plan before (Ok now)
ends now left before plan e completes =
    let IsNext : List PlannedStep → Type 0 = λ steps. IsBuiltFrom now steps (Ok now) in
    completes (Ok now) (subst IsNext (ap reverse (sym e)) (all_built now))
