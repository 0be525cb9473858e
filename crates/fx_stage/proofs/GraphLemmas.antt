-- What a line makes of a world that changes its scene graph alone.
use Rattle.std.proofs.Common.{◌≡◌, ◌⊎◌, Bool, true, false, cond, Option, Some, None, Result, Ok, Err, OnErr, OnOk, is_some, refl, sym, ◌∙◌, subst, inl, inr}
use Rattle.std.specs.Option.{option_map}
use Rattle.fx_base.specs.Answers.{IsAnswer}
use Rattle.fx_tree.specs.declared.TreeError.{TreeError}
use Rattle.fx_stage_types.specs.declared.answers.StageError.{StageError}
use Rattle.fx_stage_types.specs.declared.answers.StageError.TheVariants.{Refused, Memory}
use Rattle.fx_stage_types.specs.declared.refusals.Refusal.TheVariants as word
use Rattle.fx_stage_types.specs.declared.refusals.Refusal.{Refusal}
use Rattle.fx_stage_types.specs.Words.{of_tree}
use Rattle.fx_stage_model.specs.Answers.{Taken, silently, unless}
use Rattle.fx_stage_model.specs.Graphs.{Graph}
use Rattle.fx_stage_model.specs.Nodes.{by_tree}
use Rattle.fx_stage_model.specs.Properties.{word_in}
use Rattle.fx_stage_model.specs.Taking.{IsTaken}
use Rattle.fx_stage_model.specs.World.{World, with_graph}
use Rattle.fx_stage_words.specs.Told.{plain_as, silent_as}
use Rattle.fx_stage.proofs.DeclaringLemmas.{memory_first}

abbrev by_refusal : Option StageError → World → Result Taken Refusal
by_refusal None made = silently made
by_refusal (Some error) made = Err (word_in error)

word_or_memory : (error : StageError) → (error ≡ Refused (word_in error)) ⊎ (error ≡ Memory)
word_or_memory (Refused refusal) = inl refl
word_or_memory Memory = inr refl

-- a change that is refused exactly so
answered : (refusal : Option StageError) (before made now : World) (answer : Result (Unit {0}) StageError)
    → IsAnswer Memory refusal answer → OnOk answer (now ≡ made) → OnErr answer (now ≡ before)
    → IsTaken (by_refusal refusal made) before now (silent_as answer)
answered None before made now (Ok u) is ok err = (ok, refl)
answered None before made now (Err error) is ok err =
    subst (λ (w : World). IsTaken (silently made) before w (Err error)) (sym err)
    (subst (λ (e : StageError). IsTaken (silently made) before before (Err e)) (sym is) (memory_first (silently made) before))
answered (Some refused) before made now (Ok u) is ok err = is
answered (Some refused) before made now (Err error) is ok err = (
  err,
  elim is [
    | inl same ↦ elim (word_or_memory refused) [ inl named ↦ inl (same ∙ named) | inr wanting ↦ inr (same ∙ wanting) ]
    | inr wanting ↦ inr wanting
  ],
)

-- a change that only memory can hinder
pub plain_answered : {E : Type 0} (before made now : World) (answer : Result (Unit {0}) E)
    → OnOk answer (now ≡ made) → OnErr answer (now ≡ before) → IsTaken (silently made) before now (plain_as answer)
plain_answered before made now (Ok u) ok err = (ok, refl)
plain_answered before made now (Err error) ok err =
    subst (λ (w : World). IsTaken (silently made) before w (Err Memory)) (sym err) (memory_first (silently made) before)
