-- How many expressions a change of the store evaluates at most.
use Rattle.std.proofs.Common.{◌≡◌, ◌≤◌, ◌+◌, ℕ, List, Bool, true, false, Option, Some, None, Result, Ok, Err, refl, sym, ap, arith, subst}
use Rattle.fx_base.specs.Answers.{IsAnswer}
use Rattle.fx_store_model.specs.Applied.{Applied}
use Rattle.fx_store_model.specs.declared.changes.Change.{Change}
use Rattle.fx_store_model.specs.declared.changes.Notices.{Notices}
use Rattle.fx_store_model.specs.declared.errors.StoreError.{StoreError}
use Rattle.fx_store_model.specs.declared.errors.StoreError.TheVariants as store
use Rattle.fx_store_model.specs.Laws.{takes_away}
use Rattle.fx_store_model.specs.Refusals.{refusal}
use Rattle.fx_store_model.specs.Stored.{Stored}
use Rattle.fx_stage_types.specs.declared.refusals.Refusal.{Refusal}
use Rattle.fx_stage_model.specs.Answers.{Taken, and_then, cost_of}
use Rattle.fx_stage_model.specs.Properties.{by_store, changed}
use Rattle.fx_stage_model.specs.World.{World}
use Rattle.fx_stage.specs.Noting.{added, all_noted}
use Rattle.fx_stage.proofs.TakingLemmas.{answer_of}

-- what isn't allowed evaluates nothing, and what is allowed as much as its change
pub changed_few : (change : Change) (world : World) (now : Stored) (looked counted : ℕ) → takes_away change ≡ false
    → (result : Result Notices StoreError) → Applied change world.store now result looked counted
    → counted ≤ looked + cost_of (changed change world)
unfolding changed
changed_few change world now looked counted keeps result a = by_refusal (refusal change world.store) refl
  where
    by_refusal : (o : Option StoreError) → refusal change world.store ≡ o
        → counted ≤ looked + cost_of (by_store change world o)
    by_refusal None here = a.evaluations_few
    by_refusal (Some refused) here =
        let still =
        a.still (λ allowed.
        subst (λ (o : Option StoreError). IsAnswer {T = Unit {0}} store.Memory o (Ok tt)) here
        (answer_of (Unit {0}) change world.store (Ok tt) keeps allowed)) in
        let same : counted ≡ looked = still.1 in
        omega (arith, same)

-- what is kept of a listener costs nothing more
pub added_few : (change : Change) (asked : List (List ℕ)) (runs : Option (List ℕ)) (world : World) (old new : ℕ)
    → new ≤ old + cost_of (changed change world) → new ≤ old + cost_of (added change asked runs world)
added_few change asked runs world old new few =
    subst (λ (n : ℕ). new ≤ old + n) (sym (same (changed change world))) few
  where
    same : (r : Result Taken Refusal)
        → cost_of (and_then r (λ (taken : Taken). Ok (all_noted (world.store.given + 1) asked runs taken))) ≡ cost_of r
    same (Ok taken) = refl
    same (Err word) = refl
