-- All that is said of one change at once: when it is refused, what it tells, what it leaves, and how often it evaluated
-- an expression. A change that isn't allowed evaluates nothing, whatever the answer is.
use Rattle.std.specs.Prelude.{ℕ, ◌+◌, ◌≡◌, ◌≢◌, ◌≤◌, Result, Err, IfOk, IfErr, OnOk}
use Rattle.fx_store_model.specs.declared.changes.Change.{Change}
use Rattle.fx_store_model.specs.declared.changes.Notices.{Notices}
use Rattle.fx_store_model.specs.declared.errors.StoreError.{StoreError}
use Rattle.fx_store_model.specs.declared.errors.StoreError.TheVariants as error
use Rattle.fx_store_model.specs.Refusals.{IsAllowed, IsChangeAnswer}
use Rattle.fx_store_model.specs.Step.{IsUnfinished, Tells, after, cost}
use Rattle.fx_store_model.specs.Stored.{Stored}

pub record Applied
    (change : Change) (before now : Stored) (result : Result Notices StoreError) (evaluated evaluations : ℕ)
    : Type 0 where
  pub answer : IsChangeAnswer change before result
  pub notices : IfOk result (λ (notices : Notices). Tells change before notices)
  pub ok : OnOk result (now ≡ after change before)
  pub refused : IfErr result (λ (cause : StoreError). cause ≢ error.Memory → now ≡ before)
  pub still : (IsAllowed change before → ⊥) → (now ≡ before) × (evaluations ≡ evaluated)
  pub memory : result ≡ Err error.Memory → IsUnfinished change before now
  pub evaluations_few : evaluations ≤ evaluated + cost change before
