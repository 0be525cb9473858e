-- The value that a text spells, as it is read.
use Rattle.std.proofs.Common.{◌≡◌, ◌≤◌, ◌+◌, ℕ, Bool, false, List, Option, Some, None, Result, Ok, Err, refl, sym, subst, inl}
use Rattle.fx_base.specs.declared.keys.Name.{Name}
use Rattle.fx_base.specs.declared.values.Value.{Value}
use Rattle.fx_look.specs.Readings.{value_at}
use Rattle.fx_graph_model.specs.Refusals.{kind_at, read_only_in}
use Rattle.fx_store_model.specs.declared.changes.Change.TheVariants.{Set}
use Rattle.fx_stage_types.specs.declared.answers.Outcome.{Outcome}
use Rattle.fx_stage_types.specs.declared.answers.StageError.{StageError}
use Rattle.fx_stage_types.specs.declared.answers.StageError.TheVariants.{Refused}
use Rattle.fx_stage_types.specs.declared.refusals.Refusal.{Refusal}
use Rattle.fx_stage_types.specs.declared.refusals.Refusal.TheVariants as word
use Rattle.fx_stage_model.specs.Answers.{Taken, and_then, cost_of, or_word, unless}
use Rattle.fx_stage_model.specs.Looking.{find}
use Rattle.fx_stage_model.specs.Properties.{changed, set}
use Rattle.fx_stage_model.specs.Taking.{IsTaken}
use Rattle.fx_stage_model.specs.World.{World}

-- a `set` of a property that is found and not read-only, by what the text spells
module _ (path : List (List ℕ)) (text : List ℕ) (world : World) (name : Name) (here : find world path ≡ Ok name)
    (free : read_only_in world.store.entries name.0 ≡ false) where
  by_value : World → Name → Option Value → Result Taken Refusal
  by_value w n o = and_then (or_word word.Value o) (λ (v : Value). changed (Set n v) w)

  by_name : World → Name → Result Taken Refusal
  by_name w n =
      unless (read_only_in w.store.entries n.0) word.ReadOnly (by_value w n (value_at (kind_at w.store.entries n.0) text))

  set_is : (o : Option Value) → o ≡ value_at (kind_at world.store.entries name.0) text → set path text world ≡ by_value world name o
  unfolding set by_value by_name
  set_is o is =
      subst (λ (r : Result Name Refusal). and_then r (by_name world) ≡ by_value world name o) (sym here)
      (subst (λ (b : Bool). unless b word.ReadOnly (by_value world name (value_at (kind_at world.store.entries name.0) text)) ≡ by_value world name o) (sym free)
      (subst (λ (p : Option Value). by_value world name p ≡ by_value world name o) is refl))

  pub set_none : None ≡ value_at (kind_at world.store.entries name.0) text
      → IsTaken (set path text world) world world (Err (Refused word.Value))
  unfolding by_value
  set_none is =
      subst (λ (r : Result Taken Refusal). IsTaken r world world (Err (Refused word.Value))) (sym (set_is None is)) (refl, inl refl)

  pub set_some : (value : Value) (now : World) (result : Result Outcome StageError)
      → Some value ≡ value_at (kind_at world.store.entries name.0) text
      → IsTaken (changed (Set name value) world) world now result → IsTaken (set path text world) world now result
  unfolding by_value
  set_some value now result is taken =
      subst (λ (r : Result Taken Refusal). IsTaken r world now result) (sym (set_is (Some value) is)) taken

  pub set_few : (value : Value) (old new : ℕ) → Some value ≡ value_at (kind_at world.store.entries name.0) text
      → new ≤ old + cost_of (changed (Set name value) world) → new ≤ old + cost_of (set path text world)
  unfolding by_value
  set_few value old new is few =
      subst (λ (r : Result Taken Refusal). new ≤ old + cost_of r) (sym (set_is (Some value) is)) few
