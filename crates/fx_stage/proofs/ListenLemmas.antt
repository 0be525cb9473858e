-- `listen` as the change that adds a listener, with what is kept of it.
use Rattle.std.proofs.Common.{◌≡◌, ◌∙◌, ◌+◌, ◌++◌, ◌∷◌, [], ℕ, List, Option, Some, None, option_to_list, Result, Ok, refl, sym, ap}
use Rattle.fx_base.specs.declared.keys.Name.{Name}
use Rattle.fx_handles.specs.declared.Owner.{Owner}
use Rattle.fx_listen.specs.declared.entries.ListenKind.{ListenKind}
use Rattle.fx_store_model.specs.declared.changes.Change.{Change}
use Rattle.fx_store_model.specs.declared.changes.Change.TheVariants.{Listen}
use Rattle.fx_store_model.specs.declared.errors.StoreError.{StoreError}
use Rattle.fx_store_model.specs.Refusals.{refusal}
use Rattle.fx_store_model.specs.Step.{after, before_reads, cost}
use Rattle.fx_stage_types.specs.declared.refusals.Refusal.{Refusal}
use Rattle.fx_stage_model.specs.Answers.{Taken, and_then}
use Rattle.fx_stage_model.specs.Listening.{find_both, kind_named, listen, listened, tag_of, with_run}
use Rattle.fx_stage_model.specs.Properties.{by_store, changed, told}
use Rattle.fx_stage_model.specs.World.{World, with_store}
use Rattle.fx_stage.specs.Noting.{added, all_noted}

-- what is kept of a listener is what its line says
listened_is : (change : Change) (world : World) (n : ℕ) (asked : List (List ℕ)) (action runs : Option (List ℕ))
    → world.names.run ++ option_to_list runs ≡ with_run action world.names.run → (o : Option StoreError)
    → and_then (by_store change world o) (λ (taken : Taken). Ok (all_noted n asked runs taken))
    ≡ and_then (by_store change world o) (λ (taken : Taken). Ok (listened n asked action taken))
listened_is change world n asked action runs is None =
    let made = with_store (before_reads change world.store) world in
    let last = with_store (after change world.store) world in
    ap
    (λ (run : List (List ℕ)).
    Ok
    (record {
      made = record made { names = record made.names { run = run; written = made.names.written ++ (n, asked) ∷ [] } };
      world = record last { names = record last.names { run = run; written = last.names.written ++ (n, asked) ∷ [] } };
      value = None;
      notices = told change world.store;
      warnings = [];
      cost = cost change world.store;
    }))
    is
listened_is change world n asked action runs is (Some error) = refl

module _ (world : World) (kind : List ℕ) (path : List (List ℕ)) (action label : Option (List ℕ)) where
  abbrev behind : Name × Option Owner → ListenKind → ℕ → List (List ℕ) → Result Taken Refusal
  behind found k tag asked =
      and_then (changed (Listen found.0 k found.1 tag) world)
      (λ (taken : Taken). Ok (listened (world.store.given + 1) asked action taken))

  pub listen_is : (found : Name × Option Owner) (k : ListenKind) (tag : ℕ) (asked : List (List ℕ)) (runs : Option (List ℕ))
      → find_both world path label ≡ Ok found → k ≡ kind_named kind → tag ≡ tag_of world.names.run action → asked ≡ path
      → world.names.run ++ option_to_list runs ≡ with_run action world.names.run
      → listen kind path action label world ≡ added (Listen found.0 k found.1 tag) asked runs world
  unfolding listen changed
  listen_is found k tag asked runs here kind_is tag_is asked_is run_is =
      ap
      (λ (r : Result (Name × Option Owner) Refusal).
      and_then r (λ (f : Name × Option Owner). behind f (kind_named kind) (tag_of world.names.run action) path))
      here
      ∙ ap (λ (j : ListenKind). behind found j (tag_of world.names.run action) path) (sym kind_is)
      ∙ ap (λ (n : ℕ). behind found k n path) (sym tag_is)
      ∙ ap (behind found k tag) (sym asked_is)
      ∙ sym
      (listened_is (Listen found.0 k found.1 tag) world (world.store.given + 1) asked action runs run_is
      (refusal (Listen found.0 k found.1 tag) world.store))
