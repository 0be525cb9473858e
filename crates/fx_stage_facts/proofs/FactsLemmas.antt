-- The facts of a world, from their parts.
use Rattle.std.proofs.Common.{◌≡◌, ◌∙◌, ℕ, List, Bool, Result, Ok, Err, OnOk, refl, ap}
use Rattle.fx_graph_model.specs.Unread.{after_reads}
use Rattle.fx_stage_model.specs.World.{World}
use Rattle.fx_store_model.specs.Stored.{with_unread}
use Rattle.fx_stage_facts.specs.Attached.{display_names, looked}
use Rattle.fx_stage_facts.specs.Scenes.{facts_of}

-- the world after its properties were read has the same facts

pub facts_looked : (world : World) → facts_of (looked world) ≡ facts_of world
unfolding facts_of
facts_looked world = refl

pub looked_by : (world now : World) (names : List ℕ)
    → after_reads world.store.entries names world.store.unread
    ≡ after_reads world.store.entries (display_names world) world.store.unread
    → now ≡ record world { store = with_unread (after_reads world.store.entries names world.store.unread) world.store }
    → now ≡ looked world
looked_by world now names reads is =
    is ∙ ap (λ (unread : List Bool). record world { store = with_unread unread world.store }) reads

pub on_ok : {T E P : Type 0} (result : Result T E) → P → OnOk result P
on_ok (Ok value) holds = holds
on_ok (Err error) holds = tt

pub ok_weaker : {T E P Q : Type 0} (result : Result T E) → (P → Q) → OnOk result P → OnOk result Q
ok_weaker (Ok value) more holds = more holds
ok_weaker (Err error) more holds = tt
