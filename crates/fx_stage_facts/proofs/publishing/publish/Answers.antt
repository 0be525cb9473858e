use Rattle.std.proofs.Common.{◌≡◌, ◌∙◌, ◌≤◌, ◌+◌, List, Result, arith, sym, subst, vec_len}
use Rattle.std.proofs.lemmas.Bool.{not-false}
use Rattle.fx_base.specs.declared.keys.Name.{Name}
use Rattle.fx_base.specs.declared.values.Value.{Value}
use Rattle.fx_graph_model.specs.Sound.{AreSound}
use Rattle.fx_store_model.specs.declared.changes.Change.TheVariants.{Publish}
use Rattle.fx_store_model.specs.Step.{IsFit}
use Rattle.fx_stage_types.specs.declared.refusals.Refusal.{Refusal}
use Rattle.fx_stage_model.specs.Answers.{Taken, cost_of}
use Rattle.fx_stage_model.specs.Properties.{changed}
use Rattle.fx_stage_model.specs.Sound.{IsSound}
use Rattle.fx_stage_model.specs.Taking.{IsTaken}
use Rattle.fx_stage_model.specs.World.{World}
use Rattle.fx_stage_facts.specs.Publishing.{AreOnce, Size, pairs_of}
use Rattle.fx_stage_facts.specs.Staying.{differing}
use Rattle.fx_stage_facts.proofs.PublishLemmas.{differing_fits, published_err, published_ok, same_changed, sized_few}
use Rattle.fx_stage_facts.proofs.RestLemmas.{nothing_in, still_of}
use Rattle.fx_stage_facts.proofs.publishing.publish.Goals as goal

-- what is published makes what all sizes make
whole : (world : World) (sizes : List Size) (listed pairs : List (Name × Value))
    → IsSound world.store.entries world.graph.table world.names.free → AreSound world.store.entries → AreOnce sizes
    → pairs ≡ listed → listed ≡ differing world.store (pairs_of world sizes)
    → (P : Result Taken Refusal → Type 0) → P (changed (Publish pairs) world)
    → P (changed (Publish (pairs_of world sizes)) world)
whole world sizes listed pairs sound right once same is P of_pairs =
    subst P (same_changed world sound sizes once right)
    (subst (λ (ps : List (Name × Value)). P (changed (Publish ps) world)) (same ∙ is) of_pairs)

pub publish-requires : goal.publish-requires
publish-requires g c =
    subst (λ (pairs : List (Name × Value)). IsFit (Publish pairs) c.args.stage.now.store)
    (sym (c.from_vec.ensures ∙ c.in_ok-pairs.ensures))
    (differing_fits c.args.stage.now c.laws_of.ensures.stage c.args.sizes.now c.requires)

pub returns-in-Ok-clause-published : goal.returns-in-Ok-clause-published
returns-in-Ok-clause-published g c =
    let world = c.args.stage.now in
    published_ok world c.publish.new.self c.keep_window.new.self c.args.window c.args.sizes.now c.publish.result
    c.in-Ok.outcome c.laws_of.ensures.stage
    (whole world c.args.sizes.now c.in_ok-pairs.pairs.items c.from_vec.result c.laws_of.ensures.stage
    c.laws_of.ensures.store c.requires c.from_vec.ensures c.in_ok-pairs.ensures
    (λ (r : Result Taken Refusal). IsTaken r world c.publish.new.self c.publish.result) c.publish.ensures.taken)
    c.in-Ok.is c.keep_window.ensures

pub returns-in-Err-clause-published : goal.returns-in-Err-clause-published
returns-in-Err-clause-published g c =
    let world = c.args.stage.now in
    published_err world c.publish.new.self c.args.sizes.now c.publish.result c.in-Err.field-0 c.laws_of.ensures.stage
    (whole world c.args.sizes.now c.in_ok-pairs.pairs.items c.from_vec.result c.laws_of.ensures.stage
    c.laws_of.ensures.store c.requires c.from_vec.ensures c.in_ok-pairs.ensures
    (λ (r : Result Taken Refusal). IsTaken r world c.publish.new.self c.publish.result) c.publish.ensures.taken)
    c.in-Err.is

pub returns-in-Ok-clause-few : goal.returns-in-Ok-clause-few
returns-in-Ok-clause-few g c =
    let world = c.args.stage.now in
    let old = c.args.work.now.evaluated in
    let new = c.publish.new.work.evaluated in
    sized_few world c.laws_of.ensures.stage c.args.sizes.now old new
    (whole world c.args.sizes.now c.in_ok-pairs.pairs.items c.from_vec.result c.laws_of.ensures.stage
    c.laws_of.ensures.store c.requires c.from_vec.ensures c.in_ok-pairs.ensures
    (λ (r : Result Taken Refusal). new ≤ old + cost_of r) c.publish.ensures.few)

pub returns-in-Ok-clause-still : goal.returns-in-Ok-clause-still
returns-in-Ok-clause-still g c = λ old.
    let world = c.args.stage.now in
    still_of world c.keep_window.new.self c.args.window c.args.sizes.now c.laws_of.ensures.stage
    c.laws_of.ensures.store c.requires
    (sym c.in_ok-pairs.ensures
    ∙ nothing_in c.in_ok-pairs.pairs.items (vec_len c.in_ok-pairs.pairs) (omega (arith, c.in_ok-pairs.pairs.ok.0))
    (sym c.is_empty-is_new.ensures ∙ not-false c.is_empty-is_new.result old))
    (published_ok world c.publish.new.self c.keep_window.new.self c.args.window c.args.sizes.now c.publish.result
    c.in-Ok.outcome c.laws_of.ensures.stage
    (whole world c.args.sizes.now c.in_ok-pairs.pairs.items c.from_vec.result c.laws_of.ensures.stage
    c.laws_of.ensures.store c.requires c.from_vec.ensures c.in_ok-pairs.ensures
    (λ (r : Result Taken Refusal). IsTaken r world c.publish.new.self c.publish.result) c.publish.ensures.taken)
    c.in-Ok.is c.keep_window.ensures).0
