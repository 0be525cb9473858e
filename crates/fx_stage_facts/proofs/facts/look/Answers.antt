use Rattle.std.proofs.Common.{◌≡◌, ◌≤◌, ◌∙◌, List, ap, arith, subst, sym, take}
use Rattle.fx_base.specs.Names.{numbers}
use Rattle.fx_base.specs.declared.keys.Name.{Name}
use Rattle.fx_base.specs.declared.keys.NodeKey.{NodeKey}
use Rattle.fx_graph_model.specs.Changes.{AreKnown}
use Rattle.fx_graph_model.specs.Unread.{IsClosed, evaluations_of}
use Rattle.fx_store_model.specs.Stored.{Stored}
use Rattle.fx_stage_model.specs.World.{World}
use Rattle.fx_stage_facts.specs.Attached.{attached_keys, look_cost, looked}
use Rattle.fx_stage_facts.specs.Reads.{AreRead}
use Rattle.fx_stage_facts.specs.Unread.{unread_of}
use Rattle.fx_stage_facts.proofs.DraftLemmas.{none_unread_of}
use Rattle.fx_stage_facts.proofs.FactsLemmas.{looked_by, ok_weaker}
use Rattle.fx_stage_facts.proofs.ReadLemmas.{all_read, unread_cost, unread_known, unread_reads}
use Rattle.fx_stage_facts.proofs.facts.look.Goals as goal

pub unread_names-requires-clause-read : goal.unread_names-requires-clause-read
unread_names-requires-clause-read g c =
    (λ i. unread_of (c.store-2.ensures i).unread (c.graph.ensures i).table (take c.args.from c.args.keys.now))
    ∙ none_unread_of c.args.stage.now (take c.args.from c.args.keys.now) c.requires.read

pub read_all-requires : goal.read_all-requires
read_all-requires g c =
    let w = c.args.stage.now in
    let are : numbers c.in_ok-names.names.items ≡ unread_of w.store.unread w.graph.table c.args.keys.now =
    c.in_ok-names.ensures ∙ (λ i. unread_of (c.store-2.ensures i).unread (c.graph.ensures i).table c.args.keys.now) in
    subst (λ (names : List Name). AreKnown w.store.entries names) (sym c.as_slice.ensures.value)
    (unread_known w.store.entries w.graph.table w.names.free c.laws.ensures w.store.unread c.args.keys.now c.in_ok-names.names.items are)

pub returns-clause-ok : goal.returns-clause-ok
returns-clause-ok g c =
    let w = c.args.stage.now in
    let names = numbers c.as_slice.result.now in
    let are : names ≡ unread_of w.store.unread w.graph.table (attached_keys w) =
    ap numbers c.as_slice.ensures.value
    ∙ c.in_ok-names.ensures
    ∙ (λ i. unread_of (c.store-2.ensures i).unread (c.graph.ensures i).table (c.requires.keys i)) in
    let closed = subst (λ (s : Stored). IsClosed s.entries s.unread) c.store.ensures c.laws-2.ensures.closed in
    ok_weaker c.read_all.result
    (looked_by w c.read_all.new.self names (unread_reads w.store.entries w.graph.table w.store.unread closed (attached_keys w) names are))
    c.read_all.ensures.ok

pub returns-clause-read : goal.returns-clause-read
returns-clause-read g c =
    let w = c.args.stage.now in
    let names = numbers c.as_slice.result.now in
    let are : names ≡ unread_of w.store.unread w.graph.table (attached_keys w) =
    ap numbers c.as_slice.ensures.value
    ∙ c.in_ok-names.ensures
    ∙ (λ i. unread_of (c.store-2.ensures i).unread (c.graph.ensures i).table (c.requires.keys i)) in
    let closed = subst (λ (s : Stored). IsClosed s.entries s.unread) c.store.ensures c.laws-2.ensures.closed in
    let reads = unread_reads w.store.entries w.graph.table w.store.unread closed (attached_keys w) names are in
    ok_weaker c.read_all.result
    (λ now.
    subst (λ (x : World). AreRead x c.args.keys.now) (sym (looked_by w c.read_all.new.self names reads now))
    (subst (λ (ks : List NodeKey). AreRead (looked w) ks) (sym c.requires.keys) (all_read w c.laws.ensures)))
    c.read_all.ensures.ok

pub returns-clause-cost : goal.returns-clause-cost
returns-clause-cost g c =
    let w = c.args.stage.now in
    let names = numbers c.as_slice.result.now in
    let are : names ≡ unread_of w.store.unread w.graph.table (attached_keys w) =
    ap numbers c.as_slice.ensures.value
    ∙ c.in_ok-names.ensures
    ∙ (λ i. unread_of (c.store-2.ensures i).unread (c.graph.ensures i).table (c.requires.keys i)) in
    let few : evaluations_of w.store.entries names w.store.unread ≤ look_cost w =
    unread_cost w.store.entries w.graph.table w.store.unread (attached_keys w) names are in
    omega (arith, few, c.read_all.ensures.cost)
