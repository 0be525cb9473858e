use Rattle.std.proofs.Common.{◌≡◌, [], Contains, Option, Some, subst, sym}
use Rattle.fx_store_model.specs.Stored.{Stored}
use Rattle.fx_stage_types.specs.declared.node_data.NodeData.{NodeData}
use Rattle.fx_stage_facts.specs.Attached.{displayed_in}
use Rattle.fx_stage_facts.specs.Unread.{unread_in}
use Rattle.fx_stage_facts.proofs.AroundLemmas.{none_of_all}
use Rattle.fx_stage_facts.proofs.ReadLemmas.{known_at}
use Rattle.fx_stage_facts.proofs.drafts.is_ready.Goals as goal

pub is_read-requires-clause-low : goal.is_read-requires-clause-low
is_read-requires-clause-low c = c.laws.ensures.low c.args.key c.args.node.now c.requires.here

pub returns-then-sure-clause-read : goal.returns-then-sure-clause-read
returns-then-sure-clause-read c = λ told. c.requires.sure c.if-sure.true c.args.node.now c.requires.here

pub returns-clause-read : goal.returns-clause-read
returns-clause-read c =
    let world = c.args.stage.now in
    let node = c.args.node.now in
    λ told.
    let none =
    subst (λ (s : Stored). unread_in s.unread (Some node) ≡ []) c.store.ensures (c.is_read.ensures told) in
    record {
      low = c.laws.ensures.low c.args.key node c.requires.here;
      known = λ n there.
          known_at world.store.entries world.graph.table world.names.free c.laws.ensures c.args.key n
          (subst (λ (o : Option NodeData). Contains (displayed_in o) n) (sym c.requires.here) there);
      read = λ n there. none_of_all world.store.unread (displayed_in (Some node)) n none there;
    }
