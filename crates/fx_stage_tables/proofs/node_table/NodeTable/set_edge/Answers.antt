use Rattle.std.proofs.Common.{◌∙◌, ap, sym, is_some}
use Rattle.std.specs.FinMap.{from_entries}
use Rattle.fx_base.specs.declared.keys.NodeKey.{NodeKey}
use Rattle.fx_events.specs.Keyed.{key_cmp}
use Rattle.fx_stage_types.specs.declared.node_data.NodeData.{NodeData}
use Rattle.fx_stage_types.specs.Edits.{with_edge}
use Rattle.indexmap.specs.IndexMap.{IndexMap}
use Rattle.fx_stage_tables.proofs.TableLemmas.{changed_nowhere, changed_there}
use Rattle.fx_stage_tables.specs.Roomy.{Roomy}
use Rattle.fx_stage_tables.proofs.node_table.NodeTable.set_edge.Goals as goal

pub returns-in-Some : goal.returns-in-Some
returns-in-Some c =
    let entries = c.self.inside.nodes.entries in
    let made = c.set_edge.new.self in
    let changed = (c.get_mut.follows.holds made).3 (sym (ap is_some c.in-Some.ensures.value)) in
    changed_there entries (c.get_mut.follows.lender made).entries c.args.self.now.map (ap (λ (t : Roomy). t.map) c.self.view_is)
    c.args.key c.in-Some.node.now made (with_edge c.args.edge) c.in-Some.ensures.value c.set_edge.ensures changed.0

pub returns : goal.returns
returns c =
    ap (λ (m : IndexMap NodeKey NodeData _). from_entries {R = key_cmp} m.entries) c.get_mut.follows.holds-at-none
    ∙ ap (λ (t : Roomy). t.map) c.self.view_is
    ∙ changed_nowhere c.self.inside.nodes.entries c.args.self.now.map (ap (λ (t : Roomy). t.map) c.self.view_is) c.args.key
    (with_edge c.args.edge) c.in_default.ensures.value
