use Rattle.std.proofs.Common.{◌≡◌, ◌∙◌, ap, sym, is_some}
use Rattle.std.specs.FinMap.{from_entries}
use Rattle.std.specs.Map.{set_value}
use Rattle.std.proofs.lemmas.Map.Steps.{set_value_same}
use Rattle.std.proofs.lemmas.Result.{on_ok_weaker, on_err_weaker}
use Rattle.fx_base.specs.declared.keys.NodeKey.{NodeKey}
use Rattle.fx_events.specs.Keyed.{key_cmp}
use Rattle.fx_stage_types.specs.declared.node_data.NodeData.{NodeData}
use Rattle.indexmap.specs.IndexMap.{IndexMap}
use Rattle.fx_events.proofs.Maps.{same_key}
use Rattle.fx_stage_types.specs.Edits.{edited}
use Rattle.fx_stage_tables.proofs.TableLemmas.{changed_nowhere, changed_there}
use Rattle.fx_stage_tables.specs.Roomy.{Roomy}
use Rattle.fx_stage_tables.proofs.node_table.NodeTable.edit.Goals as goal

pub returns-in-Some-clause-ok : goal.returns-in-Some-clause-ok
returns-in-Some-clause-ok c =
    let entries = c.self.inside.nodes.entries in
    let made = c.edit.new.self in
    let changed = (c.get_mut.follows.holds made).3 (sym (ap is_some c.in-Some.ensures.value)) in
    on_ok_weaker {P = made ≡ edited c.args.edit c.in-Some.node.now} c.edit.result
    (λ is.
    changed_there entries (c.get_mut.follows.lender made).entries c.args.self.now.map (ap (λ (t : Roomy). t.map) c.self.view_is)
    c.args.key c.in-Some.node.now made (edited c.args.edit) c.in-Some.ensures.value is changed.0)
    c.edit.ensures.ok

pub returns-in-Some-clause-err : goal.returns-in-Some-clause-err
returns-in-Some-clause-err c =
    let entries = c.self.inside.nodes.entries in
    let node = c.in-Some.node.now in
    let made = c.edit.new.self in
    on_err_weaker {P = made ≡ node} c.edit.result
    (λ is.
    ap (from_entries {R = key_cmp})
    ((c.get_mut.follows.holds made).0
    ∙ ap (set_value (same_key c.args.key) entries) is
    ∙ set_value_same (same_key c.args.key) entries node (sym c.in-Some.ensures.value))
    ∙ ap (λ (t : Roomy). t.map) c.self.view_is)
    c.edit.ensures.err

pub returns-clause-ok : goal.returns-clause-ok
returns-clause-ok c =
    ap (λ (m : IndexMap NodeKey NodeData _). from_entries {R = key_cmp} m.entries) c.get_mut.follows.holds-at-none
    ∙ ap (λ (t : Roomy). t.map) c.self.view_is
    ∙ changed_nowhere c.self.inside.nodes.entries c.args.self.now.map (ap (λ (t : Roomy). t.map) c.self.view_is) c.args.key
    (edited c.args.edit) c.in_default.ensures.value
