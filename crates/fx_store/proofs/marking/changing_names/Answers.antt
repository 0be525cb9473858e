use Rattle.std.proofs.Common.{◌≡◌, false}
use Rattle.fx_base.specs.declared.keys.Name.{Name}
use Rattle.fx_base.specs.declared.values.Value.{Value}
use Rattle.fx_graph_model.specs.Uses.{bound_in}
use Rattle.fx_store.proofs.Looked.{changed_turn, word_at}
use Rattle.fx_store.proofs.marking.changing_names.Goals as goal

pub push_changing-requires : goal.push_changing-requires
push_changing-requires c =
    word_at (λ (p : Name × Value). bound_in c.args.graph.now.entries p.0.0 ≡ false) c.args.pairs.now c.loop-pair.pair-index
    c.pair-item.result c.loop-pair-test.true c.pair-item.is c.requires

pub loop-pair-preserved : goal.loop-pair-preserved
loop-pair-preserved c =
    changed_turn c.args.pairs.now c.loop-pair.pair-index c.pair-item.result c.loop-pair-test.true c.pair-item.is c.args.graph.now.entries
    _ _ c.loop-pair.invariant c.in_ok-push_changing.ensures
