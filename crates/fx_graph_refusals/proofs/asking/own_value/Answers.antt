use Rattle.std.proofs.Common.{sym}
use Rattle.fx_graph_model.proofs.Changed.{known_within}
use Rattle.fx_graph_model.proofs.Kept.{eager-own}
use Rattle.fx_graph_refusals.proofs.asking.own_value.Goals as goal

pub returns : goal.returns
returns c =
    sym (eager-own c.args.entries.now c.args.name.0 _ (known_within c.args.entries.now c.args.name.0 c.requires.known) (c.in_ok-value.ensures c.requires.free c.requires.known))

pub own_at-requires : goal.own_at-requires
own_at-requires c = known_within c.args.entries.now c.args.name.0 c.requires.known
