use Rattle.std.proofs.Common.{ap, ◌∙◌}
use Rattle.std.proofs.lemmas.List.{get_or_default}
use Rattle.fx_graph_model.specs.Users.{Row, no_row}
use Rattle.fx_graph_model.proofs.Edges.{users-set_same}
use Rattle.fx_graph_edges.proofs.LinkLemmas.{row_written}
use Rattle.fx_graph_edges.proofs.linking.reserve_row.Goals as goal

pub returns-clause-set : goal.returns-clause-set
returns-clause-set c = row_written c.args.users.now c.args.place _ c.requires

pub returns-clause-items : goal.returns-clause-items
returns-clause-items c =
    users-set_same c.args.users.now c.args.place _ c.requires ∙ c.reserve.ensures.items
    ∙ ap (λ (r : Row). r.items) (get_or_default c.args.users.now c.args.place _ no_row c.requires)
