use Rattle.std.proofs.Common.{◌≡◌, ◌∙◌, ap, subst, sym}
use Rattle.fx_base.specs.declared.values.Value.{Value}
use Rattle.fx_graph_model.specs.Changes.{State}
use Rattle.fx_graph_model.specs.Eager.{eager}
use Rattle.fx_graph_model.specs.Equality.{same_value}
use Rattle.fx_graph_model.proofs.Values.{eager-unfold}
use Rattle.fx_graph.proofs.Graph.has_value.Goals as goal

pub returns : goal.returns
returns c =
    let es = c.self.inside.lists.entries.items in
    let ranks = c.self.invariant.ranks in
    subst (λ (s : State). c.has_value.result ≡ same_value (eager s.entries c.args.name.0) c.args.value.now)
    c.self.view_is
    (rw c.as_slice.ensures.value at c.has_value.ensures (eager es)
    ∙ ap (λ (v : Value). same_value v c.args.value.now) (sym (eager-unfold es ranks.0 ranks.1 c.args.name.0)))
