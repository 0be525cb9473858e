use Rattle.std.proofs.Common.{ap}
use Rattle.fx_graph_model.specs.Changes.{State}
use Rattle.fx_graph.proofs.Graph.forget.Goals as goal

pub forget_names-requires-clause-free : goal.forget_names-requires-clause-free
forget_names-requires-clause-free c =
    rw (ap (λ (s : State). s.entries) c.refusal.ensures.same) c.in_default.ensures.refusal.1

pub returns-clause-answer : goal.returns-clause-answer
returns-clause-answer c = rw (← c.self.view_is) c.in_default.ensures.refusal
