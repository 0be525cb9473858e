use Rattle.std.proofs.Common.{Some, None, cond, Bool, sym, ◌∙◌, ap}
use Rattle.std.proofs.lemmas.Bool.{eq-eqb, ne_eqb}
use Rattle.fx_tree.specs.Slots.{node_at, of_birth}
use Rattle.fx_tree.proofs.nodes.find_node.Goals as goal

pub returns-in-None : goal.returns-in-None
unfolding node_at
returns-in-None c = ap (of_birth c.args.key.birth) c.in-None.ensures

pub returns-then-stored-key : goal.returns-then-stored-key
unfolding node_at
returns-then-stored-key c =
    sym (ap (λ (b : Bool). cond b (Some c.in-Some.stored.now) None) (eq-eqb _ _ c.if-stored-key.true))
    ∙ ap (of_birth c.args.key.birth) c.in-Some.ensures

pub returns-else-stored-key : goal.returns-else-stored-key
unfolding node_at
returns-else-stored-key c =
    sym (ap (λ (b : Bool). cond b (Some c.in-Some.stored.now) None) (ne_eqb _ _ c.if-stored-key.false))
    ∙ ap (of_birth c.args.key.birth) c.in-Some.ensures
