use Rattle.std.proofs.Common.{List, Some, sym, ◌∙◌, ap}
use Rattle.std.specs.Option.{option_map}
use Rattle.fx_base.specs.declared.keys.NodeKey.{NodeKey}
use Rattle.fx_tree.specs.declared.nodes.Stored.{Stored}
use Rattle.fx_tree.proofs.Changes.{children-node}
use Rattle.fx_tree.proofs.Tree.children.Goals as goal

pub returns-in-None : goal.returns-in-None
returns-in-None c =
    rw (← c.self.view_is)
    (ap (option_map (λ (stored : Stored). stored.children)) c.in-None.ensures ∙ sym (children-node _ _ _ c.self.invariant c.args.key))

pub returns-in-Some : goal.returns-in-Some
returns-in-Some c =
    rw (← c.self.view_is)
    (ap (λ (l : List NodeKey). Some l) c.as_slice.ensures
    ∙ ap (option_map (λ (stored : Stored). stored.children)) c.in-Some.ensures ∙ sym (children-node _ _ _ c.self.invariant c.args.key))
