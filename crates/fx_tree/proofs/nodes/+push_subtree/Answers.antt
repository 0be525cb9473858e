use Rattle.std.proofs.Common.{◌≡◌, ◌-◌, ◌++◌, ◌∷◌, [], List, refl, sym, ◌∙◌, ap, append_assoc}
use Rattle.std.specs.List.{flat_map}
use Rattle.std.proofs.lemmas.List.{append-nil, take_all}
use Rattle.fx_base.specs.declared.keys.NodeKey.{NodeKey}
use Rattle.fx_tree.specs.Scene.{subtree_in}
use Rattle.fx_tree.specs.Slots.{below_at}
use Rattle.fx_tree.proofs.Lines.{subtree_in-zero, subtree_in-more}
use Rattle.fx_tree.proofs.nodes.+push_subtree.Goals as goal

pub returns-then-levels-eq0 : goal.returns-then-levels-eq0
returns-then-levels-eq0 t c =
    sym
    (ap (λ (l : List NodeKey). c.args.keys.now.items ++ l) (subtree_in-zero c.args.levels (below_at c.args.nodes.now.slots) c.args.key c.if-levels-eq0.true)
    ∙ append-nil c.args.keys.now.items)

pub returns : goal.returns
returns t c =
    let below = below_at c.args.nodes.now.slots in
    let walk = subtree_in (c.args.levels - 1) below in
    let keys = c.args.keys.now.items in
    let joined : (keys ++ c.args.key ∷ []) ++ flat_map walk (below c.args.key) ≡ keys ++ c.args.key ∷ flat_map walk (below c.args.key) = rw append_assoc refl in
    c.loop-child.invariant
    ∙ ap (λ (l : List NodeKey). c.push.new.self.items ++ flat_map walk l)
    (take_all c.loop-child.child-index c.children_in-child-items.result.now c.loop-child-test.false ∙ c.children_in-child-items.ensures)
    ∙ ap (λ (l : List NodeKey). l ++ flat_map walk (below c.args.key)) c.in_ok-push.ensures.items
    ∙ joined
    ∙ sym (ap (λ (l : List NodeKey). keys ++ l) (subtree_in-more c.args.levels below c.args.key c.if-levels-eq0.false))
