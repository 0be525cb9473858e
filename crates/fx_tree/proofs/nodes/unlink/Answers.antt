use Rattle.std.proofs.Common.{◌≡◌, ◌==◌, ◌∙◌, Bool, true, false, cond, List, Option, Some, None, is_some, slice_index_or, refl, sym, ap}
use Rattle.std.specs.Option.{IfSome}
use Rattle.std.proofs.lemmas.Bool.{false≢true}
use Rattle.fx_base.specs.declared.keys.NodeKey.{NodeKey}
use Rattle.fx_tree.specs.declared.nodes.Stored.{Stored}
use Rattle.fx_tree.specs.Scene.{is_once}
use Rattle.fx_tree.specs.Slots.{alive_at, below_at, children_in, node_at, of_birth, up_at}
use Rattle.fx_tree.proofs.Listing.{alive_up, alive_below}
use Rattle.fx_tree.proofs.Edits.{IsUnlinked-made, IsUnlinked-topmost}
use Rattle.fx_tree.proofs.nodes.unlink.Goals as goal

pub returns-in-None-clause-unlinked : goal.returns-in-None-clause-unlinked
returns-in-None-clause-unlinked c = IsUnlinked-topmost _ c.args.child c.requires (sym c.in-None.ensures)

pub returns-clause-unlinked : goal.returns-clause-unlinked
returns-clause-unlinked c =
    let is : up_at c.args.nodes.now.slots c.args.child ≡ Some c.in-Some.parent = sym c.in-Some.ensures in
    IsUnlinked-made _ c.remove_child.new.nodes.slots _ c.in-Some.parent c.args.child c.requires is
    (alive_below _ c.args.child c.in-Some.parent (c.requires.up c.args.child c.in-Some.parent is))
    (alive_up _ c.args.child c.in-Some.parent is)
    c.remove_child.ensures.changed c.remove_child.ensures.others c.set_parent.ensures.changed c.set_parent.ensures.others

once_kept : (slots : List (Option Stored)) (key : NodeKey) → alive_at slots key ≡ true → is_once (below_at slots key) ≡ true
    → (o : Option Stored) → slice_index_or slots key.slot None ≡ o → IfSome o (λ stored. is_once stored.children ≡ true)
unfolding alive_at below_at node_at
once_kept slots key alive once None is = tt
once_kept slots key alive once (Some stored) is =
    by_birth (stored.birth == key.birth)
    (sym (ap (λ (f : Option Stored). is_some (of_birth key.birth f)) is) ∙ alive)
    (sym (ap (λ (f : Option Stored). is_once (children_in (of_birth key.birth f))) is) ∙ once)
  where
    by_birth : (b : Bool) → is_some (cond b (Some stored) None) ≡ true → is_once (children_in (cond b (Some stored) None)) ≡ true
        → is_once stored.children ≡ true
    by_birth true lives single = single
    by_birth false lives single = absurd (false≢true lives)

pub remove_child-requires : goal.remove_child-requires
remove_child-requires c =
    let slots = c.args.nodes.now.slots in
    let parent = c.in-Some.parent in
    let is : up_at slots c.args.child ≡ Some parent = sym c.in-Some.ensures in
    once_kept slots parent (alive_below slots c.args.child parent (c.requires.up c.args.child parent is)) (c.requires.once parent)
    (slice_index_or slots parent.slot None) refl
