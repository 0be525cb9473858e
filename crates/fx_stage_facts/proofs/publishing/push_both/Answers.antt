use Rattle.std.proofs.Common.{◌≡◌, List, OnOk, subst, w64}
use Rattle.std.specs.Prelude.{codes}
use Rattle.std.proofs.lemmas.Int.{to_z-of_z}
use Rattle.fx_base.specs.declared.keys.Name.{Name}
use Rattle.fx_base.specs.declared.values.Value.{Value}
use Rattle.fx_stage_facts.specs.Publishing.{pair_of}
use Rattle.fx_stage_facts.proofs.PublishLemmas.{two_pushed}
use Rattle.fx_stage_facts.proofs.publishing.push_both.Goals as goal

pub returns : goal.returns
returns c =
    let store = c.args.store.now in
    let node = c.args.node.now in
    subst (λ (pairs : List (Name × Value)). OnOk c.push_pair-2.result (c.push_pair-2.new.pairs.items ≡ pairs))
    (two_pushed store c.args.pairs.now.items c.push_pair.new.pairs.items
    (pair_of store.entries node (codes "width") c.args.width)
    (pair_of store.entries node (codes "height") c.args.height)
    (rw (to_z-of_z w64 c.args.width c.ranges.width) at c.in_ok-push_pair.ensures))
    (rw (to_z-of_z w64 c.args.height c.ranges.height) at c.push_pair-2.ensures)
