use Rattle.std.proofs.Common.{◌∙◌}
use Rattle.std.proofs.lemmas.List.{with_items_is}
use Rattle.fx_graph.proofs.LookLemmas.{looked_back}
use Rattle.fx_graph.proofs.looking.look_at_unread.Goals as goal

pub returns-clause-holds : goal.returns-clause-holds
returns-clause-holds g c =
    let l = c.args.lists.now in
    let r = c.read_each-values.new.lists in
    let kept = rw c.new-before.ensures.items at c.in_ok-extend_from_slice.ensures.items in
    let same = with_items_is r.unread c.copy_from_slice.new.self (c.copy_from_slice.ensures.len ∙ c.as_mut_slice.ensures.len)
    ∙ c.copy_from_slice.ensures.after ∙ c.as_slice-2.ensures.value ∙ kept ∙ c.as_slice.ensures.value in
    looked_back l r _ c.requires.holds c.read_each-values.ensures.holds c.read_each-values.ensures.part same
