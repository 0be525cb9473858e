use Rattle.std.proofs.Common.{◌∙◌, sym}
use Rattle.fx_listen.specs.Listening.{is_equal}
use Rattle.fx_listen.proofs.Changes.{without_first-at, without_first-none}
use Rattle.fx_listen.proofs.entries.remove_first.Goals as goal

pub returns-in-None-clause-removed : goal.returns-in-None-clause-removed
returns-in-None-clause-removed c =
    let a = c.args in
    sym (without_first-none (is_equal a.name.0 a.kind a.owner a.tag) _ (rw c.as_slice.ensures.value at c.in-None.ensures.none))

pub returns-in-Some-clause-removed : goal.returns-in-Some-clause-removed
returns-in-Some-clause-removed c =
    let a = c.args in
    c.remove.ensures.items
    ∙ sym (without_first-at (is_equal a.name.0 a.kind a.owner a.tag) _ _ (rw c.as_slice.ensures.value at c.in-Some.ensures.first))
