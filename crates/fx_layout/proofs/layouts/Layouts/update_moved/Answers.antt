use Rattle.std.proofs.Common.{sym, ap, ◌∙◌}
use Rattle.fx_layout.specs.Updates.{Kept, laid_count}
use Rattle.fx_layout.proofs.Over.{over_same}
use Rattle.fx_layout.proofs.layouts.Layouts.update_moved.Goals as goal

pub laid_moved-requires-clause-tree : goal.laid_moved-requires-clause-tree
laid_moved-requires-clause-tree g c = c.tree_in.ensures ∙ c.in_ok-fresh.ensures

pub over-requires : goal.over-requires
over-requires g c =
    let same = over_same c.in_ok-fresh.fresh c.tree.inside.tree c.self.inside.tree
    (ap (λ (k : Kept). k.children) (c.tree.view_is ∙ (c.replace.ensures.value ∙ sym c.self.view_is))) in
    rw (c.unwrap_or.ensures, same, c.in_ok-fresh.ensures, c.in_ok-keys.ensures) c.in_ok-told.ensures.whole

pub returns-clause-update : goal.returns-clause-update
returns-clause-update g c =
    let same = over_same c.in_ok-fresh.fresh c.tree.inside.tree c.self.inside.tree
    (ap (λ (k : Kept). k.children) (c.tree.view_is ∙ (c.replace.ensures.value ∙ sym c.self.view_is))) in
    rw (c.drop-2.view_is, c.over.ensures, c.unwrap_or.ensures, same, c.in_ok-fresh.ensures, c.in_ok-keys.ensures)
    c.in_ok-told.ensures.update

pub returns-clause-changed : goal.returns-clause-changed
returns-clause-changed g c =
    let same = over_same c.in_ok-fresh.fresh c.tree.inside.tree c.self.inside.tree
    (ap (λ (k : Kept). k.children) (c.tree.view_is ∙ (c.replace.ensures.value ∙ sym c.self.view_is))) in
    rw (c.drop-2.view_is, c.over.ensures, c.unwrap_or.ensures, same, c.in_ok-fresh.ensures, c.in_ok-keys.ensures)
    c.in_ok-told.ensures.changed

pub returns-clause-laid : goal.returns-clause-laid
returns-clause-laid g c =
    c.in_ok-told.ensures.laid
    ∙ ap (λ (k : Kept). laid_count c.args.self.now c.args.input.nodes.now c.args.input.remeasure.now k)
    (sym (c.drop-2.view_is ∙ c.over.ensures))
