use Rattle.std.proofs.Common.{ap, refl, sym, ◌∙◌}
use Rattle.fx_layout_sweeps.specs.Nodes.{children_lists}
use Rattle.fx_layout.specs.Updates.{Kept}
use Rattle.fx_layout.proofs.layouts.Layouts.update_telling.Goals as goal

pub update_again-requires-clause-same_keys : goal.update_again-requires-clause-same_keys
update_again-requires-clause-same_keys g c =
    let named = rw (c.as_slice.ensures.value) at c.if-is_over.ensures.keys refl in
    sym (ap (λ (k : Kept). k.keys) c.self.view_is) ∙ named

pub update_again-requires-clause-same_children : goal.update_again-requires-clause-same_children
update_again-requires-clause-same_children g c =
    sym (ap (λ (k : Kept). k.children) c.self.view_is) ∙ ap children_lists (c.if-is_over.ensures.tree refl)
