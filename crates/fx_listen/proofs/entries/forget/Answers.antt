use Rattle.std.proofs.Common.{◌∙◌}
use Rattle.fx_listen.proofs.Changes.{none_between}
use Rattle.fx_listen.proofs.entries.forget.Goals as goal

pub returns-else-first-next : goal.returns-else-first-next
returns-else-first-next c =
    let places = c.places_on-first.ensures in
    none_between c.args.listeners.now.items _ _ places.order c.if-first-next.false ∙ (rw c.as_slice.ensures.value at places.others)
