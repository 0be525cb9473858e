use Rattle.fx_panes_parts.proofs.TrackLemmas.{next_length}
use Rattle.fx_panes_parts.proofs.tracks.Plan.next.Goals as goal

pub returns-clause-next : goal.returns-clause-next
returns-clause-next c =
    next_length c.args.self.now _ c.args.part _ _ _ _ _ _ _
    (rw c.from.ensures at c.saturating_sub.ensures)
    c.room_in-3.ensures.value c.room_in.ensures.value c.room_in-2.ensures.value
    c.give-less.ensures.next c.give.ensures.next c.give-2.ensures.next
