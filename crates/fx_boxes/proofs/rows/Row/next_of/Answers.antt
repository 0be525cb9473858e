use Rattle.std.proofs.Common.{arith, refl}
use Rattle.fx_boxes.proofs.RowLemmas.{next_span}
use Rattle.fx_boxes.proofs.rows.Row.next_of.Goals as goal

pub returns-clause-next : goal.returns-clause-next
returns-clause-next c = λ child children is_part is_before is_after.
    next_span c.args.self.now _ child c.next-length.result _ refl (omega arith)
    (c.span_at-span.ensures child is_before is_after) (λ parts. rw is_part at (c.next-length.ensures.next parts)) children
