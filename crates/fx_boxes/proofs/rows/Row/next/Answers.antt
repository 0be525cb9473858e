use Rattle.std.proofs.Common.{refl}
use Rattle.fx_boxes.proofs.rows.Row.next.Goals as goal

pub returns-clause-next : goal.returns-clause-next
returns-clause-next c = λ children. c.next_of.ensures.next c.args.child.now children c.part_of.ensures refl refl
