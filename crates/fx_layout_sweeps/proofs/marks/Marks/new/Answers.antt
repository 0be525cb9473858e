use Rattle.fx_layout_sweeps.proofs.Marking.{none_marked}
use Rattle.fx_layout_sweeps.proofs.marks.Marks.new.Goals as goal

pub returns-clause-none : goal.returns-clause-none
returns-clause-none c = λ p. rw (c.in_ok-resize.ensures.items, c.new-bytes.ensures.items) (none_marked c.args.count _ p)
