use Rattle.std.proofs.Common.{Bool, List, subst}
use Rattle.fx_layout_sweeps.specs.Marks.{IsLastMark}
use Rattle.fx_layout_sweeps.proofs.Marking.{found_before, last_found}
use Rattle.fx_layout_sweeps.proofs.marks.Marks.last_before.Goals as goal

pub returns-then-is_marked_before : goal.returns-then-is_marked_before
returns-then-is_marked_before c =
    found_before c.args.self.now c.args.to (c.is_marked_before.ensures.some c.if-is_marked_before.true)
    (c.is_marked_before.ensures.marked c.if-is_marked_before.true)

pub returns : goal.returns
returns c =
    subst (λ (l : List Bool). IsLastMark l c.args.to c.memrchr.result) c.self.view_is
    (last_found c.self.inside.bytes.items c.args.to c.memrchr.result
    (rw (c.first_bytes.ensures, c.as_slice.ensures.value) at c.memrchr.ensures))
