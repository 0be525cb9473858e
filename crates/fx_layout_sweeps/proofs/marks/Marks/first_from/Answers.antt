use Rattle.std.proofs.Common.{Bool, List, None, Some, subst, sym, arith, ◌+◌, ◌∙◌}
use Rattle.fx_layout_sweeps.specs.Marks.{IsFirstMark}
use Rattle.fx_layout_sweeps.proofs.Marking.{first_found, first_missed, found_here}
use Rattle.fx_layout_sweeps.proofs.marks.Marks.first_from.Goals as goal

pub returns-then-is_marked : goal.returns-then-is_marked
returns-then-is_marked c = found_here c.args.self.now c.args.from (sym c.is_marked.ensures ∙ c.if-is_marked.true)

pub returns-in-Some : goal.returns-in-Some
returns-in-Some c =
    subst (λ (l : List Bool). IsFirstMark l c.args.from (Some (c.args.from + c.in-Some.behind))) c.self.view_is
    (first_found c.self.inside.bytes.items c.args.from c.in-Some.behind (omega arith)
    (rw (c.later_bytes.ensures, c.as_slice.ensures.value) at c.in-Some.ensures))

pub returns-in-None : goal.returns-in-None
returns-in-None c =
    subst (λ (l : List Bool). IsFirstMark l c.args.from None) c.self.view_is
    (first_missed c.self.inside.bytes.items c.args.from (omega arith) (rw (c.later_bytes.ensures, c.as_slice.ensures.value) at c.in-None.ensures))
