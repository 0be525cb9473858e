use Rattle.std.proofs.Common.{◌≡◌, ◌<◌, ℕ, length}
use Rattle.fx_layout_sweeps.specs.Marks.{flag_in}
use Rattle.fx_layout_sweeps.specs.Nodes.{span_at}
use Rattle.fx_layout_sweeps.specs.Sweeps.{is_worked}
use Rattle.fx_layout_sweeps.proofs.Spreads.{IsPutTo}
use Rattle.fx_layout_sweeps.proofs.placing.move_children.Given as goal

abbrev pub invariant-loop-k : goal.invariant-loop-k
invariant-loop-k l =
    IsPutTo l.places l.found l.fn.spans.items l.spans.items l.k
    × (length l.marks ≡ length l.fn.marks)
    × ((q : ℕ) → q < length l.fn.marks → flag_in l.marks q
    ≡ is_worked (flag_in l.fn.marks) (span_at l.fn.spans.items) l.spans.items q)
