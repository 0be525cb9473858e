use Rattle.std.proofs.Common.{length, sym, ◌∙◌}
use Rattle.fx_layout_sweeps.specs.Nodes.{parents}
use Rattle.fx_pulse_touched.proofs.NoneLemmas.{below_none}
use Rattle.fx_pulse_touched.proofs.marks.marked_below.Goals as goal

pub returns-then-not-is_any : goal.returns-then-not-is_any
returns-then-not-is_any c =
    c.in_ok-below.ensures
    ∙ sym (below_none (parents c.args.boxes.now) c.args.marks.now (length c.args.boxes.now)
    (sym c.is_any.ensures ∙ c.if-not-is_any.true))
