use Rattle.std.proofs.Common.{arith, Bool, List, map, slice_set, subst, ◌≡◌, ◌==◌, ◌&&◌, ◌||◌}
use Rattle.fx_layout_sweeps.specs.Marks.{flag_in, is_set}
use Rattle.fx_layout_sweeps.proofs.Marking.{set_marks}
use Rattle.fx_layout_sweeps.proofs.marks.Marks.mark_if.Goals as goal

pub returns-then-place-len-clause-marks : goal.returns-then-place-len-clause-marks
returns-then-place-len-clause-marks c = λ p few.
    subst (λ (l : List Bool). flag_in (map is_set (slice_set c.self.inside.bytes.items c.args.place 1)) p
    ≡ (flag_in l p || ((c.args.place == p) && c.args.test))) c.self.view_is
    (set_marks c.self.inside.bytes.items c.args.place p c.args.test c.if-test.true
    (omega (arith, c.if-place-len.true, c.len.ensures)))
