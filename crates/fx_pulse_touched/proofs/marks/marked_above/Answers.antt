use Rattle.std.proofs.Common.{arith, subst, sym, ◌-◌, ◌≡◌, suc}
use Rattle.fx_layout_sweeps.specs.Nodes.{parents}
use Rattle.fx_pulse_touched.specs.Marks.{AreHandedUp}
use Rattle.fx_pulse_touched.proofs.UpLemmas.{up_first, up_next}
use Rattle.fx_pulse_touched.proofs.marks.marked_above.Goals as goal

pub loop-place-init : goal.loop-place-init
loop-place-init c = (omega arith, up_first c.args.boxes.now c.args.marks.items c.requires.tree c.requires.each)

pub loop-place-preserved : goal.loop-place-preserved
loop-place-preserved c =
    let boxes = c.args.boxes.now in
    let n = c.loop-place.place in
    let next : suc (n - 1) ≡ n = omega (arith, c.loop-place-test.true) in (
      omega (arith, c.loop-place.invariant.0),
      subst (λ l. AreHandedUp (parents boxes) c.args.marks.items l (n - 1)) (sym c.mark_parent.ensures)
          (up_next boxes c.args.marks.items c.loop-place.above.items (n - 1) c.requires.tree
          (omega (arith, next, c.loop-place.invariant.0))
          (subst (λ k. AreHandedUp (parents boxes) c.args.marks.items c.loop-place.above.items k) (sym next)
          c.loop-place.invariant.1)),
    )
