use Rattle.std.proofs.Common.{◌≡◌, ◌<◌, ◌∙◌, None, Some, length, sym, arith}
use Rattle.fx_layout_sweeps.specs.Nodes.{node_at, parents}
use Rattle.fx_pulse_touched.proofs.ToldLemmas.{long, read}
use Rattle.fx_pulse.proofs.OrderLemmas.{line_end, line_parent, line_root}
use Rattle.fx_pulse.proofs.PathLemmas.{parent_before}
use Rattle.fx_pulse.proofs.checking.is_on_line.Goals as goal

pub returns-in-None : goal.returns-in-None
returns-in-None c =
    let boxes = c.args.boxes.now in
    let at = c.loop-at.at in
    let up : (node_at boxes at).parent ≡ None = sym c.in-None.ensures in
    sym (line_root (parents boxes) at c.args.other (read boxes at c.loop-at.invariant.0 ∙ up) c.loop-at-test.true)
    ∙ c.loop-at.invariant.1

pub loop-at-smaller : goal.loop-at-smaller
loop-at-smaller c =
    parent_before c.args.boxes.now c.loop-at.at c.in-Some.parent c.requires.tree c.loop-at.invariant.0
    (sym c.in-Some.ensures)

pub loop-at-preserved : goal.loop-at-preserved
loop-at-preserved c =
    let boxes = c.args.boxes.now in
    let at = c.loop-at.at in
    let up : (node_at boxes at).parent ≡ Some c.in-Some.parent = sym c.in-Some.ensures in
    let within : at < length boxes = c.loop-at.invariant.0 in
    let less = parent_before boxes at c.in-Some.parent c.requires.tree within up in (
      omega (arith, less, within),
      line_parent (parents boxes) at c.in-Some.parent c.args.other c.requires.tree (omega (arith, within, long boxes))
          (read boxes at within ∙ up) c.loop-at-test.true
          ∙ c.loop-at.invariant.1,
    )

pub returns : goal.returns
returns c =
    let boxes = c.args.boxes.now in
    line_end (parents boxes) c.loop-at.at c.args.other c.requires.tree
    (omega (arith, c.loop-at.invariant.0, long boxes)) (omega (arith, c.loop-at-test.false))
    ∙ c.loop-at.invariant.1
