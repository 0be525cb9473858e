use Rattle.std.proofs.Common.{◌≡◌, ◌++◌, List, ℕ, drop}
use Rattle.fx_panes_parts.specs.Axes.{along}
use Rattle.fx_boxes.specs.Rows.{parts_of}
use Rattle.fx_layout_sweeps.specs.Nodes.{seen}
use Rattle.fx_layout_sweeps.proofs.rows.parts_at.Given as goal

abbrev pub invariant-loop-place : goal.invariant-loop-place
invariant-loop-place l =
    let row = λ (places : List ℕ). along l.scene.axis
    (seen l.rule l.scene.nodes.now l.scene.widths.now l.scene.heights.now places) in
    l.parts.items ++ parts_of (row (drop l.place-index l.places)) ≡ parts_of (row l.places)
