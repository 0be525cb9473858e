use Rattle.fx_panes_parts.specs.declared.axes.Axis.TheVariants.{Down}
use Rattle.fx_layout_sweeps.specs.Nodes.{box_at, places_at, seen, span_at}
use Rattle.fx_layout_sweeps.proofs.RowHalves.{row_measured}
use Rattle.fx_layout_sweeps.proofs.measuring.row_heights.Goals as goal

pub returns-clause-lengths : goal.returns-clause-lengths
returns-clause-lengths g c =
    let sweep = c.args.sweep in
    let node = box_at sweep.nodes.now sweep.looks.now c.args.place in
    row_measured node.rule Down c.args.side c.requires.side node.facts
    (seen node.rule sweep.nodes.now sweep.widths.now c.args.heights.now (places_at sweep.children.now c.args.place))
    (span_at sweep.spans.now c.args.place).length c.row_lengths.result
    c.row_lengths.ensures
