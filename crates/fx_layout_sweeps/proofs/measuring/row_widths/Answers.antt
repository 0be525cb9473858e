use Rattle.std.proofs.Common.{[]}
use Rattle.fx_panes_parts.specs.declared.axes.Axis.TheVariants.{Across}
use Rattle.fx_layout_sweeps.specs.Nodes.{box_at, places_at, seen}
use Rattle.fx_layout_sweeps.proofs.RowHalves.{row_measured}
use Rattle.fx_layout_sweeps.proofs.measuring.row_widths.Goals as goal

pub returns-clause-lengths : goal.returns-clause-lengths
returns-clause-lengths g c =
    let sweep = c.args.sweep in
    let node = box_at sweep.nodes.now sweep.looks.now c.args.place in
    row_measured node.rule Across c.args.side c.requires.side node.facts
    (seen node.rule sweep.nodes.now c.args.widths.now [] (places_at sweep.children.now c.args.place)) 0 c.row_lengths.result
    c.row_lengths.ensures
