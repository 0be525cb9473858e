use Rattle.std.proofs.lemmas.Result.{IfOk-weaker}
use Rattle.fx_layout_sweeps.specs.Nodes.{box_at, places_at, seen}
use Rattle.fx_layout_sweeps.proofs.RowHalves.{row_placed}
use Rattle.fx_layout_sweeps.proofs.placing.spans_in_row.Goals as goal

pub returns-clause-spans : goal.returns-clause-spans
returns-clause-spans g c =
    let sweep = c.args.sweep in
    let node = box_at sweep.nodes.now sweep.looks.now c.args.at in
    IfOk-weaker c.row_spans.result _ _
    (λ spans same. row_placed node.rule sweep.axis c.args.side c.requires.side node.facts
    (seen node.rule sweep.nodes.now sweep.widths.now sweep.heights.now (places_at sweep.children.now c.args.at)) c.args.room spans.items same)
    c.row_spans.ensures
