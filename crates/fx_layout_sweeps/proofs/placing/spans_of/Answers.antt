use Rattle.std.proofs.Common.{sym, ◌∙◌}
use Rattle.fx_layout_sweeps.specs.Nodes.{box_at, places_at, seen}
use Rattle.fx_layout_sweeps.proofs.Spreads.{no_spans}
use Rattle.fx_layout_sweeps.proofs.placing.spans_of.Goals as goal

pub returns-then-not-is_pane_at-clause-spans : goal.returns-then-not-is_pane_at-clause-spans
returns-then-not-is_pane_at-clause-spans g c =
    let sweep = c.args.sweep in
    let node = box_at sweep.nodes.now sweep.looks.now c.args.at in
    no_spans sweep.axis node
    (seen node.rule sweep.nodes.now sweep.widths.now sweep.heights.now (places_at sweep.children.now c.args.at))
    c.args.room _ (sym c.is_pane_at.ensures ∙ c.if-not-is_pane_at.true) c.new.ensures.items
