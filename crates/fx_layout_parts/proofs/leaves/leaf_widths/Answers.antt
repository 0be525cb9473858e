use Rattle.fx_layout_parts.proofs.LeafLemmas.{if_some, label_wide, region_wide}
use Rattle.fx_layout_parts.proofs.leaves.leaf_widths.Goals as goal

pub returns-in-Region : goal.returns-in-Region
returns-in-Region c =
    region_wide c.args.node.now c.args.look.now c.region_widths.result c.in-Region.ensures
    (c.region_widths.ensures c.args.node.now)

pub returns-in-Control : goal.returns-in-Control
returns-in-Control c =
    if_some _ _ c.label_widths.result (λ widths. label_wide c.args.node.now c.args.look.now widths c.in-Control.ensures)
    c.label_widths.ensures
