use Rattle.fx_layout_parts.proofs.LeafLemmas.{if_some, label_high, region_high}
use Rattle.fx_layout_parts.proofs.leaves.leaf_heights.Goals as goal

pub returns-in-Region : goal.returns-in-Region
returns-in-Region c =
    region_high c.args.node.now c.args.look.now c.region_heights.result c.in-Region.ensures
    (c.region_heights.ensures c.args.node.now)

pub returns-in-Control : goal.returns-in-Control
returns-in-Control c =
    if_some _ _ c.label_heights.result (λ heights. label_high c.args.node.now c.args.look.now heights c.in-Control.ensures)
    c.label_heights.ensures
