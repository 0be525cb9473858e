use Rattle.std.proofs.Common.{ℕ, List}
use Rattle.std.specs.Prelude.{IfSome}
use Rattle.fx_base.specs.declared.facts.ChildSize.{ChildSize}
use Rattle.fx_layout_parts.specs.declared.rules.NodeBox.{NodeBox}
use Rattle.fx_layout_parts.specs.Rules.{IsHigh}
use Rattle.fx_layout_sweeps.proofs.Reading.{at_box}
use Rattle.fx_layout_sweeps.proofs.nodes.leaf_heights_in.Goals as goal

pub returns : goal.returns
returns c =
    at_box
    (λ (b : NodeBox). IfSome c.leaf_heights.result (λ heights. (children : List ChildSize) (w : ℕ) → IsHigh b children w heights))
    c.args.nodes.now c.args.looks.now c.args.place c.index-nodes-place.result c.index-looks-place.result c.requires.looks
    c.requires.place c.index-nodes-place.is c.index-looks-place.is c.leaf_heights.ensures
