use Rattle.fx_panes_parts.proofs.PaneLemmas.{across_first}
use Rattle.fx_panes.specs.Anchor.{anchor_extent, anchor_spans}
use Rattle.fx_panes.proofs.EachLemmas.{one_anchor}
use Rattle.fx_panes.proofs.anchor.across_first.Goals as goal

pub returns : goal.returns
returns c = across_first anchor_extent anchor_extent anchor_spans anchor_spans one_anchor one_anchor
