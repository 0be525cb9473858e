use Rattle.fx_panes_parts.proofs.PaneLemmas.{across_first}
use Rattle.fx_panes_parts.specs.declared.axes.Axis.TheVariants.{Across, Down}
use Rattle.fx_panes.specs.Border.{border_extent, border_spans}
use Rattle.fx_panes.proofs.EachLemmas.{one_border}
use Rattle.fx_panes.proofs.border.across_first.Goals as goal

pub returns : goal.returns
returns c = across_first (border_extent Across) (border_extent Down) (border_spans Across) (border_spans Down) (one_border Across) (one_border Down)
