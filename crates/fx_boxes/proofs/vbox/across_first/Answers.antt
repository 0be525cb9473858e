use Rattle.fx_panes_parts.proofs.PaneLemmas.{across_first}
use Rattle.fx_boxes.specs.Rows.{beside_extent, beside_spans, row_extent, row_spans}
use Rattle.fx_boxes.proofs.RowLemmas.{one_each_beside, one_each_row}
use Rattle.fx_boxes.proofs.vbox.across_first.Goals as goal

pub returns : goal.returns
returns c = across_first beside_extent row_extent beside_spans row_spans one_each_beside one_each_row
