-- seven bytes a pixel, or a line feed
use Rattle.std.proofs.Common.{ℕ, List, ap, arith, length, sym}
use Rattle.fx_row_text.proofs.RowLemmas.{empty_row, row_length}
use Rattle.fx_row_text.proofs.printing.text_length.Goals as goal

pub returns-in-0 : goal.returns-in-0
returns-in-0 c = sym (ap (λ (l : List ℕ). length l) (empty_row c.args.row.now (omega arith)))

pub returns-in_default : goal.returns-in_default
returns-in_default c = sym (row_length c.args.row.now (omega arith))
