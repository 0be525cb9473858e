-- the first pixel, and the others behind it
use Rattle.std.proofs.Common.{◌-◌, ◌++◌, ◌∙◌, ℕ, List, ap, arith, drop, get_or, length, length-drop, sym}
use Rattle.std.proofs.lemmas.List.{length-take-le}
use Rattle.fx_row_text.specs.Rows.{pixel_text}
use Rattle.fx_row_text.proofs.RowLemmas.{empty_row, only_line_feed, row_by_first, row_length}
use Rattle.fx_row_text.proofs.printing.write_row.Goals as goal

pub bounds-text-0 : goal.bounds-text-0
bounds-text-0 c =
    let one = ap (λ (l : List ℕ). length l) (empty_row c.args.row.now c.in-empty.len_below) in
    omega (arith, one, c.requires)

pub returns-in-empty : goal.returns-in-empty
returns-in-empty c = only_line_feed c.args.text.now c.args.row.now c.in-empty.len_below c.requires

pub split_at_mut-front-requires : goal.split_at_mut-front-requires
split_at_mut-front-requires c =
    let long = row_length c.args.row.now c.in-len1-up.len_at_least in omega (arith, long, c.requires)

pub write_behind-requires : goal.write_behind-requires
write_behind-requires c =
    let row = c.args.row.now in
    let long = row_length row c.in-len1-up.len_at_least in
    let others = length-drop 1 row in
    let all = length-take-le (length row - 1) (drop 1 row) (omega arith) in
    omega (arith, long, others, all, c.requires, c.split_at_mut-front.ensures.back_len)

pub returns-in-len1-up : goal.returns-in-len1-up
returns-in-len1-up c =
    ap (λ l. l ++ c.write_behind.new.text) (c.copy_from_slice.ensures.after ∙ c.pixel_digits.ensures)
    ∙ (ap (λ l. pixel_text (get_or c.args.row.now 0 0) ++ l) c.write_behind.ensures
    ∙ sym (row_by_first c.args.row.now c.in-len1-up.len_at_least))
