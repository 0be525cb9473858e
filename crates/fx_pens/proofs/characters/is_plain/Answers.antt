use Rattle.std.proofs.Common.{◌<◌, leb, true, arith, ◌≡◌, ℕ}
use Rattle.std.proofs.lemmas.Bool.Decides.{nat_tests}
use Rattle.fx_cells.proofs.Widths.{cell_width_printable}
use Rattle.fx_pens.proofs.characters.is_plain.Goals as goal

pub returns-then-c-ge32 : goal.returns-then-c-ge32
returns-then-c-ge32 c = λ low. cell_width_printable c.args.c c.if-c-ge32.true (below c.args.c low)
  where
    below : (n : ℕ) → leb n 126 ≡ true → n < 127
    below n h = grind (arith, nat_tests)
