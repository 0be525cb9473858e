-- The cells of a text are few, so the bounds of letters can be counted.
use Rattle.std.proofs.Common.{ℕ, ◌*◌, ◌≤◌, false, List, [], ◌∷◌, length, arith}
use Rattle.std.proofs.lemmas.List.Sums.{sum_by-cons}
use Rattle.unicode_width.proofs.Rules.{width_or_zero-le}
use Rattle.fx_cells.specs.Columns.{cell_width, cells_of}

-- no character has more than three
pub cells_of-few : (cs : List ℕ) → cells_of cs ≤ 3 * length cs
cells_of-few [] = omega arith
cells_of-few (c ∷ cs) =
    let most : cell_width c ≤ 3 = width_or_zero-le false c in
    let rest = cells_of-few cs in
    omega (arith, sum_by-cons cell_width c cs)
