-- Where the next character begins.
use Rattle.std.proofs.Common.{◌≡◌, ◌*◌, ◌+ℤ◌, ◌∷◌, ◌++◌, [], ℕ, ℤ, pos, List, refl}
use Rattle.fx_cells.specs.Columns.{cell_width}
use Rattle.fx_pens.specs.Lines.{end_of}
use Rattle.fx_pens.specs.declared.spans.Pen.{Pen}
use Rattle.fx_pens.proofs.LineLemmas.{place_turn}

pub place_more : (pen : Pen) (first now next : ℤ) (done : List ℕ) (c : ℕ) → now ≡ end_of first done pen.scale
    → next ≡ now +ℤ pos (4 * cell_width c * pen.scale) → next ≡ end_of first (done ++ c ∷ []) pen.scale
place_more pen first now next done c at more = place_turn pen first now next done c (cell_width c) at more refl
