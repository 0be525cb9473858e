use Rattle.std.proofs.Common.{◌≡◌, ◌*◌, ℕ, List, min, ap, arith, ◌∙◌}
use Rattle.std.specs.Prelude.{chars}
use Rattle.fx_cells.specs.Columns.{cells_of}
use Rattle.fx_shapes.proofs.letters.width_of.Goals as goal

pub returns : goal.returns
returns c =
    let b = c.args.block.now in
    let wide : ℕ = 4 * cells_of (chars c.args.line.now) * b.scale in
    let cells : c.cells.result ≡ cells_of (chars c.args.line.now) = c.cells.ensures ∙ ap (λ (t : List ℕ). cells_of (chars t)) c.as_str.ensures.text in
    let product : 4 * b.scale * c.cells.result ≡ wide = rw cells (omega arith) in
    c.saturating_mul.ensures ∙ ap (λ n. min n 18446744073709551615) product
