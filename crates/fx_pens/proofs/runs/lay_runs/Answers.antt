use Rattle.std.proofs.Common.{◌≡◌, ◌+◌, ◌*◌, ◌&&◌, ◌||◌, ◌+ℤ◌, ℕ, Bool, pos, refl, arith}
use Rattle.std.proofs.lemmas.Int.{ints}
use Rattle.fx_pens.specs.Dots.{bit_dots, row_dots}
use Rattle.fx_pens.proofs.DotLemmas.{laid-same, laid-then}
use Rattle.fx_pens.proofs.LetterLemmas.{bits_apart}
use Rattle.fx_pens.proofs.RunLemmas.{beside_is}
use Rattle.fx_pens.proofs.runs.lay_runs.Goals as goal

pub returns-else-bits : goal.returns-else-bits
returns-else-bits g c =
    let pen = c.args.pen.now in
    let bits = c.args.bits in
    let s = c.args.start in
    let t = s + 2 * pen.scale in
    let here : pos s ≡ pos s +ℤ pos 0 = omega (arith, ints) in
    let d0 : ℕ → Bool = λ x. bits.left && bit_dots pen (pos s) x in
    let d1 : ℕ → Bool = λ x. bits.right && bit_dots pen (pos t) x in
    let both = laid-then pen d0 d1 c.args.row.now c.lay_alone.new.row c.lay_alone-else-bits.new.row
    c.args.painted.now c.lay_alone.new.painted c.lay_alone-else-bits.new.painted c.requires.pen.rises
    (λ x a b. bits_apart pen (pos s) (pos s) (pos t) 0 (2 * pen.scale) x bits.left bits.right here refl (omega arith))
    c.lay_alone.ensures c.lay_alone-else-bits.ensures in
    laid-same pen (λ x. d0 x || d1 x) (row_dots pen (pos s) bits)
    c.args.row.now c.lay_alone-else-bits.new.row c.args.painted.now c.lay_alone-else-bits.new.painted
    (λ x a b. beside_is pen s t bits x c.if-bits.false refl) c.requires.pen.rises both
