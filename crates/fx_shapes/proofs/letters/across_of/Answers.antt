use Rattle.std.proofs.Common.{◌≡◌, ◌+ℤ◌, ◌%◌, pos, arith, ◌∙◌, ap, rules, FitsSigned, w64, to_z, of_z}
use Rattle.std.proofs.lemmas.Int.{ints, to_z-of_z}
use Rattle.fx_panes_parts.specs.Lengths.{aligned}
use Rattle.fx_picture.specs.Shapes.{whole}
use Rattle.fx_shapes.proofs.letters.across_of.Goals as goal

pub returns : goal.returns
returns c =
    let b = c.args.block.now in
    let w : FitsSigned w64 b.clip.w = search rules in
    let free : c.length.result ≡ whole b.clip.w = simp to_z-of_z at c.length.ensures.value in
    let is : c.aligned.result ≡ aligned (b.alignment % 3) c.args.used (whole b.clip.w) =
    c.aligned.ensures.value ∙ ap (aligned (b.alignment % 3) c.args.used) free in
    let most = c.aligned.ensures.most in
    let same = c.length.ensures.same in
    let near = c.requires.clip.near in
    let moved : to_z w64 (of_z w64 (to_z w64 (of_z w64 b.clip.x) +ℤ to_z w64 c.aligned.result)) ≡ b.clip.x +ℤ pos c.aligned.result = omega (arith, ints) in
    moved ∙ ap (λ n. b.clip.x +ℤ pos n) is
