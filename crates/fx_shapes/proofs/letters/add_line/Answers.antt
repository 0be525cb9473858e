use Rattle.std.proofs.Common.{◌≡◌, ◌<◌, ◌≤◌, ◌+◌, ◌*◌, ◌/◌, ◌%◌, ◌^◌, ◌&&◌, ◌+ℤ◌, ◌++◌, ◌∷◌, [], ℤ, ℕ, pos, Bool, List, min, arith, ap, sym, subst, ◌∙◌, append-nil, rules, w64, FitsSigned, to_z, of_z}
use Rattle.std.specs.Prelude.{OnOk, chars, int_lt, nat_lt}
use Rattle.std.proofs.lemmas.Int.{ints, to_z-of_z}
use Rattle.fx_base.specs.declared.color.Color.{Color}
use Rattle.fx_base.specs.declared.geometry.Rect.{Rect}
use Rattle.fx_cells.specs.Columns.{cells_of}
use Rattle.fx_panes_parts.specs.Lengths.{aligned}
use Rattle.fx_picture.specs.Shapes.{whole}
use Rattle.fx_picture.specs.declared.shapes.Shape.{Shape}
use Rattle.fx_picture.specs.declared.shapes.Shape.TheVariants.{Letters}
use Rattle.fx_shapes.specs.declared.letters.Block.{Block}
use Rattle.fx_shapes.specs.Drawings.{is_shown, shown}
use Rattle.fx_shapes.specs.Letters.{line_at}
use Rattle.fx_shapes.specs.Rects.{IsContent}
use Rattle.fx_shapes.proofs.AlignLemmas.{aligned_capped, short_whole}
use Rattle.fx_shapes.proofs.HiddenLemmas.{hidden, some_capped, visible}
use Rattle.fx_shapes.proofs.letters.add_line.Goals as goal

letters_made : (x y s v w z : ℤ) (t : List ℕ) (r : Rect) (c : Color) → x ≡ v → y ≡ w → s ≡ z → Letters x y s t r c ≡ Letters v w z t r c
letters_made x y s v w z t r c p q o =
    ap (λ n. Letters n y s t r c) p ∙ (ap (λ n. Letters v n s t r c) q ∙ ap (λ n. Letters v w n t r c) o)

across_is : (b : Block) (line : List ℕ) (x : ℤ) (used : ℕ) → IsContent b.clip → used ≡ min (4 * cells_of (chars line) * b.scale) 18446744073709551615
    → x ≡ b.clip.x +ℤ pos (aligned (b.alignment % 3) used (whole b.clip.w))
    → x ≡ b.clip.x +ℤ pos (aligned (b.alignment % 3) (4 * cells_of (chars line) * b.scale) (whole b.clip.w))
across_is b line x used content is at =
    let how = b.alignment % 3 in
    at ∙ ap (λ n. b.clip.x +ℤ pos n)
    (ap (λ n. aligned how n (whole b.clip.w)) is
    ∙ aligned_capped how (4 * cells_of (chars line) * b.scale) 18446744073709551615 (whole b.clip.w) (short_whole b.clip content))

visible_is : (b : Block) (i : ℕ) (line : List ℕ) (used : ℕ) (shows : Bool) → IsContent b.clip → 1 ≤ b.scale
    → aligned (b.alignment / 3) (6 * b.count * b.scale) (whole b.clip.h) + 6 * i * b.scale < whole b.clip.h
    → used ≡ min (4 * cells_of (chars line) * b.scale) 18446744073709551615
    → shows ≡ (nat_lt 0 b.color.a && (nat_lt 0 used && int_lt (pos 0) b.clip.w)) → shows ≡ is_shown (line_at b (i, line))
visible_is b i line used shows content large early is test =
    test ∙ (ap (λ t. nat_lt 0 b.color.a && (t && int_lt (pos 0) b.clip.w))
    (ap (nat_lt 0) is ∙ some_capped (4 * cells_of (chars line) * b.scale) 18446744073709551615 (omega arith))
    ∙ sym (visible b i line content large early))

shape_is : (b : Block) (i : ℕ) (line : List ℕ) (x y : ℤ) (used : ℕ) → IsContent b.clip → b.scale ≤ 2 ^ 61
    → used ≡ min (4 * cells_of (chars line) * b.scale) 18446744073709551615
    → FitsSigned w64 x → FitsSigned w64 y → x ≡ b.clip.x +ℤ pos (aligned (b.alignment % 3) used (whole b.clip.w))
    → y ≡ b.clip.y +ℤ pos (aligned (b.alignment / 3) (6 * b.count * b.scale) (whole b.clip.h) + 6 * i * b.scale)
    → Letters (to_z w64 (of_z w64 x)) (to_z w64 (of_z w64 y)) (to_z w64 b.scale) line b.clip b.color ≡ line_at b (i, line)
unfolding line_at
shape_is b i line x y used content most is f g across down =
    let scale : to_z w64 b.scale ≡ pos b.scale = omega (arith, ints) in
    letters_made _ _ _ _ _ _ line b.clip b.color
    (to_z-of_z w64 x f ∙ across_is b line x used content is across) (to_z-of_z w64 y g ∙ down) scale

pub add_if-requires : goal.add_if-requires
add_if-requires c =
    let b = c.args.block.now in
    let x : FitsSigned w64 c.across_of.result = search rules in
    let y : FitsSigned w64 c.in-Some.y = search rules in
    visible_is b c.args.index c.args.line c.width_of-used.result c.is_visible.result c.requires.clip c.requires.some c.in-Some.ensures.inside c.width_of-used.ensures c.is_visible.ensures
    ∙ ap is_shown (sym (shape_is b c.args.index c.args.line c.across_of.result c.in-Some.y c.width_of-used.result c.requires.clip c.requires.most c.width_of-used.ensures
    x y c.across_of.ensures c.in-Some.ensures.some))

pub returns-in-Some : goal.returns-in-Some
returns-in-Some c =
    let b = c.args.block.now in
    let x : FitsSigned w64 c.across_of.result = search rules in
    let y : FitsSigned w64 c.in-Some.y = search rules in
    let shape = shape_is b c.args.index c.args.line c.across_of.result c.in-Some.y c.width_of-used.result c.requires.clip c.requires.most c.width_of-used.ensures
    x y c.across_of.ensures c.in-Some.ensures.some in
    subst (λ (s : Shape). OnOk c.add_if.result (c.add_if.new.shapes.items ≡ c.args.shapes.now.items ++ shown (s ∷ []))) shape c.add_if.ensures

pub returns-in-None : goal.returns-in-None
returns-in-None c =
    let off = hidden c.args.block.now c.args.index c.args.line c.requires.clip c.in-None.ensures.none in
    rw off (sym (append-nil _))
