-- what is worked out once is what each row asks for
use Rattle.std.proofs.Common.{◌≡◌, ◌∙◌, ℤ, ℕ, List, ap, sym, subst, rules, w64, FitsSigned, to_z, of_z}
use Rattle.std.specs.Prelude.{chars}
use Rattle.std.proofs.lemmas.Int.{to_z-of_z}
use Rattle.fx_base.specs.Rectangle.{inside}
use Rattle.fx_base.specs.declared.color.Color.{Color}
use Rattle.fx_picture.specs.Shapes.{bounds, color_of, holds}
use Rattle.fx_picture.specs.declared.shapes.Shape.{Shape}
use Rattle.fx_picture.specs.declared.shapes.Shape.TheVariants.{Fill, Letters}
use Rattle.fx_pens.specs.declared.spans.Pen.{Pen}
use Rattle.fx_pens.specs.Dots.{IsLaid, is_in, line_dots}
use Rattle.fx_pens.specs.Shapes.{LieWithin, plain_pen, scale_of}
use Rattle.fx_pens.proofs.DotLemmas.{in_true, laid-same}
use Rattle.fx_pens.proofs.ShapeLemmas.{fill_holds, letters_same}
use Rattle.fx_pens.proofs.brushes.Brush.lay.Goals as goal

pub returns-in-Fill : goal.returns-in-Fill
returns-in-Fill g c =
    let part = c.args.part in
    let y = c.args.y in
    let rect = c.in-Fill.rect in
    let mixed = c.self.invariant in
    let is : c.args.self.now ≡ Fill rect c.in-Fill.color = sym c.self.view_is ∙ c.in-Fill.is in
    let same : c.self.inside.color ≡ c.in-Fill.color = mixed.color_is ∙ ap color_of c.in-Fill.is in
    let P : Shape → Type 0 = λ s. IsLaid (plain_pen part (color_of s)) (λ x. holds s x y) c.args.row.now c.lay_all.new.row c.args.painted.now c.lay_all.new.painted in
    let Q : Color → Type 0 = λ color. IsLaid (plain_pen part color) (is_in part.left part.right) c.args.row.now c.lay_all.new.row c.args.painted.now c.lay_all.new.painted in
    let W : Shape → Type 0 = λ s. LieWithin (bounds s) part y in
    let within : LieWithin (bounds (Fill rect c.in-Fill.color)) part y = subst W is c.requires.bounds in
    subst P (sym is)
    (laid-same (plain_pen part c.in-Fill.color) (is_in part.left part.right) (λ x. inside rect x y) c.args.row.now c.lay_all.new.row c.args.painted.now c.lay_all.new.painted
    (λ x a b. in_true part.left part.right x a b ∙ sym (fill_holds rect x y (within x a b))) c.requires.columns.rises (subst Q same c.lay_all.ensures))

pub returns-in-Letters : goal.returns-in-Letters
returns-in-Letters g c =
    let part = c.args.part in
    let y = c.args.y in
    let l = c.in-Letters in
    let mixed = c.self.invariant in
    let color = c.self.inside.color in
    let pen : Pen = record { left = part.left; right = part.right; scale = c.self.inside.scale; below = c.below.result; color = color } in
    let shape = Letters l.x l.first l.scale l.text l.clip l.color in
    let is : c.args.self.now ≡ shape = sym c.self.view_is ∙ l.is in
    let P : Shape → Type 0 = λ s. IsLaid (plain_pen part (color_of s)) (λ x. holds s x y) c.args.row.now c.lay_line.new.row c.args.painted.now c.lay_line.new.painted in
    let Q : Color → Type 0 = λ color. IsLaid (plain_pen part color) (λ x. holds shape x y) c.args.row.now c.lay_line.new.row c.args.painted.now c.lay_line.new.painted in
    let W : Shape → Type 0 = λ s. LieWithin (bounds s) part y in
    let within : LieWithin (bounds shape) part y = subst W is c.requires.bounds in
    let x_fits : FitsSigned w64 l.x = search rules in
    let y_fits : FitsSigned w64 l.first = search rules in
    let first : ℤ = to_z w64 (of_z w64 l.x) in
    let same : first ≡ l.x = to_z-of_z w64 l.x x_fits in
    let scale = mixed.scale_is ∙ ap scale_of l.is in
    let below = simp to_z-of_z at c.below.ensures in
    let laid : IsLaid (plain_pen part color) (line_dots pen first (chars c.as_str.result.now)) c.args.row.now c.lay_line.new.row c.args.painted.now c.lay_line.new.painted =
    record { long = c.lay_line.ensures.long; pixels = c.lay_line.ensures.pixels; count = c.lay_line.ensures.count } in
    subst P (sym is)
    (subst Q (mixed.color_is ∙ ap color_of l.is)
    (laid-same (plain_pen part color) (line_dots pen first (chars c.as_str.result.now)) (λ x. holds shape x y)
    c.args.row.now c.lay_line.new.row c.args.painted.now c.lay_line.new.painted
    (λ x a b. ap (λ z. line_dots pen z (chars c.as_str.result.now) x) same
    ∙ (ap (λ (t : List ℕ). line_dots pen l.x (chars t) x) c.as_str.ensures.text
    ∙ letters_same pen l.x l.first l.scale l.text l.clip l.color x y scale below (within x a b)))
    c.requires.columns.rises laid))
