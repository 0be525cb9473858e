-- dots over a block are the shape
use Rattle.std.proofs.Common.{◌≡◌, ◌<◌, ◌≤◌, ◌∙◌, ◌≤ℤ◌, ◌^◌, ℕ, ℤ, List, Option, negsuc, refl, ap, sym, subst, arith, rules, w64, FitsSigned, to_z, of_z, IfSome}
use Rattle.std.specs.Prelude.{chars}
use Rattle.std.proofs.lemmas.Int.{to_z-of_z}
use Rattle.fx_base.specs.declared.color.Color.{Color}
use Rattle.fx_canvas.specs.Painting.{AreDotted, HasBytes, IsBlock, IsDrawn, block_pen, laid_above, points_above}
use Rattle.fx_canvas.proofs.BlockLemmas.{columns_of}
use Rattle.fx_canvas.proofs.DottedLemmas.{line_rows}
use Rattle.fx_canvas.proofs.OpaqueLemmas.{block_rows, fill_drawn, letters_drawn}
use Rattle.fx_pens.specs.Dots.{IsInk, is_in}
use Rattle.fx_pens.specs.Shapes.{letters_pen}
use Rattle.fx_pens.specs.declared.spans.Pen.{Pen}
use Rattle.fx_picture.specs.Shapes.{bounds, color_of}
use Rattle.fx_picture.specs.declared.shapes.Shape.{Shape}
use Rattle.fx_picture.specs.declared.shapes.Shape.TheVariants.{Fill, Letters}
use Rattle.fx_canvas.proofs.painting.lay_opaque.Goals as goal

pub lay_fill-requires-clause-rows : goal.lay_fill-requires-clause-rows
lay_fill-requires-clause-rows g c =
    let shape = c.args.shape.now in
    let bytes : HasBytes (color_of shape) = subst HasBytes c.color_of.ensures c.channel_laws.ensures in
    block_rows c.args.block (bounds shape) c.args.rows.now (block_pen c.args.block c.in-Fill.color) c.requires.block refl refl (omega arith) (omega arith)
    (subst (λ (s : Shape). HasBytes (color_of s)) c.in-Fill.is bytes)

pub lay_fill-requires-clause-ink : goal.lay_fill-requires-clause-ink
lay_fill-requires-clause-ink g c = subst (λ (s : Shape). IsInk (color_of s) c.args.pixel) c.in-Fill.is c.requires.ink

pub returns-in-Fill : goal.returns-in-Fill
returns-in-Fill g c =
    let block = c.args.block in
    let old = c.args.rows.now in
    let new = c.lay_fill.new.rows in
    let P : Shape → Type 0 = λ s. IsDrawn (laid_above block block.bottom s) (is_in block.top block.bottom) (points_above block block.bottom s)
    old new c.args.painted.now c.lay_fill.new.painted in
    let is : IsBlock block (bounds (Fill c.in-Fill.rect c.in-Fill.color)) old = subst (λ (s : Shape). IsBlock block (bounds s) old) c.in-Fill.is c.requires.block in
    subst P (sym c.in-Fill.is)
    (fill_drawn block c.in-Fill.rect c.in-Fill.color old new c.args.painted.now c.lay_fill.new.painted is c.lay_fill.ensures)

pub lay_letters-requires-clause-rows : goal.lay_letters-requires-clause-rows
lay_letters-requires-clause-rows g c =
    let shape = c.args.shape.now in
    let l = c.in-Letters in
    let pen = c.in-Some.pen in
    let is = subst (λ (o : Option Pen). IfSome o (λ p. p ≡ letters_pen (columns_of c.args.block) c.args.block.top (to_z w64 (of_z w64 l.y)) (to_z w64 (of_z w64 l.scale)) l.color)) c.in-Some.is c.near_pen.ensures.pen in
    let some = subst (λ (o : Option Pen). IfSome o (λ p. 0 < p.scale)) c.in-Some.is c.near_pen.ensures.some in
    let narrow = subst (λ (o : Option Pen). IfSome o (λ p. p.scale ≤ 65536)) c.in-Some.is c.near_pen.ensures.scale in
    let bytes : HasBytes (color_of shape) = subst HasBytes c.color_of.ensures c.channel_laws.ensures in
    block_rows c.args.block (bounds shape) c.args.rows.now pen c.requires.block (ap (λ (p : Pen). p.left) is) (ap (λ (p : Pen). p.right) is) some narrow
    (subst HasBytes (ap color_of l.is ∙ sym (ap (λ (p : Pen). p.color) is)) bytes)

pub lay_letters-requires-clause-ink : goal.lay_letters-requires-clause-ink
lay_letters-requires-clause-ink g c =
    let l = c.in-Letters in
    let is = subst (λ (o : Option Pen). IfSome o (λ p. p ≡ letters_pen (columns_of c.args.block) c.args.block.top (to_z w64 (of_z w64 l.y)) (to_z w64 (of_z w64 l.scale)) l.color)) c.in-Some.is c.near_pen.ensures.pen in
    subst (λ (k : Color). IsInk k c.args.pixel) (ap color_of l.is ∙ sym (ap (λ (p : Pen). p.color) is)) c.requires.ink

pub lay_letters-requires-clause-below : goal.lay_letters-requires-clause-below
lay_letters-requires-clause-below g c = subst (λ (o : Option Pen). IfSome o (λ p. p.below ≤ 393216)) c.in-Some.is c.near_pen.ensures.below

pub lay_letters-requires-clause-near : goal.lay_letters-requires-clause-near
lay_letters-requires-clause-near g c = subst (λ (o : Option Pen). IfSome o (λ p. negsuc (2 ^ 40) ≤ℤ to_z w64 (of_z w64 c.in-Letters.x))) c.in-Some.is c.near_pen.ensures.near

pub returns-in-Some : goal.returns-in-Some
returns-in-Some g c =
    let block = c.args.block in
    let old = c.args.rows.now in
    let new = c.lay_letters.new.rows in
    let before = c.args.painted.now in
    let after = c.lay_letters.new.painted in
    let l = c.in-Letters in
    let pen = c.in-Some.pen in
    let shape = Letters l.x l.y l.scale l.text l.clip l.color in
    let P : Shape → Type 0 = λ s. IsDrawn (laid_above block block.bottom s) (is_in block.top block.bottom) (points_above block block.bottom s) old new before after in
    let Q : Pen → ℤ → List ℕ → Type 0 = λ p z t. AreDotted p block.top block.bottom block.bottom (line_rows p block.top z (chars t)) old new before after in
    let block_is : IsBlock block (bounds shape) old = subst (λ (s : Shape). IsBlock block (bounds s) old) l.is c.requires.block in
    let x_fits : FitsSigned w64 l.x = search rules in
    let y_fits : FitsSigned w64 l.y = search rules in
    let scale_fits : FitsSigned w64 l.scale = search rules in
    let first : ℤ = to_z w64 (of_z w64 l.x) in
    let same : first ≡ l.x = to_z-of_z w64 l.x x_fits in
    let made = simp to_z-of_z at c.near_pen.ensures.pen in
    let is : pen ≡ letters_pen (columns_of block) block.top l.y l.scale l.color =
    subst (λ (o : Option Pen). IfSome o (λ p. p ≡ letters_pen (columns_of block) block.top l.y l.scale l.color)) c.in-Some.is made in
    let laid : Q (letters_pen (columns_of block) block.top l.y l.scale l.color) l.x l.text =
    subst (λ (p : Pen). Q p l.x l.text) is
    (subst (λ z. Q pen z l.text) same
    (subst (λ (t : List ℕ). Q pen first t) c.as_str.ensures.text c.lay_letters.ensures)) in
    subst P (sym l.is) (letters_drawn block l.x l.y l.scale l.text l.clip l.color old new before after block_is laid)
