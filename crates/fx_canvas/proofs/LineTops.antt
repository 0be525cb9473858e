-- The rows at which the lines of a glyph begin: in all rows of a line a pen stands in that line.
use Rattle.std.proofs.Common.{◌≡◌, ◌<◌, ◌≤◌, ◌+◌, ◌-◌, ◌*◌, ◌/◌, ◌∙◌, ℕ, ap, arith}
use Rattle.std.proofs.lemmas.Nat.{div-mul-add}
use Rattle.std.proofs.Math.Nat.{mul-add-div_right}
use Rattle.fx_canvas.specs.Painting.{line_top}
use Rattle.fx_pens.specs.declared.spans.Pen.{Pen}

next_line : (line scale : ℕ) → (line + 1) * scale ≡ line * scale + scale
next_line line scale = omega arith

pub top_first : (pen : Pen) (top bottom : ℕ) → top ≤ bottom → top ≡ line_top pen top bottom 0
top_first pen top bottom falls = omega (arith, falls)

pub top_from : (pen : Pen) (top bottom line : ℕ) → top ≤ bottom → top ≤ line_top pen top bottom line
top_from pen top bottom line falls = omega (arith, falls)

pub top_to : (pen : Pen) (top bottom line : ℕ) → line_top pen top bottom line ≤ bottom
top_to pen top bottom line = omega arith

pub tops_rise : (pen : Pen) (top bottom line : ℕ) → line_top pen top bottom line ≤ line_top pen top bottom (line + 1)
tops_rise pen top bottom line =
    let next = next_line line pen.scale in
    omega (arith, next)

in_line : (line scale at : ℕ) → line * scale ≤ at → at < line * scale + scale → at / scale ≡ line
in_line line scale at low high =
    let same : at ≡ line * scale + (at - line * scale) = omega (arith, low) in
    ap (λ n. n / scale) same ∙ div-mul-add line scale (at - line * scale) (omega (arith, low, high))

-- the line in which a pen over one of its rows stands
pub line_at : (pen : Pen) (top bottom line y : ℕ) → top ≤ bottom → line_top pen top bottom line ≤ y → y < line_top pen top bottom (line + 1)
    → (pen.below + (y - top)) / pen.scale ≡ line
line_at pen top bottom line y falls low high =
    let next = next_line line pen.scale in
    in_line line pen.scale (pen.below + (y - top)) (omega (arith, falls, low, high, next)) (omega (arith, falls, low, high, next))

below_line : (line scale at : ℕ) → 0 < scale → line * scale ≤ at → line ≤ at / scale
below_line line scale at some low =
    let same : at ≡ line * scale + (at - line * scale) = omega (arith, low) in
    let is : at / scale ≡ line + (at - line * scale) / scale = ap (λ n. n / scale) same ∙ mul-add-div_right some line (at - line * scale) in
    omega (arith, is)

-- in the rows that are left it stands below those lines
pub lines_above : (pen : Pen) (top bottom line y : ℕ) → 0 < pen.scale → top ≤ bottom → line_top pen top bottom line ≤ y → y < bottom
    → line ≤ (pen.below + (y - top)) / pen.scale
lines_above pen top bottom line y some falls low high = below_line line pen.scale (pen.below + (y - top)) some (omega (arith, falls, low, high))
