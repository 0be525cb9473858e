-- each shape's pixels in a rectangle are no more than the area that both share
use Rattle.std.proofs.Common.{◌≡◌, ◌≤◌, ◌+◌, ◌∙◌, ℕ, List, ap, arith}
use Rattle.std.specs.List.{sum_by}
use Rattle.fx_canvas.specs.Painting.{most_writes, writes}
use Rattle.fx_canvas.proofs.CountLemmas.{sum_less, writes_most}
use Rattle.fx_picture.specs.declared.entries.Entry.{Entry}
use Rattle.fx_canvas.proofs.canvas.Canvas.repaint.Goals as goal

bound : (p q a b : ℕ) → q ≡ p + a → a ≤ b → q ≤ p + b
bound p q a b e h = omega arith

pub returns-clause-bound : goal.returns-clause-bound
returns-clause-bound g c =
    let entries = c.args.picture.now.entries in
    let rects = c.args.damage.now in
    let painted = c.args.work.now.painted in
    bound painted c.repaint.new.painted (sum_by (writes entries) rects) (sum_by (most_writes entries) rects)
    (c.repaint.ensures.counted ∙ ap (λ (es : List Entry). painted + sum_by (writes es) rects) c.as_slice.ensures)
    (sum_less (writes entries) (most_writes entries) rects (λ r. writes_most entries r))
