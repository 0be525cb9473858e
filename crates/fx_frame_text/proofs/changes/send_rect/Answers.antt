-- one row more is sent
use Rattle.std.proofs.Common.{◌≡◌, ◌<◌, ◌+◌, ◌-◌, ◌++◌, ◌∙◌, ℕ, List, ap, ap₂, drop, subst, sym, take}
use Rattle.std.specs.Prelude.{min}
use Rattle.fx_delta.specs.Items.{item_text, items_text, with_items}
use Rattle.fx_delta.specs.Lines.{Item}
use Rattle.fx_delta.specs.Pictures.{Picture, with_pixels}
use Rattle.fx_frame_text.specs.Canvases.{image_on}
use Rattle.fx_frame_text.specs.Frames.{row_item}
use Rattle.fx_picture.specs.Shapes.{whole}
use Rattle.fx_frame_text.proofs.ChangeLemmas.{bottom_of, next_row, one_sent, one_shown, rows_from}
use Rattle.fx_frame_text.proofs.changes.send_rect.Goals as goal

pub loop-y-preserved : goal.loop-y-preserved
loop-y-preserved c =
    let image = image_on c.args.canvas.now in
    let rect = c.args.rect in
    let bottom = bottom_of image rect in
    let y = c.loop-y.y in
    let view = c.loop-y.view in
    let text = c.loop-y.text.items in
    let rest = rows_from image rect bottom (y + 1) in
    let within : y < bottom =
    subst (λ (b : ℕ). y < b)
    (c.bottom_of-y-end.ensures
    ∙ ap (λ (n : ℕ). whole rect.y + min (whole rect.h) (n - whole rect.y)) c.height.ensures.value)
    c.loop-y-test.true in
    let pixels = c.part-pixels.ensures.part
    ∙ ap (λ (l : List ℕ). take c.width_of.result (drop c.left_of.result l)) c.row.ensures.pixels
    ∙ ap₂ (λ (w x : ℕ). take w (drop x (image.row y))) c.width_of.ensures c.left_of.ensures in
    let same : record { x = c.left_of-in-loop-y.result; y = y; pixels = c.part-pixels.result.now } ≡ row_item image rect y =
    ap₂ (λ (x : ℕ) (l : List ℕ). record { x = x; y = y; pixels = l }) c.left_of-in-loop-y.ensures pixels in
    let shown : c.send_row.new.view ≡ with_pixels view (row_item image rect y).x y (row_item image rect y).pixels =
    c.in_ok-send_row.ensures.shown ∙ ap (λ (i : Item). with_pixels view i.x i.y i.pixels) same in
    let sent = c.in_ok-send_row.ensures.text ∙ ap (λ (i : Item). text ++ item_text view i) same in
    let next = sym (next_row image rect bottom y within) in
    record {
      width = ap (λ (p : Picture). p.width) shown ∙ c.loop-y.invariant.width;
      height = ap (λ (p : Picture). p.height) shown ∙ c.loop-y.invariant.height;
      text = one_sent view c.send_row.new.view text (row_item image rect y) rest sent shown
          (ap (λ (l : List Item). text ++ items_text view l) next ∙ c.loop-y.invariant.text);
      shown = one_shown view c.send_row.new.view (row_item image rect y) rest shown
          (ap (λ (l : List Item). with_items view l) next ∙ c.loop-y.invariant.shown);
    }
