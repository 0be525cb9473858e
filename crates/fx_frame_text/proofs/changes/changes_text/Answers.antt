-- one rectangle more is sent
use Rattle.std.proofs.Common.{◌+◌, ◌++◌, ◌∙◌, List, ap, drop, get_or, sym}
use Rattle.fx_delta.specs.Items.{items_text}
use Rattle.fx_delta.specs.Lines.{Item}
use Rattle.fx_delta.specs.Pictures.{Picture}
use Rattle.fx_frame_text.specs.Canvases.{image_on}
use Rattle.fx_frame_text.specs.Frames.{damage_items, rect_items}
use Rattle.fx_frame_text.proofs.ChangeLemmas.{next_rect, no_rect, shown_height, shown_width, some_sent}
use Rattle.fx_frame_text.proofs.changes.changes_text.Goals as goal

pub loop-rect-preserved : goal.loop-rect-preserved
loop-rect-preserved c =
    let image = image_on c.args.canvas.now in
    let rects = c.args.damage.now in
    let place = c.loop-rect.rect-index in
    let view = c.loop-rect.view in
    let text = c.loop-rect.text.items in
    let front = rect_items image (get_or rects place no_rect) in
    let back = damage_items image (drop (place + 1) rects) in
    let shown = c.in_ok-send_rect.ensures.shown in
    record {
      width = ap (λ (p : Picture). p.width) shown ∙ shown_width view front ∙ c.loop-rect.invariant.width;
      height = ap (λ (p : Picture). p.height) shown ∙ shown_height view front ∙ c.loop-rect.invariant.height;
      text = some_sent view c.send_rect.new.view text front back c.in_ok-send_rect.ensures.text shown
          (ap (λ (l : List Item). text ++ items_text view l) (sym (next_rect image rects place c.loop-rect-test.true))
          ∙ c.loop-rect.invariant.text);
    }
