-- what was sent so far, and what is left
use Rattle.std.proofs.Common.{◌≡◌, ◌++◌}
use Rattle.fx_delta.specs.Items.{items_text, with_items}
use Rattle.fx_frame_text.specs.Canvases.{image_on}
use Rattle.fx_frame_text.specs.Frames.{rect_items}
use Rattle.fx_frame_text.proofs.ChangeLemmas.{bottom_of, rows_from}
use Rattle.fx_frame_text.proofs.changes.send_rect.Given as goal

abbrev pub invariant-loop-y : goal.invariant-loop-y
invariant-loop-y l =
    let image = image_on l.fn.canvas in
    let rect = l.fn.rect in
    record {
      width : l.view.width ≡ l.fn.canvas.width;
      height : l.view.height ≡ l.fn.canvas.height;
      text : l.text.items ++ items_text l.view (rows_from image rect (bottom_of image rect) l.y)
          ≡ l.fn.text.items ++ items_text l.fn.view (rect_items image rect);
      shown : with_items l.view (rows_from image rect (bottom_of image rect) l.y)
          ≡ with_items l.fn.view (rect_items image rect);
    }
