-- the rows that were put, and those that are left
use Rattle.std.proofs.Common.{◌≡◌, ◌-◌}
use Rattle.std.specs.List.{range_with_len}
use Rattle.fx_frame_text.specs.Canvases.{image_on}
use Rattle.fx_frame_text.proofs.ChangeLemmas.{with_rows}
use Rattle.fx_frame_text.proofs.changes.show_all.Given as goal

abbrev pub invariant-loop-y : goal.invariant-loop-y
invariant-loop-y l =
    let image = image_on l.fn.canvas in
    record {
      width : l.view.width ≡ l.fn.canvas.width;
      height : l.view.height ≡ l.fn.canvas.height;
      shown : with_rows image.row (range_with_len l.y (image.height - l.y)) l.view
          ≡ with_rows image.row (range_with_len 0 image.height) l.fn.view;
    }
