-- what was sent so far, and what is left
use Rattle.std.proofs.Common.{◌≡◌, ◌++◌, drop}
use Rattle.fx_delta.specs.Items.{items_text}
use Rattle.fx_frame_text.specs.Canvases.{image_on}
use Rattle.fx_frame_text.specs.Frames.{changes_text, damage_items}
use Rattle.fx_frame_text.proofs.changes.changes_text.Given as goal

abbrev pub invariant-loop-rect : goal.invariant-loop-rect
invariant-loop-rect l =
    let image = image_on l.fn.canvas in
    record {
      width : l.view.width ≡ l.fn.canvas.width;
      height : l.view.height ≡ l.fn.canvas.height;
      text : l.text.items ++ items_text l.view (damage_items image (drop l.rect-index l.damage))
          ≡ changes_text l.fn.view l.fn.damage image;
    }
