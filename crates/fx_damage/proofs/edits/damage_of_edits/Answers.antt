-- boxes that were cut to the window lie in it
use Rattle.std.proofs.Common.{◌∙◌, ap}
use Rattle.std.proofs.lemmas.List.Elements.{All-same}
use Rattle.fx_damage.specs.Damage.{changed_boxes, cut_to, window}
use Rattle.fx_damage.specs.Edits.{edited}
use Rattle.fx_damage.specs.Windows.{IsInWindow}
use Rattle.fx_damage.proofs.WindowLemmas.{cut_in}
use Rattle.fx_damage.proofs.edits.damage_of_edits.Goals as goal

pub joined_rects-requires : goal.joined_rects-requires
joined_rects-requires c =
    let changed = changed_boxes c.as_slice.result.now (edited c.args.edits.now c.as_slice.result.now) in
    let is = c.as_slice-2.ensures.value ∙ (c.in_ok-boxes.ensures ∙ ap (λ w. cut_to w changed) c.window-window.ensures.value) in
    All-same IsInWindow c.as_slice-2.result.now (cut_to (window c.args.w c.args.h) changed) is
    (cut_in c.args.w c.args.h changed c.ranges.w.fits c.ranges.h.fits)
