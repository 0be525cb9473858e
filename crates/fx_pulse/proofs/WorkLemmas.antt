-- No more nodes are worked on than there are.
use Rattle.std.proofs.Common.{ℕ, ◌+◌, ◌*◌, ◌≤◌, Option, length, arith}
use Rattle.std.specs.List.{range_with_len}
use Rattle.std.proofs.lemmas.List.FromFn.{length-range_with_len}
use Rattle.std.proofs.lemmas.List.Sums.{count_by-le-length}
use Rattle.fx_layout.specs.Updates.{Kept, is_resized}
use Rattle.fx_layout_sweeps.specs.Nodes.{parents}
use Rattle.fx_pulse_kept.specs.Costs.{AreFew}
use Rattle.fx_pulse_kept.proofs.StyleLemmas.{as_many}
use Rattle.fx_pulse_model.specs.Scenes.{IsScene, Scene}
use Rattle.fx_pulse_touched.specs.Touched.{is_remeasured, is_restyled}
use Rattle.fx_pulse_touched.proofs.ToldLemmas.{long}

pub styled_most : (last : Option Scene) (scene : Scene) (before layout : Kept) (styled_before styled laid_before laid : ℕ)
    → IsScene scene → AreFew last scene before layout styled_before styled laid_before laid
    → styled ≤ styled_before + length scene.styles
styled_most last scene before layout styled_before styled laid_before laid is few =
    let ups = parents scene.boxes in
    let some = count_by-le-length (is_restyled ups few.styles) (range_with_len 0 (length ups)) in
    omega (arith, few.few_styled, some, length-range_with_len 0 (length ups), long scene.boxes, as_many scene is)

pub laid_most : (last : Option Scene) (scene : Scene) (before layout : Kept) (styled_before styled laid_before laid : ℕ)
    → AreFew last scene before layout styled_before styled laid_before laid
    → laid ≤ laid_before + 7 * length scene.boxes
laid_most last scene before layout styled_before styled laid_before laid few =
    let ups = parents scene.boxes in
    let n = length scene.boxes in
    let some = count_by-le-length (is_remeasured ups few.styles few.boxes) (range_with_len 0 (length ups)) in
    let others = count_by-le-length (is_resized before scene.boxes layout) (range_with_len 0 n) in
    omega (
      arith,
      few.few_laid,
      some,
      others,
      length-range_with_len 0 (length ups),
      length-range_with_len 0 n,
      long scene.boxes,
    )
