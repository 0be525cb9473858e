use Rattle.std.proofs.Common.{sym, ap, ◌∙◌, ◌++◌, ◌∷◌, [], ◌||◌, false}
use Rattle.fx_layout_sweeps.specs.Marks.{flag_in}
use Rattle.fx_layout_sweeps.specs.Nodes.{node_at, parents}
use Rattle.fx_pulse_touched.specs.Marks.{is_below, told, told_above}
use Rattle.fx_pulse_touched.proofs.ToldLemmas.{below_next, told_more}
use Rattle.fx_pulse_touched.proofs.marks.handed_down.Goals as goal

pub loop-place-preserved : goal.loop-place-preserved
loop-place-preserved c =
    let boxes = c.args.boxes.now in
    let marks = c.args.marks.now in
    let below = is_below (parents boxes) marks in
    let n = c.loop-place.place in
    c.in_ok-push.ensures.items
    ∙ (ap (λ l. l ++ c.is_below.result ∷ []) c.loop-place.invariant
    ∙ (ap (λ b. told below n ++ b ∷ [])
    (c.is_below.ensures
    ∙ (ap (λ l. told_above l (node_at boxes n).parent false || flag_in marks n)
    (c.as_slice.ensures.value ∙ c.loop-place.invariant)
    ∙ sym (below_next boxes marks n c.requires c.loop-place-test.true)))
    ∙ sym (told_more below n)))
