use Rattle.std.proofs.Common.{sym, ap, ◌∙◌, ◌++◌, ◌∷◌, [], ◌&&◌, true}
use Rattle.fx_layout_sweeps.specs.Nodes.{look_at, node_at}
use Rattle.fx_pulse_model.specs.Pictures.{shows}
use Rattle.fx_pulse.specs.Drawing.{drawn}
use Rattle.fx_pulse_touched.specs.Marks.{told, told_above}
use Rattle.fx_pulse_touched.proofs.ToldLemmas.{told_more}
use Rattle.fx_pulse.proofs.FlagLemmas.{shows_next}
use Rattle.fx_pulse.proofs.flags.flags_below.Goals as goal

pub loop-place-preserved : goal.loop-place-preserved
loop-place-preserved c =
    let d = drawn c.args.laid in
    let n = c.loop-place.place in
    let own = (look_at d.looks n).visibility in
    c.in_ok-push.ensures.items
    ∙ (ap (λ l. l ++ c.shows.result ∷ []) c.loop-place.invariant
    ∙ (ap (λ b. told (shows d) n ++ b ∷ [])
    (c.shows.ensures
    ∙ (ap (λ l. told_above l (node_at d.boxes n).parent true && own) (c.as_slice.ensures.value ∙ c.loop-place.invariant)
    ∙ sym (shows_next d n c.requires c.loop-place-test.true)))
    ∙ sym (told_more (shows d) n)))
