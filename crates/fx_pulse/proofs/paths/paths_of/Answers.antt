use Rattle.std.proofs.Common.{sym, ap, ◌∙◌, ◌++◌, ◌∷◌, []}
use Rattle.fx_layout_sweeps.specs.Nodes.{parents}
use Rattle.fx_pulse_model.specs.Lines.{path_of}
use Rattle.fx_pulse_touched.specs.Marks.{told}
use Rattle.fx_pulse_touched.proofs.ToldLemmas.{told_more}
use Rattle.fx_pulse.proofs.paths.paths_of.Goals as goal

pub loop-place-preserved : goal.loop-place-preserved
loop-place-preserved c = (
  c.in_ok-push.ensures.items
      ∙ (ap (λ l. l ++ c.in_ok-path.path ∷ []) c.loop-place.invariant.0
      ∙ (ap (λ p. told (path_of (parents c.args.boxes.now)) c.loop-place.place ++ p ∷ []) c.in_ok-path.ensures.path
      ∙ sym (told_more (path_of (parents c.args.boxes.now)) c.loop-place.place))),
  c.in_ok-path.ensures.counts,
)
