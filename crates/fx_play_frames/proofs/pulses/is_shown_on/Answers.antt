-- what the canvas shows can be drawn
use Rattle.std.proofs.Common.{sym, ◌∙◌}
use Rattle.fx_play_frames.proofs.DrawnLemmas.{shown_drawable}
use Rattle.fx_play_frames.proofs.pulses.is_shown_on.Goals as goal

pub returns-clause-drawable : goal.returns-clause-drawable
returns-clause-drawable c = λ shown.
    shown_drawable c.args.renderer.now.canvas c.args.canvas.now c.args.renderer.now.picture c.requires
    (sym c.has_frame_size.ensures ∙ c.if-not-has_frame_size.false) c.laws-2.ensures c.laws.ensures.shows
    c.laws.ensures.rises c.laws.ensures.births
