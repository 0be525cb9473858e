-- the pixels of the canvas are its picture's
use Rattle.std.proofs.Common.{◌∙◌}
use Rattle.fx_frame_text.proofs.AlikeLemmas.{sum_alike}
use Rattle.fx_play_frames.proofs.ShownLemmas.{shown_alike}
use Rattle.fx_play_frames.proofs.telling.sum_of.Goals as goal

pub returns-clause-sum : goal.returns-clause-sum
returns-clause-sum c = λ picture shows.
    c.canvas_sum.ensures.sum ∙ sum_alike (shown_alike c.args.canvas.now picture c.laws.ensures shows)
