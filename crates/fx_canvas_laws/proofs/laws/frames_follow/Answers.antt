use Rattle.fx_damage.proofs.OutsideLemmas.{same_outside}
use Rattle.fx_canvas_laws.proofs.Following.{following}
use Rattle.fx_canvas_laws.proofs.laws.frames_follow.Goals as goal

pub returns : goal.returns
returns c = λ olds nows before after old_rises rises old_births births shows painted.
    following same_outside olds nows before after old_rises rises old_births births shows painted
