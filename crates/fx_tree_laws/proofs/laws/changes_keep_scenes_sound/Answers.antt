use Rattle.fx_tree_laws.proofs.Attaching.{free}
use Rattle.fx_tree_laws.proofs.Dropping.{loose}
use Rattle.fx_tree_laws.proofs.Keeping.{sound_attached, sound_detached, sound_dropped, sound_made, sound_rooted}
use Rattle.fx_tree_laws.proofs.laws.changes_keep_scenes_sound.Goals as goal

pub returns-clause-made : goal.returns-clause-made
returns-clause-made c = sound_made

pub returns-clause-rooted : goal.returns-clause-rooted
returns-clause-rooted c = sound_rooted

pub returns-clause-attached : goal.returns-clause-attached
returns-clause-attached c = λ scene parent child place sound allowed.
    sound_attached scene sound parent child place (free scene parent child place allowed)

pub returns-clause-detached : goal.returns-clause-detached
returns-clause-detached c = λ scene child sound. sound_detached scene sound child

pub returns-clause-dropped : goal.returns-clause-dropped
returns-clause-dropped c = λ scene top sound allowed.
    let is = loose scene top allowed in
    sound_dropped scene top sound is.topmost is.no_root
