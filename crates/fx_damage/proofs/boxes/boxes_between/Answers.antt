-- in order of their numbers they are the same entries
use Rattle.fx_damage.proofs.BoxLemmas.{boxes_sorted}
use Rattle.fx_damage.proofs.boxes.boxes_between.Goals as goal

pub returns : goal.returns
returns c =
    boxes_sorted c.args.window _ _ _ _ _ _ _ c.in_ok-boxes.ensures c.as_slice.ensures.value c.as_slice-2.ensures.value
    c.requires.olds c.requires.nows c.sort_by_birth.ensures.same c.sort_by_birth-2.ensures.same
