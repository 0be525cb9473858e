-- what may have changed has distinct numbers, and gives all boxes
use Rattle.std.proofs.Common.{List, sym, subst}
use Rattle.fx_picture.specs.declared.entries.Entry.{Entry}
use Rattle.fx_picture.specs.Entries.{HasDistinctBirths}
use Rattle.fx_damage.proofs.BoxLemmas.{lent_from_none}
use Rattle.fx_damage.proofs.ChangeLemmas.{boxes_made, distinct_nows, distinct_olds}
use Rattle.fx_damage.proofs.boxes.changed_boxes.Goals as goal

pub boxes_between-requires-clause-olds : goal.boxes_between-requires-clause-olds
boxes_between-requires-clause-olds c =
    subst (λ (l : List Entry). HasDistinctBirths l)
    (sym (lent_from_none _ _ _ c.new-changed_olds.ensures.items c.in_ok-add_changed.ensures.olds))
    (distinct_olds c.args.olds.now c.args.nows.now c.requires.olds)

pub boxes_between-requires-clause-nows : goal.boxes_between-requires-clause-nows
boxes_between-requires-clause-nows c =
    subst (λ (l : List Entry). HasDistinctBirths l)
    (sym (lent_from_none _ _ _ c.new-changed_nows.ensures.items c.in_ok-add_changed.ensures.nows))
    (distinct_nows c.args.olds.now c.args.nows.now c.requires.nows)

pub returns : goal.returns
returns c =
    boxes_made c.args.window _ _ _ c.args.olds.now c.args.nows.now c.in_ok-boxes.ensures
    (lent_from_none _ _ _ c.new-changed_olds.ensures.items c.in_ok-add_changed.ensures.olds)
    (lent_from_none _ _ _ c.new-changed_nows.ensures.items c.in_ok-add_changed.ensures.nows) c.requires.olds c.requires.nows
