-- the damage of edits is that between what they replace and what they put there
use Rattle.std.proofs.Common.{◌∙◌, List, ap, sym, subst}
use Rattle.fx_picture.specs.declared.entries.Entry.{Entry}
use Rattle.fx_picture.specs.Entries.{HasDistinctBirths}
use Rattle.fx_damage.specs.Damage.{cut_to}
use Rattle.fx_damage.specs.Edits.{entries_of, replaced}
use Rattle.fx_damage.proofs.BoxLemmas.{lent_from_none}
use Rattle.fx_damage.proofs.ChangeLemmas.{boxes_made, distinct_nows, distinct_olds}
use Rattle.fx_damage.proofs.EditLemmas.{changed_edited, put_distinct, replaced_distinct}
use Rattle.fx_damage.proofs.edits.edited_boxes.Goals as goal

pub boxes_between-requires-clause-olds : goal.boxes_between-requires-clause-olds
boxes_between-requires-clause-olds c =
    let edits = c.args.edits.now in
    let olds = c.args.olds.now in
    subst (λ (l : List Entry). HasDistinctBirths l)
    (sym (lent_from_none _ _ _ c.new-changed_olds.ensures.items c.in_ok-add_edited.ensures.olds))
    (distinct_olds (replaced edits olds) (entries_of edits) (replaced_distinct edits olds c.requires.edits c.requires.old))

pub boxes_between-requires-clause-nows : goal.boxes_between-requires-clause-nows
boxes_between-requires-clause-nows c =
    let edits = c.args.edits.now in
    let olds = c.args.olds.now in
    subst (λ (l : List Entry). HasDistinctBirths l)
    (sym (lent_from_none _ _ _ c.new-changed_nows.ensures.items c.in_ok-add_edited.ensures.nows))
    (distinct_nows (replaced edits olds) (entries_of edits) (put_distinct edits olds c.requires.edits c.requires.new))

pub returns : goal.returns
returns c =
    let edits = c.args.edits.now in
    let olds = c.args.olds.now in
    boxes_made c.args.window _ _ _ (replaced edits olds) (entries_of edits) c.in_ok-boxes.ensures
    (lent_from_none _ _ _ c.new-changed_olds.ensures.items c.in_ok-add_edited.ensures.olds)
    (lent_from_none _ _ _ c.new-changed_nows.ensures.items c.in_ok-add_edited.ensures.nows)
    (replaced_distinct edits olds c.requires.edits c.requires.old) (put_distinct edits olds c.requires.edits c.requires.new)
    ∙ ap (cut_to c.args.window) (sym (changed_edited edits olds c.requires.edits c.requires.old c.requires.new))
