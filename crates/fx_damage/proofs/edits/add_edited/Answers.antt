-- one edit more
use Rattle.std.proofs.Common.{◌<◌, ◌∙◌, ap, length, arith}
use Rattle.fx_damage.specs.Changes.{lent}
use Rattle.fx_damage.specs.declared.edits.Edit.{Edit}
use Rattle.fx_damage.proofs.EditLemmas.{edited_nows, edited_olds, place_within}
use Rattle.fx_damage.proofs.edits.add_edited.Goals as goal

pub entry_at-requires : goal.entry_at-requires
entry_at-requires c =
    let test = c.loop-edit-test.true in
    let within = place_within c.args.edits.now (length c.args.entries.now) c.loop-edit.edit-index c.edit-item.result c.requires (omega arith) in
    let same = ap (λ (e : Edit). e.place) c.edit-item.is in
    omega (arith, within, same)

pub loop-edit-preserved : goal.loop-edit-preserved
loop-edit-preserved c =
    let edits = c.args.edits.now in
    let entries = c.args.entries.now in
    let i = c.loop-edit.edit-index in
    let item = c.edit-item.result in
    let x = c.entry_at.result.now in
    let test : i < length edits = c.loop-edit-test.true in (
      edited_olds (lent c.loop-edit.olds.items) _ edits entries i item x test c.edit-item.is c.requires c.entry_at.ensures
          c.in_ok-add_if_changed.ensures.olds ∙ c.loop-edit.invariant.0,
      edited_nows (lent c.loop-edit.nows.items) _ edits entries i item x test c.edit-item.is c.requires c.entry_at.ensures
          c.in_ok-add_if_changed.ensures.nows ∙ c.loop-edit.invariant.1,
    )
