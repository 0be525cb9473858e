-- one edit more
use Rattle.std.proofs.Common.{◌≡◌, ◌∙◌, ◌++◌, ◌∷◌, ◌+◌, ◌<◌, [], List, ap, arith, get_or, length, set, sym, take}
use Rattle.std.proofs.lemmas.List.{get_or-set_other, length-set, take_more}
use Rattle.fx_damage.specs.Edits.{edited}
use Rattle.fx_damage.specs.declared.edits.Edit.{Edit}
use Rattle.fx_picture.specs.declared.entries.Entry.{Entry}
use Rattle.fx_pulse.proofs.EditLemmas.{edited_more}
use Rattle.fx_pulse.proofs.edit_lists.put_all.Goals as goal

pub loop-at-preserved : goal.loop-at-preserved
loop-at-preserved c =
    let all = c.args.edits.now in
    let at = c.loop-at.at in
    let olds = c.args.entries.now.items in
    let so = c.loop-at.invariant in
    let read = c.index-edits-at.result in
    let edit = get_or c.loop-at.edits at read in
    let within : at < length all = omega (arith, c.loop-at-test.true, c.requires) in
    let more : take at all ++ edit ∷ [] ≡ take (at + 1) all =
    ap (λ (e : Edit). take at all ++ e ∷ []) (so.left at read (omega arith)) ∙ sym (take_more all at read within) in
    record {
      made = c.put_one.ensures
          ∙ (ap (λ (l : List Entry). set l edit.place edit.entry) so.made
          ∙ (sym (edited_more (take at all) edit olds) ∙ ap (λ es. edited es olds) more));
      left = λ k d past.
          get_or-set_other c.loop-at.edits at k c.put_one.new.edit d (λ e. omega (arith, past, e))
          ∙ so.left k d (omega (arith, past));
      long = length-set c.loop-at.edits at c.put_one.new.edit ∙ so.long;
    }
