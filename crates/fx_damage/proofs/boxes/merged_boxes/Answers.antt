-- the next number, and what stands behind it
use Rattle.std.proofs.Common.{◌∙◌, List, drop, subst, sym}
use Rattle.fx_picture.specs.declared.entries.Entry.{Entry}
use Rattle.fx_damage.specs.Births.{RisesStrictly, birth_numbers}
use Rattle.fx_damage.specs.Changes.{lent}
use Rattle.fx_damage.proofs.OrderLemmas.{behind_rises, merge_more, places_left}
use Rattle.fx_damage.proofs.boxes.merged_boxes.Goals as goal

pub loop-birth-smaller : goal.loop-birth-smaller
loop-birth-smaller c =
    places_left (lent c.args.olds.now) (lent c.args.nows.now) c.loop-birth.old_place c.loop-birth.place
    c.take_with-old.new.place c.take_with-now.new.place c.in-Some.birth (sym c.next_birth.ensures ∙ c.in-Some.is)
    c.take_with-old.ensures.rest c.take_with-now.ensures.rest

pub loop-birth-preserved : goal.loop-birth-preserved
loop-birth-preserved c =
    let es = drop c.loop-birth.old_place (lent c.args.olds.now) in
    let fs = drop c.loop-birth.place (lent c.args.nows.now) in
    let b = c.in-Some.birth in
    let rises = λ (l : List Entry). RisesStrictly (birth_numbers l) in (
      merge_more c.args.window c.loop-birth.boxes.items _ es fs _ _ _ _ b c.loop-birth.invariant.1 c.loop-birth.invariant.2
          (sym c.next_birth.ensures ∙ c.in-Some.is) c.take_with-old.ensures.first c.take_with-now.ensures.first
          c.take_with-old.ensures.rest c.take_with-now.ensures.rest c.in_ok-add_boxes.ensures
          ∙ c.loop-birth.invariant.0,
      subst rises (sym c.take_with-old.ensures.rest) (behind_rises b es c.loop-birth.invariant.1),
      subst rises (sym c.take_with-now.ensures.rest) (behind_rises b fs c.loop-birth.invariant.2),
      c.take_with-old.ensures.within,
      c.take_with-now.ensures.within,
    )
