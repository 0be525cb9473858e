-- what changed at the next places, and what stands in one of the pictures alone
use Rattle.std.proofs.Common.{◌∙◌, ◌++◌, ap, arith, sym}
use Rattle.fx_damage.specs.Changes.{lent}
use Rattle.fx_damage.proofs.ChangeLemmas.{begins_at, nows_end, nows_more, olds_end, olds_more, pair_added}
use Rattle.fx_damage.proofs.changes.add_changed.Goals as goal

pub loop-place-init : goal.loop-place-init
loop-place-init c =
    let both = c.min-both.ensures in
    let left = c.next_changed-place.ensures.before in
    let right = c.next_changed-place.ensures.after in (
      ap (λ l. lent c.args.olds.now.items ++ l) c.next_changed-place.ensures.olds,
      ap (λ l. lent c.args.nows.now.items ++ l) c.next_changed-place.ensures.nows,
      omega arith,
      c.next_changed-place.ensures.changed,
    )

pub loop-place-preserved : goal.loop-place-preserved
loop-place-preserved c =
    let i = c.loop-place.place in
    let before = c.args.before.now in
    let after = c.args.after.now in
    let test = c.loop-place-test.true in
    let both = c.min-both.ensures in
    let left = c.next_changed-place-in-loop-place.ensures.before in
    let right = c.next_changed-place-in-loop-place.ensures.after in
    let e = c.index-before-place.result in
    let f = c.index-after-place.result in
    let changed = sym (begins_at before after i e f (omega arith) (omega arith) c.index-before-place.is c.index-after-place.is) ∙ c.loop-place.invariant.3 in
    let old = pair_added (lent c.loop-place.olds.items) (lent c.add_pair.new.olds.items) e f e changed c.in_ok-add_pair.ensures.olds in
    let now = pair_added (lent c.loop-place.nows.items) (lent c.add_pair.new.nows.items) e f f changed c.in_ok-add_pair.ensures.nows in (
      ap (λ l. lent c.add_pair.new.olds.items ++ l) c.next_changed-place-in-loop-place.ensures.olds
          ∙ (olds_more (lent c.loop-place.olds.items) (lent c.add_pair.new.olds.items) before after i e f (omega arith) (omega arith)
          c.index-before-place.is c.index-after-place.is old ∙ c.loop-place.invariant.0),
      ap (λ l. lent c.add_pair.new.nows.items ++ l) c.next_changed-place-in-loop-place.ensures.nows
          ∙ (nows_more (lent c.loop-place.nows.items) (lent c.add_pair.new.nows.items) before after i e f (omega arith) (omega arith)
          c.index-before-place.is c.index-after-place.is now ∙ c.loop-place.invariant.1),
      omega arith,
      c.next_changed-place-in-loop-place.ensures.changed,
    )

pub returns-clause-olds : goal.returns-clause-olds
returns-clause-olds c =
    let test = c.loop-place-test.false in
    let within = c.loop-place.invariant.2 in
    olds_end (lent c.loop-place.olds.items) (lent c.add_all.new.all.items) c.args.before.now c.args.after.now c.loop-place.place c.min-both.result
    (omega arith) c.min-both.ensures c.in_ok-add_all.ensures
    ∙ c.loop-place.invariant.0

pub returns-clause-nows : goal.returns-clause-nows
returns-clause-nows c =
    let test = c.loop-place-test.false in
    let within = c.loop-place.invariant.2 in
    nows_end (lent c.loop-place.nows.items) (lent c.add_all-2.new.all.items) c.args.before.now c.args.after.now c.loop-place.place c.min-both.result
    (omega arith) c.min-both.ensures c.in_ok-add_all-2.ensures
    ∙ c.loop-place.invariant.1
