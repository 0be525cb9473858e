-- the entry at the place is the first of those from it on
use Rattle.std.proofs.Common.{◌∙◌, ap, sym}
use Rattle.fx_damage.specs.Births.{behind, first_with}
use Rattle.fx_damage.proofs.OrderLemmas.{leaves_first, leaves_rest, lent_end, same_birth, takes_first, takes_rest}
use Rattle.fx_damage.proofs.ordering.take_with.Goals.{else-at-entries-via-then-at-entries+else-entries-at, else-at-entries-via-else-at-entries}
use Rattle.fx_damage.proofs.ordering.take_with.Goals as goal

pub returns-then-entries-at-clause-first : goal.returns-then-entries-at-clause-first
returns-then-entries-at-clause-first c =
    let r = c.index-entries-at-then-entries-at.result in
    let is = c.index-entries-at-then-entries-at.is in
    takes_first c.args.entries.now c.args.place.now c.args.birth r c.if-at-entries.true is
    (same_birth c.args.entries.now c.args.place.now c.args.birth r c.index-entries-at.result c.if-at-entries.true is c.if-entries-at.true)

pub returns-then-entries-at-clause-rest : goal.returns-then-entries-at-clause-rest
returns-then-entries-at-clause-rest c =
    let r = c.index-entries-at-then-entries-at.result in
    let is = c.index-entries-at-then-entries-at.is in
    takes_rest c.args.entries.now c.args.place.now c.args.birth r c.if-at-entries.true is
    (same_birth c.args.entries.now c.args.place.now c.args.birth r c.index-entries-at.result c.if-at-entries.true is c.if-entries-at.true)

pub returns-clause-first : goal.returns-clause-first
returns-clause-first c =
    let rs = c.args.entries.now in
    let i = c.args.place.now in
    let b = c.args.birth in
    elim c.else-at-entries.branch [
      | else-at-entries-via-then-at-entries+else-entries-at w ↦ leaves_first rs i b w.index-entries-at.result w.if-at-entries.true
          w.index-entries-at.is w.if-entries-at.false
      | else-at-entries-via-else-at-entries w ↦ ap (first_with b) (sym (lent_end rs i w.if-at-entries.false))
    ]

pub returns-clause-rest : goal.returns-clause-rest
returns-clause-rest c =
    let rs = c.args.entries.now in
    let i = c.args.place.now in
    let b = c.args.birth in
    elim c.else-at-entries.branch [
      | else-at-entries-via-then-at-entries+else-entries-at w ↦ leaves_rest rs i b w.index-entries-at.result w.if-at-entries.true
          w.index-entries-at.is w.if-entries-at.false
      | else-at-entries-via-else-at-entries w ↦ (let none = lent_end rs i w.if-at-entries.false in none ∙ sym (ap (behind b) none))
    ]
