-- all nodes were passed
use Rattle.std.proofs.Common.{arith, length, subst, ◌≡◌}
use Rattle.fx_pulse.specs.Drawing.{drawn}
use Rattle.fx_pulse.specs.Editing.{IsEditedUpTo}
use Rattle.fx_pulse.proofs.EditLemmas.{edit_last}
use Rattle.fx_pulse.proofs.edits.edits_of.Goals as goal

pub returns-clause-edits : goal.returns-clause-edits
returns-clause-edits c =
    let d = drawn c.args.laid in
    let olds = c.args.last.entries.now in
    let es = c.loop-place.editing.edits in
    let count = c.loop-place.editing.count in
    let all : c.loop-place.place ≡ length c.args.laid.boxes.now =
    omega (arith, c.loop-place-test.false, c.loop-place.auto.place-end) in
    (edit_last d c.args.last.marks.now olds es count c.requires.last
    (subst (λ n. IsEditedUpTo d olds n es count) all c.loop-place.invariant)).0

pub returns-clause-picture : goal.returns-clause-picture
returns-clause-picture c =
    let d = drawn c.args.laid in
    let olds = c.args.last.entries.now in
    let es = c.loop-place.editing.edits in
    let count = c.loop-place.editing.count in
    let all : c.loop-place.place ≡ length c.args.laid.boxes.now =
    omega (arith, c.loop-place-test.false, c.loop-place.auto.place-end) in
    (edit_last d c.args.last.marks.now olds es count c.requires.last
    (subst (λ n. IsEditedUpTo d olds n es count) all c.loop-place.invariant)).1
