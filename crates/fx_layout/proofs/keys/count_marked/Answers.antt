use Rattle.std.proofs.Common.{ap, ◌∙◌, ◌≡◌, ◌<◌, ◌≤◌, ℕ, cond, length, arith}
use Rattle.fx_layout_sweeps.specs.Marks.{flag_in}
use Rattle.fx_layout_sweeps.proofs.Tallies.{tally_between, tally_more}
use Rattle.fx_layout.proofs.keys.count_marked.Goals as goal

pub loop-place-preserved : goal.loop-place-preserved
loop-place-preserved c =
    let flags = flag_in c.args.marks.now in
    let place = c.in-Some.place in
    let found = c.in-Some.ensures in
    let within : place < length c.args.nodes.now = omega (arith, found.1, c.requires.marks) in
    let passed = tally_between flags c.loop-place.from place found.0 found.3 in
    let one = ap {B = ℕ} (λ b. cond b 1 0) found.2 in (
      omega (arith, c.loop-place.invariant.0, tally_more flags place, passed, one),
      omega (arith, c.loop-place.invariant.1, found.0),
      omega (arith, within),
    )

pub returns-clause-count : goal.returns-clause-count
returns-clause-count c =
    let flags = flag_in c.args.marks.now in
    let whole : length c.args.marks.now ≡ length c.args.nodes.now = c.requires.marks in
    let rest = tally_between flags c.loop-place.from (length c.args.nodes.now) c.loop-place.invariant.2
    (λ q late within. c.in_default.ensures q late (omega (arith, within, whole))) in
    omega (arith, c.loop-place.invariant.0, rest)

pub returns-clause-few : goal.returns-clause-few
returns-clause-few c =
    omega (arith, c.loop-place.invariant.1, c.loop-place.invariant.2, c.requires.nodes.few)
