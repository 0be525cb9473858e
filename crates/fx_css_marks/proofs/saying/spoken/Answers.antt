-- Each turn takes a part and the run behind it; at the end nothing is left.
use Rattle.std.proofs.Common.{◌≤◌, ◌+◌, ◌≡◌, length, arith}
use Rattle.std.proofs.lemmas.List.{nil_from_length}
use Rattle.fx_css_marks.proofs.Sayings.{says_empty, said_whole, said_same}
use Rattle.fx_css_marks.proofs.saying.spoken.Goals as goal

pub loop-first-init : goal.loop-first-init
loop-first-init c = c.in_ok-rest.ensures.took.says c.args.text.now (says_empty c.in_ok-said.said c.args.text.now c.in_ok-said.ensures.bytes c.in_ok-said.ensures.signs)

pub loop-first-smaller : goal.loop-first-smaller
loop-first-smaller c =
    let part : length c.in_ok-left.left.now ≤ length c.in-Some.behind.now = c.in_ok-left.ensures.within in
    let run : length c.in_ok-rest-2.rest.now ≤ length c.in_ok-left.left.now = c.in_ok-rest-2.ensures.within in
    let first : length c.in-Some.behind.now + 1 ≡ length c.loop-first.rest.now = c.in-Some.ensures.cases.1 in
    omega (arith, part, run, first)

pub returns-clause-said : goal.returns-clause-said
returns-clause-said c = said_whole c.args.text.now c.loop-first.rest.now c.loop-first.said c.loop-first.invariant (nil_from_length c.loop-first.rest.now c.in_default.ensures.cases)

pub returns-clause-same : goal.returns-clause-same
returns-clause-same c = said_same c.args.text.now c.loop-first.rest.now c.loop-first.said c.loop-first.invariant (nil_from_length c.loop-first.rest.now c.in_default.ensures.cases)
