-- each line takes what it gives from what is left
use Rattle.std.proofs.Common.{◌∙◌, ◌+◌, sym, ap, subst, arith}
use Rattle.fx_delta.specs.Stream.{Shown, shown}
use Rattle.fx_port.specs.Pieces.{GrewUpTo}
use Rattle.fx_port.proofs.Growth.{goes_on, reaches_end, stops_within, up_to_start, Writes-at_err}
use Rattle.fxview.proofs.ShowLemmas.{left_of, left_of-first, left_of-good, left_of-bad, left_of-begins}
use Rattle.fxview.proofs.streams.put_shown.Goals as goal

pub loop-line-init : goal.loop-line-init
loop-line-init g c =
    let w = g.O.Sink.written c.args.out.now in
    let is = left_of-first c.args.stream.now c.new-viewer.result c.new-viewer.ensures in
    let Grew : Shown → Type 0 = λ s. GrewUpTo w w (shown c.args.stream.now).bytes s.bytes in
    record {
      later = omega arith;
      written = subst Grew (sym is) (up_to_start w (shown c.args.stream.now).bytes);
      bad = ap (λ (s : Shown). s.bad) is;
      few = omega arith;
    }

pub loop-line-preserved : goal.loop-line-preserved
loop-line-preserved g c =
    let sink = g.O.Sink in
    let gave = left_of-good (sink.written c.loop-line.out) (sink.written c.put_line.new.out) c.loop-line.number c.loop-line.viewer c.put_line.new.viewer
    c.in-Some.line.now c.loop-line.rest.now c.in-Some.behind.now c.in-Some.ensures.0 (rw c.if-not-good.false at c.in_ok-good.ensures.gave) in
    record {
      later = omega (arith, c.in_ok-good.ensures.cause.later);
      written = goes_on gave.given (left_of (c.loop-line.number + 1) c.put_line.new.viewer c.in-Some.behind.now).bytes c.loop-line.invariant.written gave.bytes gave.grew;
      bad = sym gave.bad ∙ c.loop-line.invariant.bad;
      few = omega (arith, c.in-Some.ensures.1);
    }

pub returns-then-not-good-clause-writes : goal.returns-then-not-good-clause-writes
returns-then-not-good-clause-writes g c =
    let gave = rw c.if-not-good.true at c.in_ok-good.ensures.gave in
    let bad = left_of-bad c.loop-line.number c.loop-line.viewer c.in-Some.line.now c.loop-line.rest.now c.in-Some.behind.now c.in-Some.ensures.0 gave.0 in
    record { ok = gave.1 ∙ reaches_end c.loop-line.invariant.written bad.0; err = tt }

pub returns-then-not-good-clause-bad : goal.returns-then-not-good-clause-bad
returns-then-not-good-clause-bad g c =
    let gave = rw c.if-not-good.true at c.in_ok-good.ensures.gave in
    let bad = left_of-bad c.loop-line.number c.loop-line.viewer c.in-Some.line.now c.loop-line.rest.now c.in-Some.behind.now c.in-Some.ensures.0 gave.0 in
    sym bad.1 ∙ c.loop-line.invariant.bad

pub returns-in_err-good-clause-writes : goal.returns-in_err-good-clause-writes
returns-in_err-good-clause-writes g c =
    let begins = left_of-begins c.loop-line.number c.loop-line.viewer c.in-Some.line.now c.loop-line.rest.now c.in-Some.behind.now c.in-Some.ensures.0 in
    Writes-at_err _ c.from_residual.result c.from_residual.ensures.1
    (stops_within begins.0 c.loop-line.invariant.written begins.1 c.in_err-good.ensures.gave)
