-- each turn takes a token and the white behind it
use Rattle.std.proofs.Common.{◌≡◌, ◌-◌, ◌+◌, length, arith}
use Rattle.std.proofs.lemmas.Result.{err_from_is_err_and}
use Rattle.std.specs.Str.{chars}
use Rattle.fx_expr.proofs.LevelSteps.{fails_on, tokens_more, tokens_fail, tokens_end, tokens_left, turns_left}
use Rattle.fx_expr.proofs.ScanSteps.{begins}
use Rattle.fx_expr.proofs.scanning.scan.Goals as goal

pub returns-in-None : goal.returns-in-None
returns-in-None c = tokens_end (length (chars c.args.text.now) - c.loop.counter)
    (chars c.loop.rest.now) c.loop.tokens.items _ c.in-None.ensures.none c.loop.invariant.1

pub returns-in_err-next-in-Some : goal.returns-in_err-next-in-Some
returns-in_err-next-in-Some c =
    let p = err_from_is_err_and c.from_residual-in_err-next-in-Some.result
    c.from_residual-in_err-next-in-Some.ensures.1 in
    rw (p.1, p.2) (fails_on c.in_err-next-in-Some.field-0.0 _ _ c.in_err-next-in-Some.ensures
    (λ e. tokens_fail (length (chars c.args.text.now) - c.loop.counter)
    (length (chars c.args.text.now) - (c.loop.counter + 1)) (chars c.loop.rest.now) c.loop.tokens.items _
    (turns_left (length (chars c.args.text.now)) c.loop.counter (rw c.character_count-end.ensures at c.loop-test.true))
    (begins _ _ _ c.in-Some.ensures.some) e c.loop.invariant.1))

pub loop-preserved : goal.loop-preserved
loop-preserved c = (
  c.past_white-rest-in-Some.utf8,
  rw (c.in_ok-push-in-Some.ensures.items, c.past_white-rest-in-Some.ensures)
      (tokens_more (length (chars c.args.text.now) - c.loop.counter)
      (length (chars c.args.text.now) - (c.loop.counter + 1)) (chars c.loop.rest.now)
      (chars c.in_ok-next-in-Some.after.now) c.in_ok-next-in-Some.next c.loop.tokens.items _
      (turns_left (length (chars c.args.text.now)) c.loop.counter
      (rw c.character_count-end.ensures at c.loop-test.true))
      (begins _ _ _ c.in-Some.ensures.some) c.in_ok-next-in-Some.ensures c.loop.invariant.1),
)

pub returns-in-None-first : goal.returns-in-None-first
returns-in-None-first c = tokens_end (length (chars c.args.text.now) - c.loop.counter)
    (chars c.loop.rest.now) c.loop.tokens.items _ c.in-None-first.ensures.none c.loop.invariant.1

pub returns-in-Some-first : goal.returns-in-Some-first
returns-in-Some-first c =
    let all = c.character_count-end.ensures in
    let over : length (chars c.args.text.now) - c.loop.counter ≡ 0 = omega arith in
    tokens_left (length (chars c.args.text.now) - c.loop.counter) (chars c.loop.rest.now) c.loop.tokens.items _ over
    (begins _ _ _ c.in-Some-first.ensures.some) c.loop.invariant.1
