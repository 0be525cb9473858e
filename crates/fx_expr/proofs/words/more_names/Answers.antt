-- each turn takes a point and a name
use Rattle.std.proofs.Common.{◌≡◌, ◌-◌, ◌+◌, length, sym, ◌∙◌, ap, arith, rules, Some}
use Rattle.std.proofs.lemmas.List.{append-nil}
use Rattle.std.proofs.lemmas.Result.{err_from_is_err_and}
use Rattle.std.specs.Str.{chars}
use Rattle.fx_expr.specs.Scanning.{with_names}
use Rattle.fx_expr.proofs.LevelSteps.{fails_on, names_more, names_fail, names_stop, names_end, turns_left}
use Rattle.fx_expr.proofs.words.more_names.Goals as goal

pub returns-in-None : goal.returns-in-None
returns-in-None c =
    sym c.loop.invariant.1
    ∙ (ap (λ o. with_names c.loop.names.items o) (names_stop (length (chars c.args.text.now) - c.loop.counter)
    (chars c.loop.rest.now) c.in-None.ensures.none)
    ∙ ap (λ t. Some (t, chars c.loop.rest.now)) (append-nil c.loop.names.items))

pub returns-in_err-next-in-Some : goal.returns-in_err-next-in-Some
returns-in_err-next-in-Some c =
    let p = err_from_is_err_and c.from_residual.result c.from_residual.ensures.1 in
    rw (p.1, p.2) (fails_on c.in_err-next-in-Some.field-0.0 _ _
    (rw c.in-Some.ensures.some.1 at c.in_err-next-in-Some.ensures)
    (λ e. names_fail (length (chars c.args.text.now) - c.loop.counter)
    (length (chars c.args.text.now) - (c.loop.counter + 1)) (chars c.loop.rest.now) c.loop.names.items _
    (turns_left (length (chars c.args.text.now)) c.loop.counter (rw c.character_count-end.ensures at c.loop-test.true))
    c.in-Some.ensures.some.0 e c.loop.invariant.1))

pub loop-preserved : goal.loop-preserved
loop-preserved c = (
  search rules,
  rw c.in_ok-push-in-Some.ensures.items
      (names_more (length (chars c.args.text.now) - c.loop.counter)
      (length (chars c.args.text.now) - (c.loop.counter + 1)) (chars c.loop.rest.now)
      (chars c.in_ok-next-in-Some.after.now) c.in_ok-next-in-Some.next c.loop.names.items _
      (turns_left (length (chars c.args.text.now)) c.loop.counter
      (rw c.character_count-end.ensures at c.loop-test.true)) c.in-Some.ensures.some.0
      (rw c.in-Some.ensures.some.1 at c.in_ok-next-in-Some.ensures) c.loop.invariant.1),
)

pub returns : goal.returns
returns c =
    let all = c.character_count-end.ensures in
    let over : length (chars c.args.text.now) - c.loop.counter ≡ 0 = omega arith in
    sym c.loop.invariant.1
    ∙ (ap (λ o. with_names c.loop.names.items o) (names_end (length (chars c.args.text.now) - c.loop.counter)
    (chars c.loop.rest.now) over)
    ∙ ap (λ t. Some (t, chars c.loop.rest.now)) (append-nil c.loop.names.items))
