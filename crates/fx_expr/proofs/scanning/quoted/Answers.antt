-- each turn takes a character, until the quote
use Rattle.std.proofs.Common.{◌≡◌, ◌-◌, ◌+◌, length, sym, ◌∙◌, ap, arith, ℕ, rules}
use Rattle.std.specs.Str.{chars}
use Rattle.std.specs.String.{string_bytes}
use Rattle.fx_expr.specs.Scanning.{quoted_at, end_at, with_front}
use Rattle.fx_expr.proofs.LevelSteps.{quoted_more, quoted_ends, quoted_over, turns_left}
use Rattle.fx_expr.proofs.scanning.quoted.Goals as goal

pub returns-in-None : goal.returns-in-None
returns-in-None c =
    let k : ℕ = length (chars c.args.text.now) - c.loop.counter in
    let e : with_front (string_bytes c.loop.content) (end_at c.args.quote (chars c.loop.rest.now))
    ≡ quoted_at (length (chars c.args.text.now)) c.args.quote (chars c.args.text.now)
    = ap (λ o. with_front (string_bytes c.loop.content) o) (sym
    (quoted_ends c.args.quote k (chars c.loop.rest.now) (sym c.in-None.ensures))) ∙ c.loop.invariant.1 in
    rw e at c.end.ensures

pub loop-preserved : goal.loop-preserved
loop-preserved c = (
  search rules,
  rw c.in_ok-push-in-Some.ensures.bytes
      (quoted_more c.args.quote (length (chars c.args.text.now) - c.loop.counter)
      (length (chars c.args.text.now) - (c.loop.counter + 1)) (chars c.loop.rest.now) (chars c.in-Some.behind.now)
      (string_bytes c.loop.content) c.in-Some.c _
      (turns_left (length (chars c.args.text.now)) c.loop.counter
      (rw c.character_count-end.ensures at c.loop-test.true)) (sym c.in-Some.ensures) c.loop.invariant.1),
)

pub returns : goal.returns
returns c =
    let k : ℕ = length (chars c.args.text.now) - c.loop.counter in
    let all = c.character_count-end.ensures in
    let over : k ≡ 0 = omega arith in
    let e : with_front (string_bytes c.loop.content) (end_at c.args.quote (chars c.loop.rest.now))
    ≡ quoted_at (length (chars c.args.text.now)) c.args.quote (chars c.args.text.now)
    = ap (λ o. with_front (string_bytes c.loop.content) o) (sym
    (quoted_over c.args.quote k (chars c.loop.rest.now) over)) ∙ c.loop.invariant.1 in
    rw e at c.end-2.ensures
