-- signs of one strength, to the left, and the strengths in turn
use Rattle.std.proofs.Common.{◌≡◌, ◌-◌, ◌+◌, length, sym, ◌∙◌, arith}
use Rattle.std.proofs.lemmas.Result.{err_from_is_err_and}
use Rattle.fx_expr.specs.Tree.{tree}
use Rattle.fx_expr.specs.Reading.{operand_of}
use Rattle.fx_expr.proofs.LevelSteps.{fails_on, more_some, more_none, more_stops, more_ends, turns_left}
use Rattle.fx_expr.proofs.RiseLemmas.{level_fails, level_starts, level_turn, turn_fails, level_ends}
use Rattle.fx_expr.proofs.grouping.+grouping.Goals as goal

pub level-returns-in_err-first : goal.level-returns-in_err-first
level-returns-in_err-first t c =
    let p = err_from_is_err_and c.from_residual.result c.from_residual.ensures.1 in
    rw (p.1, p.2) (fails_on c.in_err-first.field-0.0 _ _ c.in_err-first.ensures
    (level_fails (operand_of c.args.paths.now c.args.depth) c.args.strength c.args.tokens.now))

pub level-returns-in_err-more : goal.level-returns-in_err-more
level-returns-in_err-more t c =
    let p = err_from_is_err_and c.from_residual-in_err-more.result c.from_residual-in_err-more.ensures.1 in
    let start = level_starts (operand_of c.args.paths.now c.args.depth) c.args.strength c.args.tokens.now
    c.in_ok-first.behind.now (tree c.in_ok-first.first) c.in_ok-first.ensures in
    rw (p.1, p.2) (fails_on c.in_err-more.field-0.0 _ _ c.in_err-more.ensures
    (λ e. start ∙ (sym c.loop-next.invariant.1 ∙ turn_fails (operand_of c.args.paths.now c.args.depth) c.loop-next.done
    c.args.strength c.in-Some.next (tree c.loop-next.left) c.loop-next.rest.now c.loop-next.invariant.0
    c.in-Some.ensures.found e)))

pub level-loop-next-preserved : goal.level-loop-next-preserved
level-loop-next-preserved t c = (
  c.in-Some.ensures.found.2,
  sym (level_turn (operand_of c.args.paths.now c.args.depth) c.loop-next.done c.args.strength c.in-Some.next
      (tree c.loop-next.left) (tree c.in_ok-more.more) c.loop-next.rest.now c.in_ok-more.after.now
      c.loop-next.invariant.0 c.in-Some.ensures.found c.in_ok-more.ensures)
      ∙ c.loop-next.invariant.1,
)

pub level-returns : goal.level-returns
level-returns t c =
    let start = level_starts (operand_of c.args.paths.now c.args.depth) c.args.strength c.args.tokens.now
    c.in_ok-first.behind.now (tree c.in_ok-first.first) c.in_ok-first.ensures in
    start ∙ (sym c.loop-next.invariant.1 ∙ level_ends (operand_of c.args.paths.now c.args.depth) c.loop-next.done
    c.args.strength (tree c.loop-next.left) c.loop-next.rest.now c.loop-next.invariant.0 c.in_default.ensures.none)

pub more_operands-returns-in_err-right-in-Some : goal.more_operands-returns-in_err-right-in-Some
more_operands-returns-in_err-right-in-Some t c =
    let p = err_from_is_err_and c.from_residual.result c.from_residual.ensures.1 in
    rw (p.1, p.2) (fails_on c.in_err-right-in-Some.field-0.0 _ _ c.in_err-right-in-Some.ensures
    (λ e. sym c.loop.invariant ∙ more_none _ c.args.strength (length c.args.tokens.now - c.loop.counter)
    (length c.args.tokens.now - (c.loop.counter + 1)) (tree c.loop.left) c.loop.rest.now c.in-Some.next.now
    c.in-Some.sign
    (turns_left (length c.args.tokens.now) c.loop.counter c.loop-test.true) (sym c.in-Some.ensures) e))

pub more_operands-returns-in-None : goal.more_operands-returns-in-None
more_operands-returns-in-None t c =
    sym c.loop.invariant ∙ more_stops _ c.args.strength (length c.args.tokens.now - c.loop.counter)
    (tree c.loop.left) c.loop.rest.now (sym c.in-None.ensures)

pub more_operands-loop-preserved : goal.more_operands-loop-preserved
more_operands-loop-preserved t c =
    rw c.in_ok-left-in-Some.ensures
    (sym (more_some _ c.args.strength (length c.args.tokens.now - c.loop.counter)
    (length c.args.tokens.now - (c.loop.counter + 1)) (tree c.loop.left)
    (tree c.in_ok-right-in-Some.right) c.loop.rest.now c.in-Some.next.now c.in_ok-right-in-Some.after.now c.in-Some.sign
    (turns_left (length c.args.tokens.now) c.loop.counter c.loop-test.true)
    (sym c.in-Some.ensures) c.in_ok-right-in-Some.ensures) ∙ c.loop.invariant)

pub more_operands-returns : goal.more_operands-returns
more_operands-returns t c =
    let over : length c.args.tokens.now - c.loop.counter ≡ 0 = omega arith in
    sym c.loop.invariant ∙ more_ends _ c.args.strength (length c.args.tokens.now - c.loop.counter)
    (tree c.loop.left) c.loop.rest.now over
