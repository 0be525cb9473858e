-- the nesting and the strength that are left, and what is read of the rest
use Rattle.std.proofs.Common.{◌≡◌, ◌≤◌, ◌+◌, ◌-◌, ◌*◌, length}
use Rattle.fx_expr.specs.Tree.{tree}
use Rattle.fx_expr.specs.Reading.{level_of, more_of, operand_of}
use Rattle.fx_expr.proofs.RiseLemmas.{rise}
use Rattle.fx_expr.proofs.grouping.+grouping.Given as goal

abbrev pub decreases-level : goal.decreases-level
decreases-level l = 16 * l.depth + 2 * l.strength + 1

abbrev pub decreases-more_operands : goal.decreases-more_operands
decreases-more_operands l = 16 * l.depth + 2 * l.strength

abbrev pub decreases-operand : goal.decreases-operand
decreases-operand l = 16 * l.depth

abbrev pub decreases-level-loop-next : goal.decreases-level-loop-next
decreases-level-loop-next l = l.strength - l.done

abbrev pub invariant-level-loop-next : goal.invariant-level-loop-next
invariant-level-loop-next l = (l.done ≤ l.strength)
    × (rise (operand_of l.paths l.depth) l.done (l.strength - l.done) (tree l.left) l.rest
    ≡ rise (operand_of l.paths l.depth) 0 l.strength (tree l.initial.left) l.initial.rest)

abbrev pub invariant-more_operands-loop : goal.invariant-more_operands-loop
invariant-more_operands-loop l = more_of (level_of l.paths l.depth (l.strength - 1)) l.strength
    (length l.tokens - l.counter) (tree l.left) l.rest
    ≡ more_of (level_of l.paths l.depth (l.strength - 1)) l.strength (length l.tokens) (tree l.fn.first) l.tokens
