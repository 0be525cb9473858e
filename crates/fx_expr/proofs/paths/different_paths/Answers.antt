-- each turn lists the token's path, if it is another
use Rattle.std.proofs.Common.{◌+◌, ◌∙◌, sym}
use Rattle.fx_expr.proofs.OperandLemmas.{once_none, listed_more, listed_few}
use Rattle.fx_expr.proofs.paths.different_paths.Goals as goal

pub loop-token-init : goal.loop-token-init
loop-token-init c = c.new-paths.ensures.items ∙ sym once_none

pub returns-then-len-gt-PATH_LIMIT-clause-many : goal.returns-then-len-gt-PATH_LIMIT-clause-many
returns-then-len-gt-PATH_LIMIT-clause-many c long =
    listed_few c.args.tokens.now (c.loop-token.token-index + 1) c.add_path.new.paths.items
    (listed_more c.args.tokens.now c.loop-token.token-index c.token-item.result c.loop-token.paths.items c.add_path.new.paths.items c.loop-token-test.true c.token-item.is c.loop-token.invariant c.in_ok-add_path.ensures) long

pub loop-token-preserved : goal.loop-token-preserved
loop-token-preserved c = listed_more c.args.tokens.now c.loop-token.token-index c.token-item.result c.loop-token.paths.items c.add_path.new.paths.items c.loop-token-test.true c.token-item.is c.loop-token.invariant c.in_ok-add_path.ensures
