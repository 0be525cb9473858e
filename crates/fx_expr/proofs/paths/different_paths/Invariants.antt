-- the different paths of the tokens so far
use Rattle.std.proofs.Common.{◌≡◌, take}
use Rattle.fx_expr.specs.Operands.{once, paths_in}
use Rattle.fx_expr.proofs.paths.different_paths.Given as goal

abbrev pub invariant-loop-token : goal.invariant-loop-token
invariant-loop-token l = l.paths.items ≡ once (paths_in (take l.token-index l.tokens))
