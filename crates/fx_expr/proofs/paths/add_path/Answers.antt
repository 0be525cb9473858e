-- a path that is listed already
use Rattle.std.proofs.Common.{sym, ◌∙◌}
use Rattle.fx_expr.proofs.OperandLemmas.{known_path}
use Rattle.fx_expr.proofs.paths.add_path.Goals as goal

pub returns-then-contains : goal.returns-then-contains
returns-then-contains c =
    known_path c.args.paths.now.items c.in-Path.names c.args.token.now c.in-Path.is (rw c.as_slice.ensures.value at (sym c.contains.ensures ∙ c.if-contains.true))
