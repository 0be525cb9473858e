-- those so far keep within the limits
use Rattle.std.proofs.Common.{All, take}
use Rattle.fx_css_types.specs.Limits.{IsKeptDeclaration}
use Rattle.fx_css_limits.proofs.declarations.are_kept.Given as goal

abbrev pub invariant-loop-declaration : goal.invariant-loop-declaration
invariant-loop-declaration l = All IsKeptDeclaration (take l.declaration-index l.declarations)
