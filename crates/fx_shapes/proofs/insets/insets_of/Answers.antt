use Rattle.std.proofs.Common.{subst, sym}
use Rattle.fx_shapes.specs.Rects.{AreLimited}
use Rattle.fx_shapes.proofs.RectLemmas.{insets_limited}
use Rattle.fx_shapes.proofs.insets.insets_of.Goals as goal

pub returns-clause-within : goal.returns-clause-within
returns-clause-within c = subst AreLimited (sym c.insets_of.ensures) (insets_limited c.args.look.now)
