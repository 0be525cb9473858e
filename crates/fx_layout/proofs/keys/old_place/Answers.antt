use Rattle.fx_layout.proofs.Olds.{old_place_is}
use Rattle.std.proofs.Common.{refl, sym}
use Rattle.fx_layout.proofs.keys.old_place.Goals as goal

pub returns-then-stands_at-clause-place : goal.returns-then-stands_at-clause-place
returns-then-stands_at-clause-place c =
    sym (old_place_is c.args.old.now c.args.key c.args.guess c.requires (c.if-stands_at.ensures.within refl)
    (c.if-stands_at.ensures.key refl))
