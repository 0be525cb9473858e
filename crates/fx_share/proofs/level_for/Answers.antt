use Rattle.std.proofs.Common.{arith, inl, refl}
use Rattle.fx_share.proofs.Levels.{filled-zero}
use Rattle.fx_share.proofs.level_for.Goals as goal

pub loop-low-init : goal.loop-low-init
loop-low-init c =
    record { order = omega arith; most = omega arith; enough = omega (arith, filled-zero c.args.caps.now); greatest = inl refl }
