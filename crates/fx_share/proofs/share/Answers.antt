use Rattle.std.proofs.Common.{◌≡◌, ◌-◌, arith}
use Rattle.fx_share.specs.declared.TheConstants.{MOST}
use Rattle.fx_share.specs.Levels.{filled}
use Rattle.fx_share.proofs.Levels.{IsShare-levelled}
use Rattle.fx_share.proofs.share.Goals as goal

pub returns : goal.returns
returns c =
    let found = c.level_for-level.ensures in
    let rest : c.args.total - c.taken.result ≡ c.args.total - filled c.level_for-level.result c.args.caps.now = omega (arith, found.enough) in
    rw (c.give.ensures, rest) (IsShare-levelled MOST c.args.total _ c.args.caps.now found.enough c.requires.small_caps found.greatest)
