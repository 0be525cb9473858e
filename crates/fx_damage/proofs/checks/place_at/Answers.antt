use Rattle.std.proofs.Common.{sym}
use Rattle.fx_damage.proofs.CheckLemmas.{place_at}
use Rattle.fx_damage.proofs.checks.place_at.Goals as goal

pub returns : goal.returns
returns c = sym (place_at c.args.edits.now c.args.at c.index-edits-at.result c.requires)
