use Rattle.fx_panes_parts.proofs.ShareLemmas.{share_law}
use Rattle.fx_panes_parts.proofs.levels.share_law.Goals as goal

pub returns : goal.returns
returns c = share_law
