use Rattle.std.proofs.Common.{ℕ, List, length, subst}
use Rattle.std.proofs.lemmas.List.{take-replicate}
use Rattle.fx_share.specs.Parts.{IsShare}
use Rattle.fx_grid.proofs.sharing.share_evenly.Goals as goal

pub returns : goal.returns
returns c =
    subst (λ (caps : List ℕ). IsShare c.args.total caps c.share.new.out)
    (take-replicate (length c.args.parts.now) 64 100000 c.requires.few) c.share.ensures
