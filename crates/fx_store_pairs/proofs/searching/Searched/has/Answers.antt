use Rattle.std.proofs.Common.{sym, ◌∙◌}
use Rattle.fx_store_pairs.proofs.Halving.{rising_names}
use Rattle.fx_store_pairs.proofs.searching.Searched.has.Goals as goal

pub has_rising-requires : goal.has_rising-requires
has_rising-requires c = rising_names 0 c.self.inside.names.now (sym c.self.invariant ∙ c.if-self.true)
