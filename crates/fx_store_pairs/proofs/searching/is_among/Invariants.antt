use Rattle.std.proofs.Common.{◌≡◌, drop}
use Rattle.fx_base.specs.Names.{numbers}
use Rattle.fx_store_pairs.specs.Pairs.{is_among}
use Rattle.fx_store_pairs.proofs.searching.is_among.Given as goal

abbrev pub invariant-loop-other : goal.invariant-loop-other
invariant-loop-other l =
    is_among (numbers (drop l.other-index l.names)) l.name.0 ≡ is_among (numbers l.names) l.name.0
