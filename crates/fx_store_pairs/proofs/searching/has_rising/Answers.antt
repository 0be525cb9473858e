use Rattle.std.proofs.Common.{◌∙◌, arith}
use Rattle.fx_base.specs.Names.{name_of}
use Rattle.fx_store_pairs.proofs.Halving.{found_at, found_past}
use Rattle.fx_store_pairs.proofs.searching.has_rising.Goals as goal

pub returns-then-place-names : goal.returns-then-place-names
returns-then-place-names c =
    c.stands_at.ensures
    ∙ found_at c.args.names.now c.args.name.0 c.count_below-place.result c.count_below-place.ensures
    (name_of 0) c.requires
    (omega (arith, c.if-place-names.true))

pub returns : goal.returns
returns c =
    found_past c.args.names.now c.args.name.0 c.count_below-place.result c.count_below-place.ensures
    (omega (arith, c.if-place-names.false))
