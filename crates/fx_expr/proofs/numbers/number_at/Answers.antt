use Rattle.std.proofs.Common.{◌<◌, length, get_or}
use Rattle.std.proofs.lemmas.List.{get_or_read}
use Rattle.fx_base.specs.Names.{name_of}
use Rattle.fx_expr.specs.Meaning.{no_value}
use Rattle.fx_expr.proofs.NumberLemmas.{number_among, value_there}
use Rattle.fx_expr.proofs.numbers.number_at.Goals as goal

pub bounds-values-operands : goal.bounds-values-operands
bounds-values-operands c = c.requires.names _ (number_among c.args.operands.now c.args.place c.requires.place)

pub returns : goal.returns
returns c =
    let names = c.args.operands.now in
    let n = (get_or names c.args.place (name_of 0)).0 in
    let h : n < length c.args.values.now = c.requires.names n (number_among names c.args.place c.requires.place) in
    rw (
      value_there c.args.values.now names c.args.place c.requires.place,
      ← get_or_read c.args.values.now n c.index-values-operands.result h c.index-values-operands.is no_value,
    )
    c.number_of.ensures
