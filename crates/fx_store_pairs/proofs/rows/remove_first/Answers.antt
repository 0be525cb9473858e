-- the first of them stands at the place, if there is one
use Rattle.std.proofs.Common.{sym, ap, ◌∙◌}
use Rattle.fx_base.specs.Names.{numbers}
use Rattle.fx_store_pairs.proofs.RowSteps.{first_removed, nothing_removed}
use Rattle.fx_store_pairs.proofs.rows.remove_first.Goals as goal

pub returns-in-Some : goal.returns-in-Some
returns-in-Some c =
    ap numbers c.remove.ensures.items
    ∙ first_removed c.args.other.0 c.args.others.now.items c.in-Some.place
    (rw c.as_slice.ensures.value at (sym c.place_of.ensures ∙ c.in-Some.is))

pub returns-in_default : goal.returns-in_default
returns-in_default c =
    nothing_removed c.args.other.0 c.args.others.now.items
    (rw c.as_slice.ensures.value at (sym c.place_of.ensures ∙ c.in_default.is))
