use Rattle.fx_listen.proofs.Finding.{elsewhere_around, first_before_next, found_between}
use Rattle.fx_listen.proofs.entries.places_on.Goals as goal

pub returns-clause-order : goal.returns-clause-order
returns-clause-order c =
    let below = c.count_below.ensures in
    let upto = c.count_upto.ensures in
    first_before_next c.args.name.0 _ _ _ below.bound upto.bound below.front below.rest upto.front upto.rest

pub returns-clause-found : goal.returns-clause-found
returns-clause-found c =
    let below = c.count_below.ensures in
    let upto = c.count_upto.ensures in
    found_between c.args.name.0 _ _ _ below.bound upto.bound below.front below.rest upto.front upto.rest

pub returns-clause-others : goal.returns-clause-others
returns-clause-others c =
    let below = c.count_below.ensures in
    let upto = c.count_upto.ensures in
    elsewhere_around c.args.name.0 _ _ _ below.bound upto.bound below.front below.rest upto.front upto.rest
