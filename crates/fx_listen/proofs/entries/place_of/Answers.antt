use Rattle.std.proofs.Common.{sym}
use Rattle.fx_listen.specs.Listening.{is_equal}
use Rattle.fx_listen.proofs.Changes.{IsFirst-between, list_any-between, none_equal-above, none_equal-below}
use Rattle.fx_listen.proofs.entries.place_of.Goals as goal

pub returns-in_err-place-clause-none : goal.returns-in_err-place-clause-none
returns-in_err-place-clause-none c =
    let a = c.args in
    let places = c.places_on-first.ensures in
    rw c.from_residual.ensures
    (list_any-between (is_equal a.name.0 a.kind a.owner a.tag) a.listeners.now _ _ places.order places.bound
    (none_equal-below a.name.0 a.kind a.owner a.tag _ _ places.before) (none_equal-above a.name.0 a.kind a.owner a.tag _ _ places.behind)
    (sym c.in_err-place.ensures))

pub returns-clause-first : goal.returns-clause-first
returns-clause-first c =
    let a = c.args in
    let places = c.places_on-first.ensures in
    IsFirst-between (is_equal a.name.0 a.kind a.owner a.tag) a.listeners.now _ _ places.order places.bound
    (none_equal-below a.name.0 a.kind a.owner a.tag _ _ places.before) (none_equal-above a.name.0 a.kind a.owner a.tag _ _ places.behind)
    _ (sym c.in_ok-place.ensures)
