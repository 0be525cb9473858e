-- no part yet, and one part more
use Rattle.std.proofs.Common.{sym, refl}
use Rattle.std.proofs.lemmas.List.{append-nil}
use Rattle.fx_scene_elements.specs.Lists.{list_asked}
use Rattle.fx_scene_elements.proofs.PartLemmas.{list_acts_more, list_names_more, list_stops_more}
use Rattle.fx_scene_things.specs.Known.{known}
use Rattle.fx_scene_values.specs.Views.{scope_view}
use Rattle.fx_scene_elements.proofs.lists.add_entries.Goals as goal

pub loop-item-init : goal.loop-item-init
unfolding list_asked
loop-item-init c = (sym (append-nil c.args.acts.now.items), refl, refl)

pub loop-item-preserved : goal.loop-item-preserved
loop-item-preserved c =
    let scope = scope_view c.args.scope.now in
    let first = known c.args.names.now in
    let names = known c.loop-item.names in (
      list_acts_more c.args.entry scope c.args.node first c.args.content.now c.loop-item.item-index c.item-item.result
          c.loop-item.stopped c.args.acts.now.items c.loop-item.acts.items c.add_next.new.acts.items names
          c.loop-item-test.true c.item-item.is c.loop-item.invariant.0 c.loop-item.invariant.1
          c.loop-item.invariant.2 c.in_ok-stopped.ensures.acts,
      list_names_more c.args.entry scope c.args.node first c.args.content.now c.loop-item.item-index c.item-item.result
          c.loop-item.stopped names (known c.add_next.new.names) c.loop-item-test.true c.item-item.is
          c.loop-item.invariant.1 c.loop-item.invariant.2 c.in_ok-stopped.ensures.names,
      list_stops_more c.args.entry scope c.args.node first c.args.content.now c.loop-item.item-index c.item-item.result
          c.loop-item.stopped c.in_ok-stopped.stopped names c.loop-item-test.true c.item-item.is
          c.loop-item.invariant.1 c.loop-item.invariant.2 c.in_ok-stopped.ensures.stops,
    )
