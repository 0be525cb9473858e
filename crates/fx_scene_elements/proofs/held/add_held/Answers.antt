-- no part yet, and one part more
use Rattle.std.proofs.Common.{sym, refl}
use Rattle.std.proofs.lemmas.List.{append-nil}
use Rattle.fx_scene_elements.specs.Held.{held_asked}
use Rattle.fx_scene_elements.specs.Views.{target_view}
use Rattle.fx_scene_elements.proofs.PartLemmas.{held_acts_more, held_names_more}
use Rattle.fx_scene_literals.proofs.PartLemmas.{no_first}
use Rattle.fx_scene_things.specs.Known.{known}
use Rattle.fx_scene_values.specs.Views.{scope_view}
use Rattle.fx_scene_elements.proofs.held.add_held.Goals as goal

pub loop-item-init : goal.loop-item-init
unfolding held_asked
loop-item-init c = (sym (append-nil c.args.acts.now.items), refl, refl)

pub loop-item-preserved : goal.loop-item-preserved
loop-item-preserved c =
    let scope = scope_view c.args.scope.now in
    let target = target_view c.args.target in
    let first = known c.args.names.now in
    let names = known c.loop-item.names in (
      held_acts_more scope c.args.node c.args.name.now target first c.args.content.now c.loop-item.item-index
          c.item-item.result c.loop-item.first c.args.acts.now.items c.loop-item.acts.items c.add_part.new.acts.items
          names c.loop-item-test.true c.item-item.is c.loop-item.invariant.0 c.loop-item.invariant.1
          c.loop-item.invariant.2 c.in_ok-add_part.ensures.acts,
      held_names_more scope c.args.node c.args.name.now target first c.args.content.now c.loop-item.item-index
          c.item-item.result c.loop-item.first names (known c.add_part.new.names) c.loop-item-test.true c.item-item.is
          c.loop-item.invariant.1 c.loop-item.invariant.2 c.in_ok-add_part.ensures.names,
      no_first c.args.content.now c.loop-item.item-index c.item-item.result c.loop-item-test.true c.item-item.is,
    )
