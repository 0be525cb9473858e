-- no part yet, and one part more
use Rattle.std.proofs.Common.{◌≡◌, ◌+◌, Vec, Global, length, take, vec_len, sym, refl, ap, ◌∙◌}
use Rattle.std.proofs.lemmas.List.{append-nil}
use Rattle.fx_base.specs.declared.facts.Track.{Track}
use Rattle.fx_doc.specs.Views.{nodes_of}
use Rattle.fx_scene_elements.specs.Tracks.{tracks_told}
use Rattle.fx_scene_elements.proofs.PartLemmas.{IsSoFar, told_acts_more, told_names_more, told_stops_more, told_tracks_more}
use Rattle.fx_scene_things.specs.Known.{known}
use Rattle.fx_scene_values.specs.Views.{scope_view}
use Rattle.fx_scene_elements.proofs.tracks.add_tracks.Goals as goal

length_of : (v : Vec Track Global) → vec_len v ≡ length v.items
length_of v = cc

pub loop-item-init : goal.loop-item-init
unfolding tracks_told
loop-item-init c = (sym (append-nil c.args.acts.now.items), c.new-tracks.ensures.items, refl, refl)

pub loop-item-preserved : goal.loop-item-preserved
loop-item-preserved c =
    let scope = scope_view c.args.scope.now in
    let earlier = length c.args.earlier.now in
    let first = known c.args.names.now in
    let names = known c.loop-item.names in
    let tracks = c.loop-item.tracks.items in
    let count = earlier + c.len.result in
    let told = c.in_ok-stopped.ensures in
    let so_far : IsSoFar (tracks_told scope c.args.want earlier first
    (nodes_of (take c.loop-item.item-index c.args.content.now))) earlier count c.loop-item.stopped names tracks =
    record {
      known = c.loop-item.invariant.2;
      given = c.loop-item.invariant.1;
      halted = c.loop-item.invariant.3;
      counted = ap (λ n. earlier + n) (c.len.ensures ∙ length_of c.loop-item.tracks);
    } in (
      told_acts_more scope c.args.want earlier count first c.args.content.now c.loop-item.item-index
          c.item-item.result c.loop-item.stopped c.args.acts.now.items c.loop-item.acts.items
          c.add_next.new.acts.items tracks names c.loop-item-test.true c.item-item.is c.loop-item.invariant.0 so_far
          told.acts,
      told_tracks_more scope c.args.want earlier count first c.args.content.now c.loop-item.item-index
          c.item-item.result c.loop-item.stopped tracks c.add_next.new.tracks.items names c.loop-item-test.true
          c.item-item.is so_far told.tracks,
      told_names_more scope c.args.want earlier count first c.args.content.now c.loop-item.item-index
          c.item-item.result c.loop-item.stopped tracks names (known c.add_next.new.names) c.loop-item-test.true
          c.item-item.is so_far told.names,
      told_stops_more scope c.args.want earlier count first c.args.content.now c.loop-item.item-index
          c.item-item.result c.loop-item.stopped c.in_ok-stopped.stopped tracks names c.loop-item-test.true
          c.item-item.is so_far told.stops,
    )
