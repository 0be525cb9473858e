use Rattle.std.proofs.Common.{◌≡◌, ◌∙◌, List, ap, length, map, reverse, subst, sym}
use Rattle.std.proofs.lemmas.List.{length-reverse}
use Rattle.fx_base.specs.declared.keys.NodeKey.{NodeKey}
use Rattle.fx_events.specs.Routes.{route_of}
use Rattle.fx_events.specs.declared.kinds.Phase.TheVariants as phase
use Rattle.fx_plain_dispatch.specs.Costs.{IsDoneWithin}
use Rattle.fx_plain_dispatch.specs.Sending.{ArePassed, there_and_back}
use Rattle.fx_play_steps.specs.Traces.{course_of}
use Rattle.fx_tree.specs.Scene.{Scene}
use Rattle.fx_act.proofs.RunLemmas.{on_ok, passed_both}
use Rattle.fx_act.proofs.SendLemmas.{refilled}
use Rattle.fx_act.proofs.sending.go_along.Goals as goal

pub returns-clause-done : goal.returns-clause-done
returns-clause-done g c =
    let on = c.args.event.on in
    let route = route_of c.args.stage.now.graph.tree.nodes on c.args.event.target in
    let start = course_of c.args.stage.now c.args.trace.now in
    let half = course_of c.pass_all.new.stage c.pass_all.new.trace in
    let now = course_of c.pass_all-2.new.stage c.pass_all-2.new.trace in
    let there : c.as_slice.result.now ≡ route =
    c.as_slice.ensures ∙ c.in_ok-nodes.ensures
    ∙ ap (λ (tree : Scene). route_of tree.nodes on c.args.event.target) (c.tree.ensures ∙ ap (λ graph. graph.tree) c.graph.ensures) in
    let items = c.in_ok-nodes.nodes.items in
    let turned : c.reverse.new.self ≡ reverse items = c.reverse.ensures.after ∙ ap reverse c.as_mut_slice.ensures.value in
    let route_is : items ≡ route = sym c.as_slice.ensures ∙ there in
    let back : c.as_slice-2.result.now ≡ reverse route =
    c.as_slice-2.ensures
    ∙ refilled items c.reverse.new.self (ap length turned ∙ length-reverse items)
    ∙ turned ∙ ap reverse route_is in
    let old = c.args.work.now.evaluated in
    let mid = c.pass_all.new.work.evaluated in
    let new = c.pass_all-2.new.work.evaluated in
    on_ok c.pass_all-2.result c.pass_all-2.ensures.done
    (λ returned.
    passed_both on (map (λ (key : NodeKey). (phase.Filter, key)) route) (map (λ (key : NodeKey). (phase.Handler, key)) (reverse route))
    start half now old mid new
    (subst (λ (keys : List NodeKey). IsDoneWithin (ArePassed on (map (λ (key : NodeKey). (phase.Filter, key)) keys) start half) old mid) there
    c.in_ok-pass_all.ensures.done)
    (subst (λ (keys : List NodeKey). IsDoneWithin (ArePassed on (map (λ (key : NodeKey). (phase.Handler, key)) keys) half now) mid new) back
    returned))
