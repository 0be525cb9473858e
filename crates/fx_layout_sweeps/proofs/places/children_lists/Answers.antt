use Rattle.std.proofs.Common.{ℕ, ◌≡◌, sym, subst, length, List, arith}
use Rattle.fx_layout_sweeps.specs.Nodes.{parents}
use Rattle.fx_layout_sweeps.proofs.Children.{AreHung, hung_start, hung_more, hung_all, parent_read}
use Rattle.std.proofs.lemmas.List.{length-map}
use Rattle.fx_layout_sweeps.proofs.places.children_lists.Goals as goal

pub loop-place-init : goal.loop-place-init
loop-place-init c =
    subst (λ (l : List (List ℕ)). AreHung (parents c.args.nodes.now) (length c.args.nodes.now) 0 l)
    (sym c.in_ok-lists.ensures) (hung_start (parents c.args.nodes.now) (length c.args.nodes.now))

pub loop-place-preserved : goal.loop-place-preserved
loop-place-preserved c =
    hung_more (parents c.args.nodes.now) (length c.args.nodes.now) c.loop-place.place _ _ _
    c.loop-place.invariant
    (parent_read c.args.nodes.now c.loop-place.place c.index-nodes-place.result c.loop-place-test.true)
    c.in_ok-hang.ensures.each c.in_ok-hang.ensures.hung

pub returns : goal.returns
returns c =
    let nodes = c.args.nodes.now in
    let ups = parents nodes in
    let many : length ups ≡ length nodes = length-map nodes _ in
    let all : c.loop-place.place ≡ length nodes = omega (arith, c.loop-place-test.false, c.loop-place.auto.place-end) in
    hung_all ups c.loop-place.lists.items
    (subst (λ n. AreHung ups n n c.loop-place.lists.items) (sym many)
    (subst (λ n. AreHung ups (length nodes) n c.loop-place.lists.items) all c.loop-place.invariant))
