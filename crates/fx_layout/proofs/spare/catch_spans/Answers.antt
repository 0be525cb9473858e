use Rattle.std.proofs.Common.{◌<◌, length, arith}
use Rattle.fx_layout.proofs.Catching.{are_caught_all, are_caught_idle, are_caught_more, are_caught_start}
use Rattle.fx_layout.proofs.spare.catch_spans.Goals as goal

pub loop-at-init : goal.loop-at-init
loop-at-init c = (
  rw (c.span_at.ensures) (are_caught_start c.args.scene.nodes.now c.args.scene.children.now c.args.from.now
      c.args.marks.now c.args.to.now.items c.requires.some c.requires.from c.requires.to c.requires.still),
  omega arith,
)

pub loop-at-preserved : goal.loop-at-preserved
loop-at-preserved c =
    let nodes = c.args.scene.nodes.now in
    let children = c.args.scene.children.now in
    let from = c.args.from.now in
    let flags = c.args.marks.now in
    let at = c.in-Some.at in
    let found = c.in-Some.ensures in
    let now = c.loop-at.to.items in
    let within : at < length nodes = omega (arith, found.1, c.requires.marks) in
    let alike = rw (c.children_in-places.ensures.value) at c.put_alike.ensures.alike in (
      are_caught_more nodes children from flags now c.put_alike.new.to.items at c.put_alike.ensures.each alike
          c.put_alike.ensures.others
          (are_caught_idle nodes children from flags now c.loop-at.next at found.3 c.loop-at.invariant.0),
      omega (arith, within),
    )

pub returns : goal.returns
returns c =
    let nodes = c.args.scene.nodes.now in
    let children = c.args.scene.children.now in
    let from = c.args.from.now in
    let flags = c.args.marks.now in
    let now = c.loop-at.to.items in
    are_caught_all nodes children from flags now (length nodes) c.requires.nodes c.requires.children c.requires.from
    (omega arith)
    (are_caught_idle nodes children from flags now c.loop-at.next (length nodes)
    (λ q late within. c.in_default.ensures q late (omega (arith, within, c.requires.marks))) c.loop-at.invariant.0)
