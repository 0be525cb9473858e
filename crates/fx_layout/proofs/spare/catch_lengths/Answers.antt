use Rattle.std.proofs.Common.{◌<◌, length, arith}
use Rattle.fx_layout_sweeps.specs.Nodes.{unknown}
use Rattle.fx_layout.proofs.Catching.{caught_all, caught_idle, caught_more, caught_start}
use Rattle.fx_layout.proofs.spare.catch_lengths.Goals as goal

pub loop-place-init : goal.loop-place-init
loop-place-init c =
    (caught_start unknown c.args.from.now c.args.marks.now c.args.to.now.items c.requires.each c.requires.still, omega arith)

pub loop-place-preserved : goal.loop-place-preserved
loop-place-preserved c =
    let from = c.args.from.now in
    let flags = c.args.marks.now in
    let at = c.in-Some.place in
    let found = c.in-Some.ensures in
    let now = c.loop-place.to.items in
    let within : at < length from = omega (arith, found.1, c.requires.marks) in (
      rw (c.extent_at.ensures) (caught_more unknown from flags now at within
          (caught_idle unknown from flags now c.loop-place.next at found.3 c.loop-place.invariant.0)),
      omega (arith, within),
    )

pub returns : goal.returns
returns c =
    let from = c.args.from.now in
    let flags = c.args.marks.now in
    let now = c.loop-place.to.items in
    caught_all unknown from flags now (length from) (omega arith)
    (caught_idle unknown from flags now c.loop-place.next (length from)
    (λ q late within. c.in_default.ensures q late (omega (arith, within, c.requires.marks))) c.loop-place.invariant.0)
