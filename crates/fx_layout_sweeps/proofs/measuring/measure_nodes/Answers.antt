use Rattle.std.proofs.Common.{refl, sym, ap, ◌≡◌, ◌<◌, ℕ, ◌+◌, [], cond, length, arith}
use Rattle.fx_layout_sweeps.specs.Marks.{flag_in}
use Rattle.fx_layout_sweeps.specs.Nodes.{child_at}
use Rattle.fx_layout_sweeps.specs.Sweeps.{tally}
use Rattle.fx_layout_parts.specs.declared.rules.Rule.TheVariants as rule
use Rattle.fx_layout_sweeps.proofs.Asking.{lists_behind}
use Rattle.fx_layout_sweeps.proofs.Tallies.{tally_between, tally_more}
use Rattle.fx_layout_sweeps.proofs.Turns.{listed_made, swept_idle, swept_more, swept_start}
use Rattle.fx_layout_sweeps.proofs.measuring.measure_nodes.Goals as goal

pub loop-place-init : goal.loop-place-init
loop-place-init g c = (swept_start _ _ _ _ _ _ _ _ c.requires.lengths, refl, refl, omega arith)

pub loop-place-preserved : goal.loop-place-preserved
loop-place-preserved g c =
    let sweep = c.args.sweep in
    let listed = flag_in sweep.listed.now in
    let m = c.in-Some.place in
    let found = c.in-Some.ensures in
    let behind = lists_behind sweep.nodes.now sweep.children.now c.requires.nodes c.requires.children in
    let within : m < length sweep.nodes.now = omega (arith, found.0, c.loop-place.invariant.3) in
    let made = rw (c.as_slice.ensures.value) at c.in_ok-lengths.ensures.lengths in
    let step = c.in_ok-lengths.ensures.work in
    let same = c.loop-place.invariant.1 in
    let passed = tally_between listed (m + 1) c.loop-place.to (omega (arith, found.0)) found.2 in (
      swept_more sweep.axis sweep.nodes.now sweep.looks.now sweep.children.now listed sweep.widths.now
          sweep.spans.now c.args.lengths.now.items c.loop-place.lengths.items (m + 1) m c.in_ok-lengths.field-0
          (child_at rule.Region sweep.nodes.now [] [] 0) behind refl within
          (swept_idle sweep.axis sweep.nodes.now sweep.looks.now sweep.children.now listed sweep.widths.now
          sweep.spans.now c.args.lengths.now.items c.loop-place.lengths.items c.loop-place.to (m + 1) found.2
          c.loop-place.invariant.0 (omega (arith, found.0)))
          (listed_made sweep.axis sweep.nodes.now sweep.looks.now sweep.children.now listed sweep.widths.now
          sweep.spans.now c.loop-place.lengths.items m c.in_ok-lengths.field-0 found.1 made),
      rw (step, ap (λ w. w.evaluated) same, ap (λ w. w.styled) same, ap (λ w. w.painted) same) refl,
      omega (arith, ap (λ w. w.laid) step, tally_more listed m, passed, ap {B = ℕ} (λ b. cond b 1 0) found.1, c.loop-place.invariant.2),
      omega (arith, within),
    )

pub returns-clause-lengths : goal.returns-clause-lengths
returns-clause-lengths g c =
    let sweep = c.args.sweep in
    let all = swept_idle sweep.axis sweep.nodes.now sweep.looks.now sweep.children.now (flag_in sweep.listed.now)
    sweep.widths.now sweep.spans.now c.args.lengths.now.items c.loop-place.lengths.items c.loop-place.to 0
    c.in_default.ensures c.loop-place.invariant.0 (omega arith) in
    λ p within. all.back p (omega arith) within

pub returns-clause-work : goal.returns-clause-work
returns-clause-work g c =
    let listed = flag_in c.args.sweep.listed.now in
    let rest = tally_between listed 0 c.loop-place.to (omega arith) c.in_default.ensures in
    let all : c.loop-place.work.laid ≡ c.args.work.now.laid + tally listed (length c.args.sweep.nodes.now) =
    omega (arith, c.loop-place.invariant.2, rest) in
    rw (sym all) c.loop-place.invariant.1
