use Rattle.std.proofs.Common.{◌++◌, ◌<◌, ◌≤◌, List, Bor, Option, length, map, ◌∙◌, ap, arith}
use Rattle.std.specs.Prelude.{option_to_list}
use Rattle.std.specs.List.{filter_map}
use Rattle.fx_lookup.specs.declared.named.NamedPaint.{NamedPaint}
use Rattle.fx_node_style.specs.declared.node_styles.NodeStyle.{NodeStyle}
use Rattle.fx_style.specs.Above.{some_paints}
use Rattle.fx_style.specs.Places.{places_up}
use Rattle.fx_style.specs.Plans.{plan_style}
use Rattle.fx_style.proofs.AboveLemmas.{climbs, climbed, smaller, there_next}
use Rattle.fx_style.proofs.above.paints_up.Goals as goal

pub loop-place-smaller : goal.loop-place-smaller
loop-place-smaller c =
    smaller c.args.facts.now c.requires.before c.loop-place.place c.parent_at-place.result c.in-Some.at c.in-Some.is
    c.parent_at-place.ensures

pub loop-place-preserved : goal.loop-place-preserved
loop-place-preserved c =
    let facts = c.args.facts.now in
    let now = plan_style c.args.plan in
    let at = c.in-Some.at in
    let low : at < length c.args.plan.steps.now = c.loop-place.invariant.there at c.in-Some.is in
    let few : length c.args.plan.steps.now ≤ length facts = c.requires.few in
    let old = map (λ (n : Bor (List NamedPaint)). n.now) c.loop-place.paints.items in
    let new = map (λ (n : Bor (List NamedPaint)). n.now) c.push_seen.new.paints.items in
    record {
      there = there_next facts c.requires.before c.loop-place.place c.parent_at-place.result at
          (length c.args.plan.steps.now) c.in-Some.is c.parent_at-place.ensures c.loop-place.invariant.there;
      so_far =
          ap (λ p. new ++ some_paints (filter_map now (places_up facts p))) c.parent_at-place.ensures
          ∙ climbs now facts c.requires.before at c.loop-place.place old new _ (omega (arith, low, few)) c.in-Some.is
          (c.in_ok-push_seen.ensures
          ∙ ap (λ (o : Option NodeStyle). old ++ some_paints (option_to_list o)) c.planned.ensures)
          c.loop-place.invariant.so_far;
    }

pub returns : goal.returns
returns c =
    climbed (plan_style c.args.plan) c.args.facts.now c.loop-place.place
    (map (λ (n : Bor (List NamedPaint)). n.now) c.loop-place.paints.items) _ c.in_default.is
    c.loop-place.invariant.so_far
