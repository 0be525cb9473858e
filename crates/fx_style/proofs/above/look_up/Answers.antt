use Rattle.std.proofs.Common.{◌<◌, ◌≤◌, length, sym, ◌∙◌, ap, arith}
use Rattle.std.specs.List.{filter_map}
use Rattle.std.specs.Option.{option_map}
use Rattle.fx_node_style.specs.Styling.{look_above}
use Rattle.fx_style.specs.Places.{places_up}
use Rattle.fx_style.specs.Plans.{plan_style, seen_style}
use Rattle.fx_style.proofs.AboveLemmas.{look_climbs, look_found, look_none, smaller, there_next}
use Rattle.fx_style.proofs.above.look_up.Goals as goal

pub loop-place-smaller : goal.loop-place-smaller
loop-place-smaller c =
    smaller c.args.facts.now c.requires.before c.loop-place.place c.parent_at-place.result c.in-Some.at c.in-Some.is
    c.parent_at-place.ensures

pub loop-place-preserved : goal.loop-place-preserved
loop-place-preserved c =
    let facts = c.args.facts.now in
    let now = plan_style c.args.plan in
    let at = c.in-Some.at in
    let low : at < length c.args.plan.steps.now = c.loop-place.invariant.there at c.in-Some.is in
    let few : length c.args.plan.steps.now ≤ length facts = c.requires.few in
    record {
      there = there_next facts c.requires.before c.loop-place.place c.parent_at-place.result at
          (length c.args.plan.steps.now) c.in-Some.is c.parent_at-place.ensures c.loop-place.invariant.there;
      so_far =
          ap (λ p. look_above (filter_map now (places_up facts p))) c.parent_at-place.ensures
          ∙ look_climbs now facts c.requires.before at c.loop-place.place _ (omega (arith, low, few)) c.in-Some.is
          (sym c.planned.ensures ∙ ap (option_map seen_style) c.in_default-planned.is)
          c.loop-place.invariant.so_far;
    }

pub returns-in-Some-planned : goal.returns-in-Some-planned
returns-in-Some-planned c =
    let facts = c.args.facts.now in
    let at = c.in-Some.at in
    let low : at < length c.args.plan.steps.now = c.loop-place.invariant.there at c.in-Some.is in
    let few : length c.args.plan.steps.now ≤ length facts = c.requires.few in
    look_found (plan_style c.args.plan) facts c.requires.before at c.loop-place.place _ (seen_style c.in-Some-planned.seen)
    (omega (arith, low, few)) c.in-Some.is
    (sym c.planned.ensures ∙ ap (option_map seen_style) c.in-Some-planned.is) c.loop-place.invariant.so_far

pub returns : goal.returns
returns c =
    look_none (plan_style c.args.plan) c.args.facts.now c.loop-place.place _ c.in_default.is
    c.loop-place.invariant.so_far
