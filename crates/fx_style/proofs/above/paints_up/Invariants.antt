use Rattle.std.proofs.Common.{◌≡◌, ◌++◌, ◌<◌, ℕ, suc, map, length}
use Rattle.std.specs.Option.{option_map_or, ForSome}
use Rattle.std.specs.List.{filter_map}
use Rattle.fx_style.specs.Above.{some_paints}
use Rattle.fx_style.specs.Places.{places_up}
use Rattle.fx_style.specs.Plans.{plan_style}
use Rattle.fx_style.proofs.above.paints_up.Given as goal

abbrev pub invariant-loop-place : goal.invariant-loop-place
invariant-loop-place l = record {
  there : ForSome l.place (λ (p : ℕ). p < length l.plan.steps.now);
  so_far : map (λ n. n.now) l.paints.items
      ++ some_paints (filter_map (plan_style l.plan) (places_up l.facts l.place))
      ≡ some_paints (filter_map (plan_style l.plan) (places_up l.facts l.fn.parent));
}

abbrev pub decreases-loop-place : goal.decreases-loop-place
decreases-loop-place l = option_map_or suc l.place 0
