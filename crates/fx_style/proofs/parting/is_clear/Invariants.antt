use Rattle.std.proofs.Common.{◌≡◌, ◌<◌, ℕ, suc, length}
use Rattle.std.specs.Option.{option_map_or, ForSome}
use Rattle.fx_style.specs.Parting.{is_under}
use Rattle.fx_style.specs.Places.{parent_at}
use Rattle.fx_style.proofs.parting.is_clear.Given as goal

abbrev pub invariant-loop-place : goal.invariant-loop-place
invariant-loop-place l = record {
  there : ForSome l.place (λ (p : ℕ). p < length l.facts);
  so_far : is_under l.there l.facts l.place ≡ is_under l.there l.facts (parent_at l.facts l.at);
}

abbrev pub decreases-loop-place : goal.decreases-loop-place
decreases-loop-place l = option_map_or suc l.place 0
