-- Fewer compounds are left at each step, and the ancestors that were tried didn't match.
use Rattle.std.proofs.Common.{◌≡◌, ◌+◌, ◌*◌, ◌<◌, ℕ, suc, length}
use Rattle.std.specs.Prelude.{reverse}
use Rattle.std.specs.Option.{option_map_or, ForSome}
use Rattle.fx_select.specs.Chains.{upward}
use Rattle.fx_select.specs.Matching.{matches_up, somewhere}
use Rattle.fx_select.proofs.matching.+match_up.Given as goal

abbrev pub decreases-match_up : goal.decreases-match_up
decreases-match_up l = 3 * length l.compounds.now

abbrev pub decreases-match_before : goal.decreases-match_before
decreases-match_before l = 3 * length l.before.now + 2

abbrev pub decreases-match_parent : goal.decreases-match_parent
decreases-match_parent l = 3 * length l.before.now + 1

abbrev pub decreases-match_ancestor : goal.decreases-match_ancestor
decreases-match_ancestor l = 3 * length l.before.now + 1

abbrev pub invariant-match_ancestor-loop-above : goal.invariant-match_ancestor-loop-above
invariant-match_ancestor-loop-above l = record {
  there : ForSome l.above (λ (p : ℕ). p < length l.facts);
  tried : somewhere (matches_up (reverse l.before)) (upward l.facts l.above)
      ≡ somewhere (matches_up (reverse l.before)) (upward l.facts l.fn.parent);
}

abbrev pub decreases-match_ancestor-loop-above : goal.decreases-match_ancestor-loop-above
decreases-match_ancestor-loop-above l = option_map_or suc l.above 0
