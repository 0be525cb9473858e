use Rattle.std.proofs.Common.{◌≡◌, ◌≤◌, ◌+◌, ◌-◌, drop, length}
use Rattle.std.specs.List.{position_or_len}
use Rattle.fx_store_pairs.specs.Pairs.{is_pair, pairs_of}
use Rattle.fx_store_pairs.proofs.walking.place_of.Given as goal

abbrev pub invariant-loop-place : goal.invariant-loop-place
invariant-loop-place l = record {
  within : l.place ≤ length l.pairs;
  rest :
      l.place + position_or_len (is_pair l.one.0 l.other.0) (pairs_of (drop l.place l.pairs))
      ≡ position_or_len (is_pair l.one.0 l.other.0) (pairs_of l.pairs);
}

abbrev pub decreases-loop-place : goal.decreases-loop-place
decreases-loop-place l = length l.pairs - l.place
