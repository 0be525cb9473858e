-- the rest gives what the whole does, and the counts are at most the bytes that are taken
use Rattle.std.proofs.Common.{◌≡◌, ◌+◌, ◌≤◌, length}
use Rattle.fx_css_parts.specs.Limits.{past_in_selectors}
use Rattle.fx_css_parts.specs.Drafts.{past_from}
use Rattle.fx_css_parts.proofs.limits.first_past.Given as goal

abbrev pub invariant-loop-c : goal.invariant-loop-c
invariant-loop-c l = record {
  past : past_from l.count l.place l.rest ≡ past_in_selectors l.text;
  left : l.place + length l.rest ≡ l.all;
  selectors : l.count.selector ≤ l.place;
  compounds : l.count.compound ≤ l.place;
}

abbrev pub decreases-loop-c : goal.decreases-loop-c
decreases-loop-c l = length l.rest
