-- so many marks are passed
use Rattle.std.proofs.Common.{◌≡◌, ◌≤◌, ◌-◌, drop}
use Rattle.fx_css_marks.specs.Walks.{left}
use Rattle.fx_css_marks.proofs.walk.Walk.pass.Given as goal

abbrev pub invariant-loop-passed : goal.invariant-loop-passed
invariant-loop-passed l = record {
  passed : left l.walk ≡ drop l.passed (left l.self);
  within : l.passed ≤ l.count;
}

abbrev pub decreases-loop-passed : goal.decreases-loop-passed
decreases-loop-passed l = l.count - l.passed
