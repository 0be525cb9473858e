-- the walk has passed so many marks, and the places so far are those of the numbers so far
use Rattle.std.proofs.Common.{◌≡◌, map, take, drop}
use Rattle.fx_css_marks.specs.Marks.{place_of}
use Rattle.fx_css_marks.specs.Walks.{left}
use Rattle.fx_css_marks.proofs.walking.places.Given as goal

abbrev pub invariant-loop-number : goal.invariant-loop-number
invariant-loop-number l = record {
  passed : left l.walk ≡ drop l.passed (left l.start);
  found : l.places.items ≡ map (place_of l.file (left l.start)) (take l.number-index l.numbers);
}
