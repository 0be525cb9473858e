-- what is passed so far, and the comment's length in the rest, is the whole
use Rattle.std.proofs.Common.{◌≡◌, ◌≤◌, ◌+◌, length}
use Rattle.fx_css_marks.specs.Lengths.{comment_length}
use Rattle.fx_css_marks.proofs.finding.comment_length.Given as goal

abbrev pub invariant-loop-first : goal.invariant-loop-first
invariant-loop-first l = record {
  whole : length l.text + comment_length l.rest ≡ comment_length l.text + length l.rest;
  shorter : length l.rest ≤ length l.text;
}

abbrev pub decreases-loop-first : goal.decreases-loop-first
decreases-loop-first l = length l.rest
