-- what is written and what is still to be shown is what the stream shows
use Rattle.std.proofs.Common.{◌≡◌, ◌≤◌, ◌+◌, length}
use Rattle.std.specs.List.{slice_split}
use Rattle.fx_delta.specs.Stream.{is_line_feed, shown, shown_parts}
use Rattle.fx_port.specs.Pieces.{GrewUpTo}
use Rattle.fxview.proofs.streams.put_shown.Given as goal

abbrev pub invariant-loop-line : goal.invariant-loop-line
invariant-loop-line g l =
    let sink = g.O.Sink in
    let left = shown_parts l.number l.viewer (slice_split is_line_feed l.rest) in
    record {
      later : sink.faults l.fn.out ≤ sink.faults l.out;
      written : GrewUpTo (sink.written l.fn.out) (sink.written l.out) (shown l.stream).bytes left.bytes;
      bad : left.bad ≡ (shown l.stream).bad;
      few : l.number + length l.rest ≤ length l.stream + 1;
    }

abbrev pub decreases-loop-line : goal.decreases-loop-line
decreases-loop-line g l = length l.rest
