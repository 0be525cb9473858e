-- At the end no track is left.
use Rattle.std.proofs.Common.{◌^◌, ◌<◌, append-nil, arith}
use Rattle.std.proofs.lemmas.List.{drop_all, take_all}
use Rattle.std.proofs.lemmas.List.Elements.{All-from_get_or}
use Rattle.fx_panes_parts.proofs.TrackLemmas.{no_lengths}
use Rattle.fx_grid.proofs.starts.fill_lengths.Goals as goal

pub returns-clause-value : goal.returns-clause-value
returns-clause-value c =
    let at_end = drop_all c.loop-k.k c.args.tracks.now (omega arith) in
    let whole = take_all c.loop-k.k c.loop-k.lengths (omega arith) in
    rw (whole, at_end, no_lengths, append-nil) at c.loop-k.invariant.same

pub returns-clause-short : goal.returns-clause-short
returns-clause-short c =
    All-from_get_or (λ n. n < 2 ^ 34) c.loop-k.lengths 0
    (λ k within. c.loop-k.invariant.short k (omega (arith, within, c.loop-k.auto.lengths)))
