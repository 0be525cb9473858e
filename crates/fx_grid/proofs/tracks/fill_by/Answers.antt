use Rattle.std.proofs.Common.{length, arith}
use Rattle.std.proofs.lemmas.List.FromFn.{fill_by_all}
use Rattle.fx_grid.specs.Tracks.{track_at_place}
use Rattle.fx_grid.proofs.tracks.fill_by.Goals as goal

pub returns : goal.returns
returns c =
    fill_by_all (track_at_place c.args.given.now c.args.needs.now c.args.leasts.now c.args.wishes.now) _
    (length c.args.needs.now) (record { min = 0; pref = 0; max = 0; priority = 0 })
    (omega arith) (λ k below. c.loop-k.invariant k _ (omega (arith, below)))
