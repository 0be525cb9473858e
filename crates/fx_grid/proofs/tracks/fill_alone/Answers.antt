use Rattle.std.proofs.Common.{length, arith}
use Rattle.std.proofs.lemmas.List.FromFn.{fill_by_all}
use Rattle.fx_grid.specs.Tracks.{length_at_place}
use Rattle.fx_grid.proofs.tracks.fill_alone.Goals as goal

pub returns : goal.returns
returns c =
    fill_by_all (length_at_place c.args.bound c.args.given.now c.args.needs.now) _ (length c.args.needs.now) 0
    (omega arith) (λ k below. c.loop-k.invariant k (omega (arith, below)))
