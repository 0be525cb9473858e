use Rattle.std.proofs.Common.{arith}
use Rattle.fx_panes_parts.specs.Axes.{along}
use Rattle.fx_grid.specs.Tracks.{given_on}
use Rattle.fx_grid.proofs.StartLemmas.{starts_are, starts_within}
use Rattle.fx_grid.proofs.starts.fill_starts.Goals as goal

pub returns-clause-value : goal.returns-clause-value
returns-clause-value g c =
    starts_are c.args.axis c.args.pane.now (along c.args.axis c.args.children.now) c.args.n _ _ _ _
    c.pane_axis-facts.ensures.value c.given_on.ensures c.fill_tracks.ensures c.place_tracks.ensures.value

pub returns-clause-bounds : goal.returns-clause-bounds
returns-clause-bounds g c = record {
  near = c.place_tracks.ensures.near;
  within = starts_within c.args.axis (given_on c.args.axis c.args.pane.now) c.args.children.now _
      (omega (arith, c.requires.count, c.place_tracks.auto.starts));
}
