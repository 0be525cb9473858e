use Rattle.std.proofs.Common.{◌∙◌, List, ap}
use Rattle.fx_base.specs.declared.facts.Track.{Track}
use Rattle.fx_panes_parts.specs.Axes.{along}
use Rattle.fx_grid.specs.Tracks.{given_on, tracks_of}
use Rattle.fx_grid.proofs.GridLemmas.{extent_is}
use Rattle.fx_grid.proofs.grid.extent_over.Goals as goal

pub returns : goal.returns
returns g c =
    extent_is (given_on c.args.axis c.args.pane.now) _ _ _ _ _ _ _ _ c.pane_axis-facts.ensures.value
    c.insets.ensures.value c.gaps.ensures.value c.requires.count
    (c.fill_tracks.ensures ∙ ap (λ (given : List Track).
    tracks_of c.pane_axis-facts.result.gap given (along c.args.axis c.args.children.now)) c.given_on.ensures)
    c.extent_of.ensures
