use Rattle.fx_grid.proofs.StartLemmas.{placed_are}
use Rattle.fx_grid.proofs.starts.place_tracks.Goals as goal

pub returns-clause-value : goal.returns-clause-value
returns-clause-value c =
    placed_are c.args.pane.now c.args.n c.args.tracks.now c.args.starts.now c.fill_lengths.new.lengths _ _ _ _ _
    c.requires.count c.content.ensures.value c.gaps.ensures.value c.saturating_sub-room.ensures
    c.fill_lengths.ensures.value c.grid_start-start.ensures.value c.add_up.ensures.value
