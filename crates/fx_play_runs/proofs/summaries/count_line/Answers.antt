-- what the line tells is counted
use Rattle.fx_play_frames.specs.Games.{game_of}
use Rattle.fx_play_frames.specs.Takings.{told_as}
use Rattle.fx_play_runs.proofs.summaries.count_line.Goals as goal

pub returns-clause-counted : goal.returns-clause-counted
returns-clause-counted g c =
    λ form.
    let told = c.in_ok-taken.ensures.told form in
    record {
      cost = told.cost;
      done = record {
        told = told_as form (game_of c.args.game.now).last (game_of c.take.new.self) c.in_ok-taken.taken c.take.new.trace.text.items;
        is = told.done;
        adds = c.counts.ensures.totals form (game_of c.args.game.now).last c.take.new.trace.text.items;
      };
      few = told.few;
    }
