-- the lines so far are taken, and what they tell is written
use Rattle.std.proofs.Common.{◌≡◌, ◌≤◌, ◌+◌, ℕ, List, Option, length, map, vec_len}
use Rattle.std.specs.Prelude.{reverse}
use Rattle.fx_plain_work.specs.Works.{counted}
use Rattle.fx_play_frames.specs.Games.{game_of, sight_of}
use Rattle.fx_play_frames.specs.Takings.{IsAt}
use Rattle.fx_port.specs.Pieces.{grown}
use Rattle.fx_script_commands.specs.Requests.{line_view}
use Rattle.fx_play_runs.proofs.WorkLemmas.{GoesSo}
use Rattle.fx_play_runs.proofs.lines.put_each.Given as goal

abbrev pub invariant-loop-line : goal.invariant-loop-line
invariant-loop-line g l =
    let sink = g.O.Sink in
    record {
      later : sink.faults l.fn.out ≤ sink.faults l.out;
      going : (warnings : List ℕ) (begun : Option (List ℕ)) → sink.written l.fn.out ≡ grown begun warnings
          → GoesSo l.fn.manner.form warnings
          (record {
            game = game_of l.fn.game;
            sight = sight_of l.fn.game;
            lines = map line_view l.fn.lines.items;
            count = counted l.fn.work.styled l.fn.work.laid l.fn.work.painted;
            evaluated = l.fn.work.evaluated;
          })
          (record {
            game = game_of l.game;
            sight = sight_of l.game;
            count = counted l.work.styled l.work.laid l.work.painted;
            evaluated = l.work.evaluated;
          })
          (map line_view (reverse l.left.items)) begun (sink.written l.out);
      few : l.game.frames + length l.left.items ≤ 100000;
      form : l.writer.form ≡ l.fn.manner.form;
      behind : IsAt l.writer (game_of l.game).last;
    }

abbrev pub decreases-loop-line : goal.decreases-loop-line
decreases-loop-line g l = vec_len l.left
