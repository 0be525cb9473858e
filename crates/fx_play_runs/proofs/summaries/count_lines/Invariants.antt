-- the lines so far are taken and counted
use Rattle.std.proofs.Common.{◌≤◌, ◌+◌, length, map, vec_len}
use Rattle.std.specs.Prelude.{reverse}
use Rattle.fx_frame_text.specs.declared.forms.Form.{Form}
use Rattle.fx_plain_work.specs.Works.{counted}
use Rattle.fx_play_frames.specs.Games.{game_of, sight_of}
use Rattle.fx_play_frames.specs.Takings.{totals_in}
use Rattle.fx_script_commands.specs.Requests.{line_view}
use Rattle.fx_play_runs.proofs.WorkLemmas.{AddsSo}
use Rattle.fx_play_runs.proofs.summaries.count_lines.Given as goal

abbrev pub invariant-loop-line : goal.invariant-loop-line
invariant-loop-line g l =
    record {
      adding : (form : Form) → AddsSo form
          (record {
            game = game_of l.fn.game;
            sight = sight_of l.fn.game;
            lines = map line_view l.fn.lines.items;
            count = counted l.fn.work.styled l.fn.work.laid l.fn.work.painted;
            evaluated = l.fn.work.evaluated;
          })
          (record {
            game = game_of l.game;
            sight = sight_of l.game;
            count = counted l.work.styled l.work.laid l.work.painted;
            evaluated = l.work.evaluated;
          })
          (map line_view (reverse l.left.items)) (totals_in l.totals);
      few : l.game.frames + length l.left.items ≤ 100000;
    }

abbrev pub decreases-loop-line : goal.decreases-loop-line
decreases-loop-line g l = vec_len l.left
