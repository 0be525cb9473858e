-- a part of what was dropped of sheets is written
use Rattle.std.proofs.Common.{map}
use Rattle.fx_plain_runs.proofs.PlayingLemmas.{put_at_err, stops_in_warnings}
use Rattle.fx_play_frames.specs.Games.{game_of}
use Rattle.fx_script_commands.specs.Requests.{line_view}
use Rattle.fx_play_runs.proofs.lines.put_lines.Goals as goal

pub returns-in_err-put-clause-put : goal.returns-in_err-put-clause-put
returns-in_err-put-clause-put g c =
    put_at_err _ c.from_residual.result c.from_residual.ensures.1
    (stops_in_warnings c.args.manner c.args.warnings.now (game_of c.args.game.now) (map line_view c.args.lines.items)
    c.requires.long c.in_err-put.ensures.writes.err)
