-- the totals are written, or a part of them, or nothing
use Rattle.std.proofs.Common.{map}
use Rattle.fx_plain_runs.proofs.PlayingLemmas.{not_begun_yet, put_at_err}
use Rattle.fx_play_frames.specs.Games.{game_of}
use Rattle.fx_script_commands.specs.Requests.{line_view}
use Rattle.fx_play_runs.proofs.CountLemmas.{totals_told}
use Rattle.fx_play_runs.proofs.WorkLemmas.{added_done}
use Rattle.fx_play_runs.proofs.summaries.put_summary.Goals as goal

pub returns-in_err-totals-clause-put : goal.returns-in_err-totals-clause-put
returns-in_err-totals-clause-put g c =
    λ warnings.
    put_at_err _ c.from_residual.result c.from_residual.ensures.1
    (not_begun_yet c.args.manner warnings (game_of c.args.game.now) (map line_view c.args.lines.items)
    (g.O.Sink.written c.args.out.now))

pub returns-in_err-text-clause-put : goal.returns-in_err-text-clause-put
returns-in_err-text-clause-put g c =
    λ warnings.
    put_at_err _ c.from_residual-in_err-text.result c.from_residual-in_err-text.ensures.1
    (not_begun_yet c.args.manner warnings (game_of c.args.game.now) (map line_view c.args.lines.items)
    (g.O.Sink.written c.args.out.now))

pub returns-clause-put : goal.returns-clause-put
returns-clause-put g c =
    λ warnings.
    totals_told c.put.result c.requires.short (c.in_ok-totals.ensures.counted c.args.manner.form) c.as_slice.ensures.value
    c.in_ok-text.ensures c.put.ensures.writes

pub returns-clause-work : goal.returns-clause-work
returns-clause-work g c =
    λ warnings.
    added_done c.args.manner warnings c.put.result c.requires.short (c.in_ok-totals.ensures.work c.args.manner.form)
    c.as_slice.ensures.value c.in_ok-text.ensures c.put.ensures.writes
