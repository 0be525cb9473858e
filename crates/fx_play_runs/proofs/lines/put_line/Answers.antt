-- a line that is taken, of which all or a part is written
use Rattle.fx_base.specs.declared.work.Work.{Work}
use Rattle.fx_plain_frames.specs.Playing.{is_pulse}
use Rattle.fx_plain_work.specs.Works.{Counted, counted}
use Rattle.fx_play_frames.specs.Games.{game_of, sight_of}
use Rattle.fx_script_commands.specs.Requests.{line_view}
use Rattle.fx_play_runs.proofs.LineLemmas.{part_told, stands_behind}
use Rattle.fx_play_runs.proofs.WorkLemmas.{also_written}
use Rattle.fx_play_runs.proofs.lines.put_line.Goals as goal

pub returns-clause-cut : goal.returns-clause-cut
returns-clause-cut g c =
    let form = c.args.writer.now.form in
    let last = (game_of c.args.game.now).last in
    part_told form (line_view c.args.line) (game_of c.args.game.now) (game_of c.take.new.self)
    c.in_ok-taken.taken c.put_told.result c.as_slice.ensures.value (c.in_ok-taken.ensures.told form).cost (c.in_ok-taken.ensures.told form).done
    (c.put_told.ensures.writes last c.requires.behind)

pub returns-clause-behind : goal.returns-clause-behind
returns-clause-behind g c =
    let last = (game_of c.args.game.now).last in
    stands_behind c.put_told.result c.put_told.new.writer c.in_ok-taken.ensures.last c.put_told.ensures.same
    (c.put_told.ensures.behind last c.requires.behind)

pub returns-clause-work : goal.returns-clause-work
returns-clause-work g c =
    let count : Work g.row.L.Denot → Counted = λ w. counted w.styled w.laid w.painted in
    also_written c.put_told.result (is_pulse (line_view c.args.line).request) (game_of c.args.game.now)
    (game_of c.take.new.self) (game_of c.put_told.new.game) (sight_of c.args.game.now) (sight_of c.take.new.self)
    (sight_of c.put_told.new.game) (count c.args.work.now) (count c.take.new.work) c.put_told.ensures.same
    c.put_told.ensures.sight c.in_ok-taken.ensures.work
