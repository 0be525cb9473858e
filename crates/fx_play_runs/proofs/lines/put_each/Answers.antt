-- the lines are taken one by one, up to the first whose writing fails
use Rattle.std.proofs.Common.{◌≡◌, ◌∙◌, Option, ap, arith, length, map, refl, subst, sym}
use Rattle.std.proofs.lemmas.List.{length-reverse}
use Rattle.fx_plain_runs.proofs.PlayingLemmas.{put_at_err, put_at_ok}
use Rattle.fx_plain_work.specs.Works.{counted}
use Rattle.fx_play_frames.specs.Games.{game_of, sight_of}
use Rattle.fx_play_frames.specs.Takings.{IsAt}
use Rattle.fx_pulse_model.specs.Frames.{Framed}
use Rattle.fx_script_commands.specs.Requests.{line_view}
use Rattle.fx_play_runs.proofs.LineLemmas.{cut_at, none_left, one_less}
use Rattle.fx_play_runs.proofs.WorkLemmas.{all_done, all_to_do, one_done}
use Rattle.fx_play_runs.proofs.lines.put_each.Goals as goal

pub loop-line-init : goal.loop-line-init
loop-line-init g c =
    let turned = c.reverse.ensures.items in
    let long : length c.reverse.new.self.items ≡ length c.args.lines.items =
    ap length turned ∙ length-reverse c.args.lines.items in
    record {
      later = omega arith;
      going = λ warnings begun told.
          all_to_do c.args.manner.form warnings
          (record {
            game = game_of c.args.game.now;
            sight = sight_of c.args.game.now;
            lines = map line_view c.args.lines.items;
            count = counted c.args.work.now.styled c.args.work.now.laid c.args.work.now.painted;
            evaluated = c.args.work.now.evaluated;
          })
          c.args.lines.items refl turned told;
      few = omega (arith, c.requires.few, c.requires.fresh, long);
      form = c.new-writer.ensures.form;
      behind = subst (λ (o : Option Framed). IsAt c.new-writer.result o) (sym c.requires.unseen) c.new-writer.ensures.first;
    }

pub loop-line-preserved : goal.loop-line-preserved
loop-line-preserved g c =
    let shorter = one_less c.loop-line.left.items c.pop.new.self.items c.in-Some.line c.in-Some.ensures.items in
    record {
      later = omega (arith, c.loop-line.invariant.later, c.in_ok-put_line.ensures.cause.later);
      going = λ warnings begun told.
          one_done c.loop-line.left.items c.pop.new.self.items c.in-Some.line c.in-Some.ensures.items
          (c.loop-line.invariant.going warnings begun told)
          (rw c.loop-line.invariant.form at c.in_ok-put_line.ensures.done) c.in_ok-put_line.ensures.work;
      few = omega (arith, c.loop-line.invariant.few, c.in_ok-put_line.ensures.frames, shorter);
      form = c.in_ok-put_line.ensures.form ∙ c.loop-line.invariant.form;
      behind = c.in_ok-put_line.ensures.behind;
    }

pub returns-in_err-put_line-clause-put : goal.returns-in_err-put_line-clause-put
returns-in_err-put_line-clause-put g c =
    λ warnings begun told.
    put_at_err _ c.from_residual.result c.from_residual.ensures.1
    (cut_at c.loop-line.left.items c.pop.new.self.items c.in-Some.line c.in-Some.ensures.items c.requires.long
    (c.loop-line.invariant.going warnings begun told).playing
    (rw c.loop-line.invariant.form at c.in_err-put_line.ensures.cut))

pub returns-clause-put : goal.returns-clause-put
returns-clause-put g c =
    λ warnings begun told.
    put_at_ok (none_left c.loop-line.left c.in_default.ensures.cases.0 c.requires.long
    (c.loop-line.invariant.going warnings begun told).playing)

pub returns-clause-work : goal.returns-clause-work
returns-clause-work g c =
    λ warnings begun told.
    all_done c.loop-line.left c.in_default.ensures.cases.0 c.requires.long
    (c.loop-line.invariant.going warnings begun told)
