-- the lines are taken and counted one by one
use Rattle.std.proofs.Common.{◌≡◌, ◌∙◌, ap, arith, length, map, refl}
use Rattle.std.proofs.lemmas.List.{length-reverse}
use Rattle.fx_frame_text.specs.declared.forms.Form.TheVariants.{Text}
use Rattle.fx_plain_work.specs.Works.{counted}
use Rattle.fx_play_frames.specs.Games.{game_of, sight_of}
use Rattle.fx_script_commands.specs.Requests.{line_view}
use Rattle.fx_play_runs.proofs.CountLemmas.{adds_up, none_uncounted}
use Rattle.fx_play_runs.proofs.LineLemmas.{one_less}
use Rattle.fx_play_runs.proofs.WorkLemmas.{all_added, all_to_add, one_added}
use Rattle.fx_play_runs.proofs.summaries.count_lines.Goals as goal

pub loop-line-init : goal.loop-line-init
loop-line-init g c =
    let turned = c.reverse.ensures.items in
    let long : length c.reverse.new.self.items ≡ length c.args.lines.items =
    ap length turned ∙ length-reverse c.args.lines.items in
    record {
      adding = λ form.
          all_to_add form
          (record {
            game = game_of c.args.game.now;
            sight = sight_of c.args.game.now;
            lines = map line_view c.args.lines.items;
            count = counted c.args.work.now.styled c.args.work.now.laid c.args.work.now.painted;
            evaluated = c.args.work.now.evaluated;
          })
          c.args.lines.items refl turned;
      few = omega (arith, c.requires.few, c.requires.fresh, long);
    }

pub with-totals-requires-clause-frames : goal.with-totals-requires-clause-frames
with-totals-requires-clause-frames g c =
    (adds_up c.args.lines (c.loop-line.invariant.adding Text).counting c.requires.few c.in_ok-more.ensures.small).frames

pub with-totals-requires-clause-area : goal.with-totals-requires-clause-area
with-totals-requires-clause-area g c =
    (adds_up c.args.lines (c.loop-line.invariant.adding Text).counting c.requires.few c.in_ok-more.ensures.small).area

pub with-totals-requires-clause-notices : goal.with-totals-requires-clause-notices
with-totals-requires-clause-notices g c =
    (adds_up c.args.lines (c.loop-line.invariant.adding Text).counting c.requires.few c.in_ok-more.ensures.small).notices

pub with-totals-requires-clause-pixels : goal.with-totals-requires-clause-pixels
with-totals-requires-clause-pixels g c =
    (adds_up c.args.lines (c.loop-line.invariant.adding Text).counting c.requires.few c.in_ok-more.ensures.small).pixels

pub loop-line-preserved : goal.loop-line-preserved
loop-line-preserved g c =
    let shorter = one_less c.loop-line.left.items c.pop.new.self.items c.in-Some.line c.in-Some.ensures.items in
    record {
      adding = λ form.
          one_added form c.loop-line.left.items c.pop.new.self.items c.in-Some.line c.in-Some.ensures.items
          (c.loop-line.invariant.adding form) (c.in_ok-more.ensures.counted form) c.in_ok-more.ensures.work
          c.in_ok-more.ensures.small c.with-totals.ensures;
      few = omega (arith, c.loop-line.invariant.few, c.in_ok-more.ensures.frames, shorter);
    }

pub returns-clause-counted : goal.returns-clause-counted
returns-clause-counted g c =
    λ form. none_uncounted form c.loop-line.left c.in_default.ensures.cases.0 (c.loop-line.invariant.adding form).counting

pub returns-clause-work : goal.returns-clause-work
returns-clause-work g c =
    λ form. all_added c.loop-line.left c.in_default.ensures.cases.0 (c.loop-line.invariant.adding form)
