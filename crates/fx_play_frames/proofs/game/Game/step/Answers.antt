use Rattle.std.proofs.Common.{◌∙◌, List, not, ap, refl, subst}
use Rattle.fx_picture.specs.declared.entries.Entry.{Entry}
use Rattle.fx_plain_dispatch.specs.Taking.{IsLine}
use Rattle.fx_play_steps.specs.Traces.{course_of}
use Rattle.fx_script_commands.specs.Requests.{line_view}
use Rattle.fx_play_frames.proofs.LineLemmas.{before_frames, behind_frames, on_ok}
use Rattle.fx_play_frames.proofs.game.Game.step.Goals as goal

pub returns-then-is_none-clause-step : goal.returns-then-is_none-clause-step
returns-then-is_none-clause-step g c =
    let s = c.args.self.now in
    let course = course_of c.act.new.stage c.act.new.trace in
    let same = c.no_picture-nothing.ensures
    ∙ before_frames c.canvas.result s.renderer.canvas s.renderer.picture c.canvas.ensures
    (c.is_none.ensures ∙ ap not c.if-is_none.true) in
    on_ok c.act.result c.act.ensures.line
    (λ taken. record {
      cost = taken.cost;
      done = record {
        course = course;
        taken = subst (λ (entries : List Entry). IsLine entries (line_view c.args.line) s.stage course taken.cost) same taken.done;
        after = refl;
        told_so = refl;
      };
      few = taken.few;
    })

pub returns-clause-step : goal.returns-clause-step
returns-clause-step g c =
    let s = c.args.self.now in
    let course = course_of c.act-2.new.stage c.act-2.new.trace in
    let same = c.picture.ensures
    ∙ behind_frames c.canvas.result s.renderer.canvas s.renderer.picture c.canvas.ensures
    (c.is_none.ensures ∙ ap not c.if-is_none.false) in
    on_ok c.act-2.result c.act-2.ensures.line
    (λ taken. record {
      cost = taken.cost;
      done = record {
        course = course;
        taken = subst (λ (entries : List Entry). IsLine entries (line_view c.args.line) s.stage course taken.cost) same taken.done;
        after = refl;
        told_so = refl;
      };
      few = taken.few;
    })
