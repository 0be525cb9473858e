-- what is told stands in the trace
use Rattle.std.proofs.Common.{refl}
use Rattle.fx_plain_explain.specs.Explaining.{explain_cost, find_attached}
use Rattle.fx_play_frames.proofs.LineLemmas.{on_ok}
use Rattle.fx_play_frames.proofs.game.Game.explain.Goals as goal

pub returns-clause-explained : goal.returns-clause-explained
returns-clause-explained g c =
    on_ok c.explain_line.result c.explain_line.ensures.told
    (λ explained. record {
      cost = explain_cost c.args.self.now.stage (find_attached c.args.self.now.stage c.args.path.now);
      done = record {
        step = record {
          text = c.explain_line.new.trace.text.items;
          heard = c.explain_line.new.trace.heard.items;
          world = c.explain_line.new.stage;
        };
        explained = explained;
        after = refl;
        told_so = refl;
        sum = refl;
      };
      few = c.explain_line.ensures.few;
    })
