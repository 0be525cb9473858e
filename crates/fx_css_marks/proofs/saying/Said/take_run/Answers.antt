use Rattle.fx_css_marks.proofs.Sayings.{took_run}
use Rattle.fx_css_marks.proofs.saying.Said.take_run.Goals as goal

pub returns-clause-took : goal.returns-clause-took
returns-clause-took c =
    took_run c.args.self.now c.say.new.self c.args.text.now c.split_at.result.0.now c.split_at.result.1.now c.bare_length.result
    c.bare_length.ensures.length c.split_at.ensures.front c.split_at.ensures.back c.in_ok-say.ensures.bytes c.in_ok-say.ensures.signs
