-- the line is carried out, and what it says is printed
use Rattle.fx_plain_times.specs.Lines.{time_cost, timed}
use Rattle.fx_play_times.specs.Shown.{clock_of}
use Rattle.fx_play_times.proofs.TimeLemmas.{few_told, line_told}
use Rattle.fx_play_times.proofs.clock.Clock.take.Goals as goal

pub returns-clause-passed : goal.returns-clause-passed
returns-clause-passed g c =
    let clock = clock_of c.args.self.now in
    let world = c.args.stage.now in
    line_told c.args.number clock (clock_of c.carry_out-answer.new.self) world c.carry_out-answer.new.stage c.clear.new.self
    c.carry_out-answer.new.trace c.print_error.new.trace (timed c.args.line.now clock world) c.carry_out-answer.result
    c.print_error.result c.clear.ensures c.carry_out-answer.ensures.timed c.print_error.ensures

pub returns-clause-few : goal.returns-clause-few
returns-clause-few g c =
    few_told c.args.number c.carry_out-answer.result c.carry_out-answer.new.trace c.print_error.new.trace c.print_error.result
    c.args.work.now.evaluated c.carry_out-answer.new.work.evaluated
    (time_cost c.args.line.now (clock_of c.args.self.now) c.args.stage.now) c.print_error.ensures
    c.carry_out-answer.ensures.few c.carry_out-answer.ensures.still
