-- each line by its case
use Rattle.std.proofs.Common.{Ok, Result, ap, subst, sym}
use Rattle.fx_plain_times.specs.Lines as spec
use Rattle.fx_plain_times.specs.Lines.{Passed}
use Rattle.fx_play_steps.specs.Traces.{course_of}
use Rattle.fx_script_lines.specs.declared.instructions.Instruction.{Instruction}
use Rattle.fx_stage_types.specs.declared.refusals.Refusal.{Refusal}
use Rattle.fx_play_times.specs.Passing.{IsTimed, passed_as}
use Rattle.fx_play_times.specs.Shown.{clock_of}
use Rattle.fx_play_times.proofs.TimeLemmas.{other_line, still_so}
use Rattle.fx_play_times.proofs.clock.Clock.carry_out.Goals as goal

pub returns-in-Timeline-clause-timed : goal.returns-in-Timeline-clause-timed
unfolding spec.timed
returns-in-Timeline-clause-timed g c =
    let world = c.args.stage.now in
    let course = course_of world c.args.trace.now in
    let clock = clock_of c.args.self.now in
    subst (λ (i : Instruction). IsTimed (spec.timed i clock world) (passed_as clock course)
    (passed_as (clock_of c.add.new.self) course) c.add.result) (sym c.in-Timeline.is)
    (still_so world course (spec.added c.in-Timeline.label c.in-Timeline.count c.in-Timeline.back clock) clock
    (clock_of c.add.new.self) c.add.result (c.requires world) c.add.ensures)

pub returns-in-Keyframe-clause-timed : goal.returns-in-Keyframe-clause-timed
unfolding spec.timed
returns-in-Keyframe-clause-timed g c =
    let world = c.args.stage.now in
    let course = course_of world c.args.trace.now in
    let clock = clock_of c.args.self.now in
    subst (λ (i : Instruction). IsTimed (spec.timed i clock world) (passed_as clock course)
    (passed_as (clock_of c.key.new.self) course) c.key.result) (sym c.in-Keyframe.is)
    (still_so world course (spec.keyed c.in-Keyframe.label c.in-Keyframe.time c.in-Keyframe.path c.in-Keyframe.text clock world) clock
    (clock_of c.key.new.self) c.key.result (c.requires world)
    (rw (c.as_slice.ensures, c.as_str.ensures) at c.key.ensures))

pub returns-in-Play-clause-timed : goal.returns-in-Play-clause-timed
unfolding spec.timed
returns-in-Play-clause-timed g c =
    let world = c.args.stage.now in
    let course = course_of world c.args.trace.now in
    let clock = clock_of c.args.self.now in
    subst (λ (i : Instruction). IsTimed (spec.timed i clock world) (passed_as clock course)
    (passed_as (clock_of c.play.new.self) course) c.play.result) (sym c.in-Play.is)
    (still_so world course (spec.played c.in-Play.label clock) clock
    (clock_of c.play.new.self) c.play.result (c.requires world) c.play.ensures)

pub returns-in-Stop-clause-timed : goal.returns-in-Stop-clause-timed
unfolding spec.timed
returns-in-Stop-clause-timed g c =
    let world = c.args.stage.now in
    let course = course_of world c.args.trace.now in
    let clock = clock_of c.args.self.now in
    subst (λ (i : Instruction). IsTimed (spec.timed i clock world) (passed_as clock course)
    (passed_as (clock_of c.stop.new.self) course) c.stop.result) (sym c.in-Stop.is)
    (still_so world course (spec.halted c.in-Stop.label clock) clock
    (clock_of c.stop.new.self) c.stop.result (c.requires world) c.stop.ensures)

pub returns-in_default-clause-timed : goal.returns-in_default-clause-timed
returns-in_default-clause-timed g c =
    let world = c.args.stage.now in
    let course = course_of world c.args.trace.now in
    let clock = clock_of c.args.self.now in
    subst (λ (answer : Result Passed Refusal). IsTimed answer (passed_as clock course) (passed_as clock course) (Ok tt))
    (sym (other_line c.args.line.now clock world c.in_default.not-Timeline c.in_default.not-Keyframe c.in_default.not-Play
    c.in_default.not-Stop c.in_default.not-Tick))
    (ap (passed_as clock) (c.requires world))
