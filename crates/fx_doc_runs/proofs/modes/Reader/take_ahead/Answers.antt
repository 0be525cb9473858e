use Rattle.std.proofs.Common.{arith}
use Rattle.fx_doc_runs.specs.Views.{view}
use Rattle.fx_doc_runs.proofs.Resting.{flat_took, flat_shorter, past_column, spaced_then}
use Rattle.fx_doc_runs.proofs.modes.Reader.take_ahead.Goals as goal

pub along-requires-clause-shorter : goal.along-requires-clause-shorter
along-requires-clause-shorter c = flat_shorter c.args.at.text.now c.take_comment.result.now c.args.at.position
    (view c.args.self.now) (view c.take_comment.new.self) (c.take_comment.ensures c.args.at.position)

pub along-requires-in-Instructed-clause-shorter : goal.along-requires-in-Instructed-clause-shorter
along-requires-in-Instructed-clause-shorter c = flat_shorter c.args.at.text.now
    c.in_ok-take_instruction-in-Instructed.field-0.now
    c.args.at.position (view c.args.self.now) (view c.take_instruction.new.self)
    (c.in_ok-take_instruction-in-Instructed.ensures.took c.args.at.position)

pub along-requires-in-Quoted-clause-shorter : goal.along-requires-in-Quoted-clause-shorter
along-requires-in-Quoted-clause-shorter c = flat_shorter c.args.at.text.now c.in_ok-take_value-in-Quoted.field-0.now
    c.args.at.position (view c.args.self.now) (view c.take_value.new.self)
    (c.in_ok-take_value-in-Quoted.ensures.took c.args.at.position)

pub take_attribute-requires : goal.take_attribute-requires
take_attribute-requires c = omega (
  arith,
  past_column c.args.at.text.now c.past_white.result.text.now
      c.args.at.position c.past_white.result.position c.past_white.ensures,
)

pub returns-in-Commented-clause-took : goal.returns-in-Commented-clause-took
returns-in-Commented-clause-took c = flat_took c.args.at.text.now c.take_comment.result.now c.along.result.text.now
    c.args.at.position c.along.result.position (view c.args.self.now) (view c.take_comment.new.self)
    (c.take_comment.ensures c.args.at.position) c.along.ensures.text c.along.ensures.line c.along.ensures.column

pub returns-in_ok-take_instruction-in-Instructed-clause-took :
    goal.returns-in_ok-take_instruction-in-Instructed-clause-took
returns-in_ok-take_instruction-in-Instructed-clause-took c = flat_took c.args.at.text.now
    c.in_ok-take_instruction-in-Instructed.field-0.now c.along-in-Instructed.result.text.now c.args.at.position
    c.along-in-Instructed.result.position (view c.args.self.now) (view c.take_instruction.new.self)
    (c.in_ok-take_instruction-in-Instructed.ensures.took c.args.at.position) c.along-in-Instructed.ensures.text
    c.along-in-Instructed.ensures.line c.along-in-Instructed.ensures.column

pub returns-in_ok-take_value-in-Quoted-clause-took : goal.returns-in_ok-take_value-in-Quoted-clause-took
returns-in_ok-take_value-in-Quoted-clause-took c = flat_took c.args.at.text.now c.in_ok-take_value-in-Quoted.field-0.now
    c.along-in-Quoted.result.text.now c.args.at.position c.along-in-Quoted.result.position (view c.args.self.now)
    (view c.take_value.new.self) (c.in_ok-take_value-in-Quoted.ensures.took c.args.at.position)
    c.along-in-Quoted.ensures.text
    c.along-in-Quoted.ensures.line c.along-in-Quoted.ensures.column

pub returns-in-Spaced-clause-took : goal.returns-in-Spaced-clause-took
returns-in-Spaced-clause-took c = spaced_then c.take_attribute.result (λ x. x.text.now) (λ x. x.position)
    c.args.self.now c.take_attribute.new.self c.in-Spaced.field-0 c.args.at.text.now c.past_white.result.text.now
    c.args.at.position c.past_white.result.position c.in-Spaced.is c.past_white.ensures c.take_attribute.ensures.took
