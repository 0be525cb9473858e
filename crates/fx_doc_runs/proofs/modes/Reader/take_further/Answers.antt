use Rattle.std.proofs.Common.{refl, arith}
use Rattle.fx_doc_runs.specs.Reached.{TookWhole}
use Rattle.fx_doc_runs.specs.Views.{view}
use Rattle.fx_doc_runs.proofs.Resting.{some_of, none_of, flat_took, flat_shorter, past_column, whole_shorter, further_taken, behind_white}
use Rattle.fx_doc_runs.proofs.Carried.{in_mode}
use Rattle.fx_doc_runs.proofs.modes.Reader.take_further.Goals as goal

pub along-requires-clause-shorter : goal.along-requires-clause-shorter
along-requires-clause-shorter c = flat_shorter c.args.at.text.now c.in_ok-take_tag_end.field-0.now c.args.at.position
    (view c.args.self.now) (view c.take_tag_end.new.self) (c.in_ok-take_tag_end.ensures.took c.args.at.position)

pub returns-then-left-at-clause-took : goal.returns-then-left-at-clause-took
returns-then-left-at-clause-took c = flat_took c.args.at.text.now c.in_ok-take_tag_end.field-0.now
    c.along.result.text.now c.args.at.position c.along.result.position (view c.args.self.now)
    (view c.take_tag_end.new.self) (c.in_ok-take_tag_end.ensures.took c.args.at.position) c.along.ensures.text
    c.along.ensures.line c.along.ensures.column

pub along-requires-in-Some-clause-shorter : goal.along-requires-in-Some-clause-shorter
along-requires-in-Some-clause-shorter c = whole_shorter c.args.self.now c.in-Tight.head c.take.new.self
    c.past_white-left.result.text.now c.in-Some.behind.now c.past_white-left.result.position
    (some_of c.in_ok-behind.field-0 c.in-Some.behind (λ x. TookWhole c.past_white-left.result.text.now
    c.past_white-left.result.position c.in-Tight.head x.now c.take.new.self) c.in-Some.is c.in_ok-behind.ensures.took)

pub along-requires-in-Some-clause-column : goal.along-requires-in-Some-clause-column
along-requires-in-Some-clause-column c = omega (
  arith,
  past_column c.args.at.text.now
      c.past_white-left.result.text.now c.args.at.position c.past_white-left.result.position c.past_white-left.ensures,
)

pub returns-in-Some-clause-took : goal.returns-in-Some-clause-took
returns-in-Some-clause-took c = further_taken c.args.self.now c.in-Tight.head c.take.new.self c.args.at.text.now
    c.past_white-left.result.text.now c.in-Some.behind.now c.along-in-Some.result.text.now c.args.at.position
    c.past_white-left.result.position c.along-in-Some.result.position c.in-Tight.is c.past_white-left.ensures
    (λ e. omega (arith, e, c.if-left-at.false))
    (some_of c.in_ok-behind.field-0 c.in-Some.behind (λ x. TookWhole c.past_white-left.result.text.now
    c.past_white-left.result.position c.in-Tight.head x.now c.take.new.self) c.in-Some.is c.in_ok-behind.ensures.took)
    c.along-in-Some.ensures.text c.along-in-Some.ensures.line c.along-in-Some.ensures.column

pub take_tight-head-requires : goal.take_tight-head-requires
take_tight-head-requires c = (c.take.new.self, refl)

pub along-requires-2-clause-shorter : goal.along-requires-2-clause-shorter
along-requires-2-clause-shorter c = flat_shorter c.past_white-left.result.text.now c.in_ok-take_key.field-0.now
    c.past_white-left.result.position (in_mode c.args.self.now c.turn.new.self)
    (view c.take_key.new.self) c.in_ok-take_key.ensures.took

pub along-requires-2-clause-column : goal.along-requires-2-clause-column
along-requires-2-clause-column c = omega (
  arith,
  past_column c.args.at.text.now
      c.past_white-left.result.text.now c.args.at.position c.past_white-left.result.position c.past_white-left.ensures,
)

pub returns-clause-took : goal.returns-clause-took
returns-clause-took c = behind_white c.args.self.now c.take_key.new.self c.turn.new.self c.in-Tight.head
    c.take.new.self c.take_tight-head.result c.args.at.text.now c.past_white-left.result.text.now
    c.in_ok-take_key.field-0.now c.along-2.result.text.now c.args.at.position c.past_white-left.result.position
    c.along-2.result.position c.in-Tight.is c.past_white-left.ensures (λ e. omega (arith, e, c.if-left-at.false))
    (none_of c.in_ok-behind.field-0 _ c.in_default-2.not-Some c.in_ok-behind.ensures.none)
    c.take_tight-head.ensures.tag c.turn.ensures c.in_ok-take_key.ensures.took c.along-2.ensures.text c.along-2.ensures.line
    c.along-2.ensures.column
