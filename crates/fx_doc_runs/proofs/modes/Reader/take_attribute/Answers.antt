use Rattle.std.proofs.Common.{refl}
use Rattle.fx_doc_runs.specs.Reached.{Took, TookWhole}
use Rattle.fx_doc_runs.specs.Views.{view}
use Rattle.fx_doc_runs.specs.declared.modes.Mode.TheVariants as v
use Rattle.fx_doc_runs.proofs.Carried.{turned}
use Rattle.fx_doc_runs.proofs.Resting.{some_of, none_of, whole_shorter, attribute_taken, key_behind}
use Rattle.fx_doc_runs.proofs.modes.Reader.take_attribute.Goals as goal

pub along-requires-2-clause-shorter : goal.along-requires-2-clause-shorter
along-requires-2-clause-shorter c = whole_shorter c.args.self.now c.in-Spaced.head c.take.new.self c.args.at.text.now
    c.in-Some.behind.now c.args.at.position
    (some_of c.in_ok-behind.field-0 c.in-Some.behind (λ x. TookWhole c.args.at.text.now c.args.at.position
    c.in-Spaced.head x.now c.take.new.self) c.in-Some.is c.in_ok-behind.ensures.took)

pub take_spaced-head-requires : goal.take_spaced-head-requires
take_spaced-head-requires c = (c.take.new.self, refl)

pub returns-clause-took : goal.returns-clause-took
returns-clause-took c =
    turned (Took c.args.at.text.now c.args.at.position (view c.args.self.now) c.along-2.result.text.now
    c.along-2.result.position) c.args.self.now.held (v.Tight c.take_spaced-head.result) c.turn.new.self c.turn.ensures
    (attribute_taken c.args.self.now c.in-Spaced.head c.take.new.self c.take_spaced-head.result
    c.args.at.text.now c.in-Some.behind.now c.along-2.result.text.now c.args.at.position
    c.along-2.result.position c.in-Spaced.is
    (some_of c.in_ok-behind.field-0 c.in-Some.behind (λ x. TookWhole c.args.at.text.now c.args.at.position
    c.in-Spaced.head x.now c.take.new.self) c.in-Some.is c.in_ok-behind.ensures.took)
    c.take_spaced-head.ensures.tag c.along-2.ensures.text c.along-2.ensures.line c.along-2.ensures.column)

pub returns-in_default-2-clause-took : goal.returns-in_default-2-clause-took
returns-in_default-2-clause-took c = key_behind c.args.self.now c.take_key.new.self c.in-Spaced.head c.take.new.self
    c.args.at.text.now c.in_ok-take_key.field-0.now c.along.result.text.now c.args.at.position c.along.result.position
    c.in-Spaced.is (none_of c.in_ok-behind.field-0 _ c.in_default-2.not-Some c.in_ok-behind.ensures.none)
    c.in_ok-take_key.ensures.took c.along.ensures.text c.along.ensures.line c.along.ensures.column
