use Rattle.std.proofs.Common.{arith}
use Rattle.fx_doc_runs.specs.Views.{view, inside_view}
use Rattle.fx_doc_runs.proofs.Resting.{flat_shorter, took_column, inside_taken, inside_then}
use Rattle.fx_doc_runs.proofs.modes.Reader.take_inside.Goals as goal

pub along-requires-clause-shorter : goal.along-requires-clause-shorter
along-requires-clause-shorter c = flat_shorter c.in-Ok.at.text.now c.in_ok-left.left.now c.in-Ok.at.position
    (view (record { held = c.take_text.new.self; mode = c.args.self.now.mode })) (view c.take_sign.new.self)
    c.in_ok-left.ensures.took

pub along-requires-clause-column : goal.along-requires-clause-column
along-requires-clause-column c = omega (
  arith,
  took_column c.args.at.text.now c.in-Ok.at.text.now c.args.at.position
      c.in-Ok.at.position (inside_view c.args.self.now.held) (inside_view c.take_text.new.self) c.in-Ok.ensures,
)

pub returns-clause-took : goal.returns-clause-took
returns-clause-took c = inside_then c.args.self.now (record {
  held = c.take_text.new.self;
  mode = c.args.self.now.mode;
})
    c.take_sign.new.self c.args.at.text.now c.in-Ok.at.text.now c.in_ok-left.left.now c.along.result.text.now
    c.args.at.position c.in-Ok.at.position c.along.result.position
    (inside_taken c.args.self.now c.take_text.new.self c.args.at.text.now c.in-Ok.at.text.now c.args.at.position
    c.in-Ok.at.position c.requires.inside c.in-Ok.ensures) c.in_ok-left.ensures.took c.along.ensures.text
    c.along.ensures.line c.along.ensures.column
