use Rattle.std.proofs.Common.{arith}
use Rattle.std.specs.Str.{chars}
use Rattle.fx_doc_runs.specs.Views.{view}
use Rattle.fx_doc.proofs.Turning.{line_fits, column_fits, one_reached, took_reached, still_reached, stops_reached, ends_reached, stopped_reached, root_reached}
use Rattle.fx_doc.proofs.Loops.{passed}
use Rattle.fx_doc.proofs.reading.read_text.Goals as goal

pub loop-c-preserved : goal.loop-c-preserved
loop-c-preserved c =
    let h = still_reached c.args.text.now c.loop-c.at.text.now c.in_ok-left.left.text.now c.loop-c.at.position
    c.in_ok-left.left.position (view c.loop-c.reader) (view c.take_ahead.new.self) c.loop-c.invariant
    c.in_ok-left.ensures.took (λ e. omega (arith, e, c.if-left-at.false)) in
    one_reached c.args.text.now c.loop-c.at.text.now c.in-Some.behind.now c.loop-c.at.position c.after.result
    c.take_ahead.new.self c.read_character.new.reader c.in-Some.c h c.in-Some.ensures.some.0 c.in-Some.ensures.some.1
    c.in-Some.ensures.utf8 c.in_ok-read_character.ensures c.after.ensures

pub loop-c-preserved-then-left-at : goal.loop-c-preserved-then-left-at
loop-c-preserved-then-left-at c =
    took_reached c.args.text.now c.loop-c.at.text.now c.in_ok-left.left.text.now c.loop-c.at.position
    c.in_ok-left.left.position c.loop-c.reader c.take_ahead.new.self c.loop-c.invariant c.in_ok-left.ensures.took

pub returns-in_err-read_character : goal.returns-in_err-read_character
returns-in_err-read_character c =
    let h = still_reached c.args.text.now c.loop-c.at.text.now c.in_ok-left.left.text.now c.loop-c.at.position
    c.in_ok-left.left.position (view c.loop-c.reader) (view c.take_ahead.new.self) c.loop-c.invariant
    c.in_ok-left.ensures.took (λ e. omega (arith, e, c.if-left-at.false)) in
    passed (chars c.args.text.now) c.from_residual-in_err-read_character.result c.in_err-read_character.field-0.0 c.from_residual-in_err-read_character.ensures.1
    (stops_reached c.args.text.now c.loop-c.at.text.now c.in-Some.behind.now c.loop-c.at.position
    c.take_ahead.new.self c.read_character.new.reader c.in-Some.c c.in_err-read_character.field-0.0 h
    c.in-Some.ensures.some.0 c.in_err-read_character.ensures)

pub first_character-requires-text-text : goal.first_character-requires-text-text
first_character-requires-text-text c = λ _. c.loop-c.invariant.utf8

pub after-requires-clause-line : goal.after-requires-clause-line
after-requires-clause-line c = omega (
  arith,
  line_fits c.args.text.now c.loop-c.at.text.now c.loop-c.at.position (view
      c.loop-c.reader) c.loop-c.invariant c.requires,
)

pub after-requires-clause-column : goal.after-requires-clause-column
after-requires-clause-column c = omega (
  arith,
  column_fits c.args.text.now c.loop-c.at.text.now c.loop-c.at.position
      (view c.loop-c.reader) c.loop-c.invariant c.requires,
)

pub into_document-requires : goal.into_document-requires
into_document-requires c = root_reached c.args.text.now c.loop-c.at.text.now c.loop-c.at.position c.loop-c.reader
    c.loop-c.invariant

pub returns-in-Some-into_document : goal.returns-in-Some-into_document
returns-in-Some-into_document c = ends_reached c.args.text.now c.loop-c.at.text.now c.loop-c.at.position
    c.loop-c.reader c.in-Some-into_document.document c.loop-c.invariant c.in_default.ensures.none
    c.in-Some-into_document.ensures

pub returns-in-None : goal.returns-in-None
returns-in-None c = stopped_reached c.args.text.now c.loop-c.at.text.now c.loop-c.at.position c.loop-c.reader
    c.loop-c.invariant c.in_default.ensures.none c.in-None.ensures

pub take_ahead-requires-clause-line : goal.take_ahead-requires-clause-line
take_ahead-requires-clause-line c = omega (
  arith,
  line_fits c.args.text.now c.loop-c.at.text.now c.loop-c.at.position
      (view c.loop-c.reader) c.loop-c.invariant c.requires,
)

pub take_ahead-requires-clause-column : goal.take_ahead-requires-clause-column
take_ahead-requires-clause-column c = omega (
  arith,
  column_fits c.args.text.now c.loop-c.at.text.now
      c.loop-c.at.position (view c.loop-c.reader) c.loop-c.invariant c.requires,
)
