-- each clause from the answer that the text has
use Rattle.std.proofs.Common.{subst}
use Rattle.std.specs.Str.{chars}
use Rattle.fx_expr.specs.Reading.{IsAnswer, reading_of}
use Rattle.fx_expr.proofs.ReadingLemmas.{outcome, read_found, read_few, read_within, read_only, read_syntax, read_deep, read_too_deep, read_operands}
use Rattle.fx_expr.proofs.reading.read_expr.Goals as goal

pub returns-clause-found : goal.returns-clause-found
returns-clause-found c = read_found (chars c.args.text.now) (reading_of (chars c.args.text.now)) c.parsed.result (outcome (chars c.args.text.now)) c.parsed.ensures

pub returns-clause-few : goal.returns-clause-few
returns-clause-few c = read_few (chars c.args.text.now) (reading_of (chars c.args.text.now)) c.parsed.result (outcome (chars c.args.text.now)) c.parsed.ensures

pub returns-clause-within : goal.returns-clause-within
returns-clause-within c = read_within (chars c.args.text.now) (reading_of (chars c.args.text.now)) c.parsed.result (outcome (chars c.args.text.now)) c.parsed.ensures

pub returns-clause-only : goal.returns-clause-only
returns-clause-only c = read_only (chars c.args.text.now) (reading_of (chars c.args.text.now)) c.parsed.result (outcome (chars c.args.text.now)) c.parsed.ensures

pub returns-clause-syntax : goal.returns-clause-syntax
returns-clause-syntax c e = read_syntax (chars c.args.text.now) (reading_of (chars c.args.text.now)) (outcome (chars c.args.text.now)) (subst (λ r. IsAnswer (reading_of (chars c.args.text.now)) r) e c.parsed.ensures)

pub returns-clause-deep : goal.returns-clause-deep
returns-clause-deep c e = read_deep (chars c.args.text.now) (reading_of (chars c.args.text.now)) (outcome (chars c.args.text.now)) (subst (λ r. IsAnswer (reading_of (chars c.args.text.now)) r) e c.parsed.ensures)

pub returns-clause-too_deep : goal.returns-clause-too_deep
returns-clause-too_deep c e = read_too_deep (chars c.args.text.now) (reading_of (chars c.args.text.now)) (outcome (chars c.args.text.now)) (subst (λ r. IsAnswer (reading_of (chars c.args.text.now)) r) e c.parsed.ensures)

pub returns-clause-operands : goal.returns-clause-operands
returns-clause-operands c e = read_operands (chars c.args.text.now) (reading_of (chars c.args.text.now)) (outcome (chars c.args.text.now)) (subst (λ r. IsAnswer (reading_of (chars c.args.text.now)) r) e c.parsed.ensures)
