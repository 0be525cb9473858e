use Rattle.std.proofs.Common.{sym, ◌∙◌, ap}
use Rattle.fx_doc_runs.specs.Reached.{TookFlat}
use Rattle.fx_doc_runs.specs.Views.{moved, view}
use Rattle.fx_doc_runs.proofs.Carried.{turned}
use Rattle.fx_doc_runs.proofs.Signing.{end_taken}
use Rattle.fx_doc_runs.proofs.modes.Reader.take_end.Goals as goal

pub returns-in-Ok-Some-clause-took : goal.returns-in-Ok-Some-clause-took
returns-in-Ok-Some-clause-took c = λ p.
    turned (TookFlat c.args.rest.now p (view c.args.self.now) c.in-Some-behind_byte.left.now) c.close.new.self
    c.in-Ok-Some.mode c.turn.new.self c.turn.ensures
    (end_taken c.args.self.now c.close.new.self c.in-Ok-Some.mode c.args.rest.now
    c.args.behind.now c.in-Some.name.now c.in-Some.more.now c.in-Some-behind_byte.left.now p c.requires.inside
    c.requires.begun c.in-Some.ensures c.in-Some-behind_byte.ensures.some
    (c.is_open_name.ensures c.if-not-is_open_name.false) (ap (moved c.close.new.self) (sym c.in-Ok-Some.field-0-is)
    ∙ c.in-Ok-Some.ensures))
