use Rattle.std.proofs.Common.{Option, ap, sym, ◌∙◌}
use Rattle.fx_base.specs.declared.positions.Position.{Position}
use Rattle.fx_doc_runs.specs.Reached.{run_first}
use Rattle.fx_doc_runs.proofs.Flowing.{first_stays}
use Rattle.fx_doc_runs.proofs.runs.first_in.Goals as goal

pub returns-in-Some : goal.returns-in-Some
returns-in-Some c = sym (ap (λ (o : Option Position). run_first c.args.position c.args.piece.now o) c.in-Some.is ∙ first_stays c.args.piece.now c.args.position c.in-Some.shown)
