use Rattle.fx_doc_runs.specs.Reached.{TookFlat}
use Rattle.fx_doc_runs.specs.Views.{view}
use Rattle.fx_doc_runs.specs.declared.modes.Mode.TheVariants as v
use Rattle.fx_doc_runs.proofs.Carried.{turned}
use Rattle.fx_doc_runs.proofs.Signing.{begun_taken}
use Rattle.fx_doc_runs.proofs.modes.Reader.take_sign.Goals as goal

pub returns-in-Some-behind_three-clause-took : goal.returns-in-Some-behind_three-clause-took
returns-in-Some-behind_three-clause-took c =
    turned (TookFlat c.args.rest.now c.args.position (view c.args.self.now) c.in-Some-behind_three.left.now)
    c.args.self.now.held v.Commented c.turn.new.self c.turn.ensures
    (begun_taken c.args.self.now c.args.rest.now c.in-Some.behind.now c.in-Some-behind_three.left.now c.args.position
    c.requires c.in-Some.ensures.some c.in-Some-behind_three.ensures)
