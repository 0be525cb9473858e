use Rattle.std.proofs.Common.{refl}
use Rattle.fx_doc_runs.specs.Reached.{TookFlat}
use Rattle.fx_doc_runs.specs.Views.{view}
use Rattle.fx_doc_runs.specs.declared.modes.Mode.TheVariants as v
use Rattle.fx_doc_runs.proofs.Attributing.{value_whole}
use Rattle.fx_doc_runs.proofs.Carried.{turned}
use Rattle.fx_doc_runs.proofs.modes.Reader.take_value.Goals as goal

pub take_valued-valued-requires : goal.take_valued-valued-requires
take_valued-valued-requires c = (c.take.new.self, refl)

pub returns-clause-took : goal.returns-clause-took
returns-clause-took c = λ p. turned (TookFlat c.args.rest.now p (view c.args.self.now) c.in-Some.behind.now)
    c.args.self.now.held (v.Tight c.in-Ok-into_head.head) c.turn.new.self c.turn.ensures
    (value_whole c.args.self.now c.in-Quoted.valued c.take.new.self c.take_valued-valued.result
    c.in-Ok-into_head.head c.args.rest.now c.in-Ok.left.now c.in-Some.behind.now c.quote_byte.result p
    c.in-Quoted.is c.in-Ok.ensures c.quote_byte.ensures c.in-Some.ensures.some c.take_valued-valued.ensures.value
    c.in-Ok-into_head.ensures)
