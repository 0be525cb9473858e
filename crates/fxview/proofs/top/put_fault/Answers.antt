-- nothing is written where memory is wanting
use Rattle.fxview.specs.Viewing.{fault_line}
use Rattle.fx_port.proofs.Growth.{Writes-at_err, stops_between, up_to_start}
use Rattle.fxview.proofs.top.put_fault.Goals as goal

pub returns-in_err-text-clause-writes : goal.returns-in_err-text-clause-writes
returns-in_err-text-clause-writes g c =
    Writes-at_err _ c.from_residual.result c.from_residual.ensures.1
    (stops_between (up_to_start (g.O.Sink.written c.args.out.now) (fault_line c.args.kind.now c.args.name.now c.args.line)))
