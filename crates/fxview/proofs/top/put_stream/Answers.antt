-- what is shown, and the fault line behind it
use Rattle.std.proofs.Common.{◌≡◌, ◌∙◌, sym, subst, ℕ, Option, Some, codes}
use Rattle.fx_delta.specs.Stream.{shown}
use Rattle.fx_port.specs.Pieces.{Writes}
use Rattle.fxview.specs.Viewing.{fault_line, output_of_shown}
use Rattle.fxview.proofs.ShowLemmas.{writes_behind}
use Rattle.fxview.proofs.top.put_stream.Goals as goal

pub returns-in-Some-clause-writes : goal.returns-in-Some-clause-writes
returns-in-Some-clause-writes g c =
    let sink = g.O.Sink in
    let all = (shown c.args.stream.now).bytes in
    let Told : Option ℕ → Type 0 =
    λ bad. Writes (sink.written c.args.out.now) (sink.written c.put_fault.new.out) c.put_fault.result (output_of_shown c.args.name.now all bad).bytes in
    let line : Some c.in-Some.line ≡ (shown c.args.stream.now).bad = sym c.in-Some.is ∙ c.in_ok-bad.ensures.bad in
    subst Told line
    (writes_behind c.put_fault.result all (fault_line (codes "stream") c.args.name.now c.in-Some.line) c.in_ok-bad.ensures.writes.ok c.put_fault.ensures.writes)
