use Rattle.std.proofs.Common.{append_assoc}
use Rattle.fx_gen.specs.Demo.{box_line}
use Rattle.fx_gen.proofs.lines.put_box_line.Goals as goal

pub returns : goal.returns
unfolding box_line
returns c = simp append_assoc c.writeln.ensures.bytes
