use Rattle.std.proofs.Common.{append_assoc}
use Rattle.fx_gen.specs.Demo.{label}
use Rattle.fx_gen.proofs.lines.put_label.Goals as goal

pub returns : goal.returns
unfolding label
returns c =
    let whole = rw (c.in_ok-put_width.ensures, c.in_ok-write.ensures.bytes) at c.writeln.ensures.bytes in
    simp append_assoc (simp append_assoc at whole)
