-- the lines so far stand in front of those of the parts that are left
use Rattle.std.proofs.Common.{◌≡◌, ◌++◌, drop}
use Rattle.fx_load.specs.Telling.{style_lines}
use Rattle.fx_load.proofs.telling.add_style.Given as goal

abbrev pub invariant-loop-part : goal.invariant-loop-part
invariant-loop-part l =
    l.text.items ++ style_lines l.files l.place (drop l._part-index l.dropped) ≡ l.fn.text.items ++ style_lines l.files l.place l.dropped
