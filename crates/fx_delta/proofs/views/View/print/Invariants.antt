-- the rows so far stand behind what stood there
use Rattle.std.proofs.Common.{◌≡◌, ◌++◌}
use Rattle.fx_delta.proofs.PictureLemmas.{rows_text}
use Rattle.fx_delta.proofs.views.View.print.Given as goal

abbrev pub invariant-loop-y : goal.invariant-loop-y
invariant-loop-y l = l.out.items ≡ l.fn.out.items ++ rows_text l.self l.y
