-- no line feed, or the first one
use Rattle.std.proofs.Common.{◌-◌, sym}
use Rattle.fxview.proofs.ShowLemmas.{split-none, parts_at}
use Rattle.fxview.proofs.streams.split_line.Goals as goal

pub returns-in_err-end : goal.returns-in_err-end
returns-in_err-end c = rw c.from_residual.ensures (split-none c.args.text.now (sym c.in_err-end.ensures.place))

pub returns : goal.returns
returns c = parts_at c.args.text.now c.in_ok-end.end (sym c.in_ok-end.ensures.place) c.in_ok-end.ensures.within
