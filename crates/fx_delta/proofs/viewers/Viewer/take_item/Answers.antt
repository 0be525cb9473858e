-- no end, but a row item
use Rattle.std.proofs.Common.{sym, ◌∙◌, ◌≡◌, false, codes}
use Rattle.std.specs.Str.{bytes_eq}
use Rattle.fx_delta.specs.Lines.{item_in, words}
use Rattle.fx_delta.proofs.viewers.Viewer.take_item.Goals as goal

pub returns : goal.returns
returns c =
    let other : bytes_eq c.args.line.now (codes "endframe") ≡ false = sym c.is_end.ensures ∙ c.if-is_end.false in
    rw other (c.show.ensures (item_in (words c.args.line.now)) c.args.out.now.items c.in_ok-item.ensures)
