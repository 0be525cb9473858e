-- the item lies within the picture
use Rattle.std.proofs.Common.{sym, ◌∙◌}
use Rattle.fx_delta.proofs.ReadingLemmas.{Takes-item}
use Rattle.fx_delta.proofs.viewers.Viewer.show.Goals as goal

pub returns : goal.returns
returns c = λ said out h.
    Takes-item _ c.args.self.now c.self.inside.view c.put.new.self c.self.inside.left said c.in-Some.item c.len.result c.as_slice.result.now out
    c.self.view_is c.requires (rw c.in-Some.is at h) c.as_slice.ensures.value (c.len.ensures ∙ sym c.as_slice.ensures.len)
    (sym c.holds.ensures ∙ c.if-not-holds.false) c.laws.ensures.narrow c.laws.ensures.low c.put.ensures
