use Rattle.std.proofs.Common.{arith, ◌≡◌, false, List, Bool, ap, sym, ◌∙◌}
use Rattle.std.proofs.lemmas.List.{get_or_read}
use Rattle.fx_graph_model.specs.Unread.{marked}
use Rattle.fx_graph_model.proofs.Reading.{part_none, part_end}
use Rattle.fx_graph.specs.Store.{shown}
use Rattle.fx_graph.proofs.reading.settle.Goals as goal

pub returns-then-not-index-clause-ok : goal.returns-then-not-index-clause-ok
returns-then-not-index-clause-ok g c =
    let l = c.args.lists.now in
    let s = c.requires.holds.settled in
    let off : marked l.unread.items c.args.name ≡ false =
    sym (get_or_read l.unread.items c.args.name c.index.result.now (omega (arith, c.requires.known, s.flags)) c.index.ensures false) ∙ c.if-not-index.true in
    ap (λ (f : List Bool). record (shown l) { unread = f }) (part_end l.entries.items _ _ _ (part_none _ _ _) s.closed off)
