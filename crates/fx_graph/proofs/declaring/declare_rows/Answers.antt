use Rattle.std.proofs.Common.{◌≡◌, ◌+◌, ap, length, ◌∙◌, arith}
use Rattle.std.proofs.lemmas.List.{length_push}
use Rattle.fx_graph_model.specs.Changes.{State, new_entry}
use Rattle.fx_graph.specs.Store.{shown}
use Rattle.fx_graph.proofs.RowLemmas.{next_row}
use Rattle.fx_graph.proofs.declaring.declare_rows.Goals as goal

pub push_row-requires-clause-room : goal.push_row-requires-clause-room
push_row-requires-clause-room g c = c.loop-place.invariant.room 1 (omega (arith, c.loop-place-test.true))

pub loop-place-preserved : goal.loop-place-preserved
loop-place-preserved g c =
    let row = c.row-read_only.result in
    let entries = c.loop-place.lists.entries.items in
    let longer : length c.push_row.new.lists.entries.items ≡ length entries + 1 =
    ap (λ (s : State). length s.entries) c.push_row.ensures.declared
    ∙ length_push entries (new_entry c.kind.result row.0 row.1) in
    record {
      holds = c.push_row.ensures.holds;
      declared = next_row (g.R.Rows.rows c.args.rows.now) c.loop-place.place row.0 row.1 c.kind.result (shown c.args.lists.now)
          (shown c.loop-place.lists) (shown c.push_row.new.lists) c.row-read_only.ensures c.kind.ensures
          c.loop-place.invariant.declared c.push_row.ensures.declared;
      many = omega (arith, longer, c.loop-place.invariant.many);
      room = λ more h. c.push_row.ensures.room more (c.loop-place.invariant.room (more + 1) (omega (arith, h)));
    }
