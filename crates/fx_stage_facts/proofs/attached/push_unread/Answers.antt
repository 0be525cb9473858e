use Rattle.std.proofs.Common.{◌∙◌, ◌+◌, ◌++◌, ◌&&◌, Bool, ap, arith, drop, filter, sym}
use Rattle.fx_base.specs.Names.{numbers}
use Rattle.fx_graph_model.specs.Unread.{marked}
use Rattle.fx_kinds.specs.Properties.{properties_of}
use Rattle.fx_stage_rows.proofs.RowLemmas.{as_long, few_rows}
use Rattle.fx_stage_facts.specs.Attached.{displayed_from, one_if}
use Rattle.fx_stage_facts.proofs.CodeLemmas.{row_told}
use Rattle.fx_stage_facts.proofs.LoopLemmas.{piece_done, row_left, unread_next}
use Rattle.fx_stage_facts.proofs.attached.push_unread.Goals as goal

pub overflow_cast-name : goal.overflow_cast-name
overflow_cast-name c =
    let class = c.args.node.now.class in
    let long = as_long class c.properties-row-items.result.now c.properties-row-items.ensures in
    omega (arith, long, few_rows class, c.loop-place-test.true)

pub overflow_add-name : goal.overflow_add-name
overflow_add-name c =
    let class = c.args.node.now.class in
    let long = as_long class c.properties-row-items.result.now c.properties-row-items.ensures in
    omega (arith, long, few_rows class, c.loop-place-test.true, c.requires)

pub loop-place-preserved : goal.loop-place-preserved
loop-place-preserved c =
    let class = c.args.node.now.class in
    let first = c.args.node.now.first in
    let unread = c.args.store.now.unread in
    let place = c.loop-place.place in
    let more = filter (marked unread) (displayed_from (first + (place + 1)) (drop (place + 1) (properties_of class))) in
    piece_done (numbers c.loop-place.names.items) (numbers c.push_left.new.names.items) _
    (filter (marked unread) (displayed_from (first + place) (drop place (properties_of class)))) more _
    c.in_ok-push_left.ensures
    (unread_next unread first (properties_of class) place _
    (row_left class c.properties-row-items.result.now place _ c.properties-row-items.ensures c.loop-place-test.true)
    ∙ ap (λ (b : Bool). one_if (marked unread (first + place) && b) (first + place) ++ more)
    (sym (row_told class c.properties-row-items.result.now place _ c.properties-row-items.ensures c.loop-place-test.true)))
    c.loop-place.invariant
