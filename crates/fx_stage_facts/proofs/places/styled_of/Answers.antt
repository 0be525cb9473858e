use Rattle.std.proofs.Common.{◌+◌, arith, drop}
use Rattle.fx_kinds.specs.Properties.{properties_of}
use Rattle.fx_stage_rows.proofs.RowLemmas.{as_long, few_rows}
use Rattle.fx_stage_facts.specs.Places.{styled_from}
use Rattle.fx_stage_facts.proofs.LoopLemmas.{piece_done, row_left, styled_next}
use Rattle.fx_stage_facts.proofs.places.styled_of.Goals as goal

pub overflow_cast-place : goal.overflow_cast-place
overflow_cast-place c =
    let class = c.args.class in
    let long = as_long class c.properties-row-items.result.now c.properties-row-items.ensures in
    omega (arith, long, few_rows class, c.loop-place-test.true)

pub loop-place-preserved : goal.loop-place-preserved
loop-place-preserved c =
    let class = c.args.class in
    let place = c.loop-place.place in
    piece_done c.loop-place.styled.items c.push_row.new.styled.items _
    (styled_from place (drop place (properties_of class)))
    (styled_from (place + 1) (drop (place + 1) (properties_of class))) _ c.in_ok-push_row.ensures
    (styled_next (properties_of class) place _
    (row_left class c.properties-row-items.result.now place _ c.properties-row-items.ensures c.loop-place-test.true))
    c.loop-place.invariant
