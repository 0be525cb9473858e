use Rattle.std.proofs.Common.{◌∙◌, Some, ap, arith, refl, sym}
use Rattle.std.specs.Prelude.{codes}
use Rattle.fx_stage_facts.proofs.AroundLemmas.{next_within}
use Rattle.fx_stage_facts.proofs.LoopLemmas.{as_many}
use Rattle.fx_stage_facts.proofs.ValueLemmas.{small_place}
use Rattle.fx_stage_facts.proofs.places.around_of.Goals as goal

pub overflow_add-second : goal.overflow_add-second
overflow_add-second c =
    omega (arith, small_place c.args.class (codes "width") (Some c.in-Some.front) c.in-Some.front c.in-Some.ensures refl)

pub overflow_sub-behind : goal.overflow_sub-behind
overflow_sub-behind c =
    let within =
    next_within c.args.class c.properties-rows.result.now (codes "height") c.in-Some-place_named.next (Some c.in-Some-place_named.next)
    c.properties-rows.ensures c.in-Some-place_named.ensures refl in
    omega (arith, within, c.if-next-second.false)

pub overflow_sub-behind-2 : goal.overflow_sub-behind-2
overflow_sub-behind-2 c =
    let within =
    next_within c.args.class c.properties-rows.result.now (codes "height") c.in-Some-place_named.next (Some c.in-Some-place_named.next)
    c.properties-rows.ensures c.in-Some-place_named.ensures refl in
    omega (arith, within, c.if-next-second.false)

pub returns : goal.returns
returns c =
    let rows = c.properties-rows.result.now in
    let within =
    next_within c.args.class rows (codes "height") c.in-Some-place_named.next (Some c.in-Some-place_named.next) c.properties-rows.ensures
    c.in-Some-place_named.ensures refl in
    let many = as_many c.args.class rows c.properties-rows.ensures in
    record {
      width = sym c.in-Some.ensures;
      height = sym c.in-Some-place_named.ensures ∙ ap (λ n. Some n) c.if-next-second.false;
      long = omega (arith, within, many, c.if-next-second.false);
    }
