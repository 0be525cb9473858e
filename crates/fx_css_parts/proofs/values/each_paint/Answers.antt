use Rattle.std.proofs.Common.{◌≡◌, ◌<◌, ℕ, ◌++◌, Some, sym, ap, ◌∙◌, subst}
use Rattle.std.specs.Option.{option_map}
use Rattle.fx_css_parts.specs.Layers.{left_at}
use Rattle.fx_css_parts.specs.Declaring.{paint_at}
use Rattle.fx_css_parts.proofs.LayerLemmas.{left_length, less_left, layer_turn, layer_fails}
use Rattle.fx_css_parts.proofs.values.each_paint.Goals as goal

pub returns-in_default-2 : goal.returns-in_default-2
returns-in_default-2 c =
    let left : option_map (λ r. r.now) c.loop-left.left ≡ Some c.in-Some.rest.now = ap (λ o. option_map (λ r. r.now) o) c.in-Some.is in
    layer_fails paint_at c.in-Some.rest.now c.split_part.result.0.now c.loop-left.paints.items c.split_part.ensures.part (sym c.in_default-2.is ∙ c.in_ok-paint.ensures)
    ∙ ap (λ o. option_map (λ xs. c.loop-left.paints.items ++ xs) (left_at paint_at o)) (sym left)
    ∙ c.loop-left.invariant

pub loop-left-smaller : goal.loop-left-smaller
loop-left-smaller c =
    let left : option_map (λ r. r.now) c.loop-left.left ≡ Some c.in-Some.rest.now = ap (λ o. option_map (λ r. r.now) o) c.in-Some.is in
    let P : ℕ → Type 0 = λ n. left_length (option_map (λ r. r.now) c.split_part.result.1) < n in
    subst P (sym (ap left_length left)) (less_left c.in-Some.rest.now (option_map (λ r. r.now) c.split_part.result.1) c.split_part.ensures.rest)

pub loop-left-preserved : goal.loop-left-preserved
loop-left-preserved c =
    let left : option_map (λ r. r.now) c.loop-left.left ≡ Some c.in-Some.rest.now = ap (λ o. option_map (λ r. r.now) o) c.in-Some.is in
    rw c.in_ok-push.ensures.items
    (layer_turn paint_at c.in-Some.rest.now c.split_part.result.0.now (option_map (λ r. r.now) c.split_part.result.1) c.loop-left.paints.items c.in-Some-2.paint
    c.split_part.ensures.part c.split_part.ensures.rest (sym c.in-Some-2.is ∙ c.in_ok-paint.ensures)
    ∙ ap (λ o. option_map (λ xs. c.loop-left.paints.items ++ xs) (left_at paint_at o)) (sym left)
    ∙ c.loop-left.invariant)
