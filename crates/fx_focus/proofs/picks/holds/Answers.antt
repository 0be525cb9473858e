use Rattle.std.proofs.Common.{◌≡◌, ℤ, rules, to_z, of_z, ap, ◌∙◌}
use mir.Syntax.{w128}
use Rattle.fx_picture.specs.Bounds.{bounds_of}
use Rattle.fx_picture.specs.declared.edges.Bounds.{Bounds}
use Rattle.fx_focus.specs.Picks.{is_inside}
use Rattle.fx_focus.proofs.picks.holds.Goals as goal

pub returns : goal.returns
returns c =
    let x : to_z w128 (of_z w128 c.from.result) ≡ c.args.x = search rules in
    let y : to_z w128 (of_z w128 c.from-2.result) ≡ c.args.y = search rules in
    c.is_inside.ensures
    ∙ ap (λ (b : Bounds). is_inside b (to_z w128 (of_z w128 c.from.result)) (to_z w128 (of_z w128 c.from-2.result)))
    c.bounds_of.ensures
    ∙ ap (λ (n : ℤ). is_inside (bounds_of c.args.rect) n (to_z w128 (of_z w128 c.from-2.result))) x
    ∙ ap (λ (n : ℤ). is_inside (bounds_of c.args.rect) c.args.x n) y
