use Rattle.std.proofs.Common.{◌≡◌, ◌∙◌, ◌∷◌, ◌+◌, drop, fold, get_or, subst, sym, ap, arith}
use Rattle.std.proofs.lemmas.Grind.{common_steps}
use Rattle.std.proofs.lemmas.List.Elements.{All-get_or}
use Rattle.fx_picture.specs.Bounds.{join, nowhere}
use Rattle.fx_picture.specs.declared.edges.Bounds.{Bounds}
use Rattle.fx_damage.specs.Windows.{IsInWindow}
use Rattle.fx_damage.proofs.WindowLemmas.{join_in}
use Rattle.fx_damage.proofs.rects.around.Goals as goal

pub loop-bounds-preserved : goal.loop-bounds-preserved
loop-bounds-preserved c =
    let all = c.loop-bounds.all in
    let boxes = c.args.boxes.now in
    let i = c.loop-bounds.bounds-index in
    let b = get_or boxes i nowhere in
    let test = c.loop-bounds-test.true in
    let here : drop i boxes ≡ b ∷ drop (i + 1) boxes = grind (arith, common_steps) in
    let inside : IsInWindow b = All-get_or IsInWindow boxes i nowhere test c.requires in (
      ap (λ m. fold join m (drop (i + 1) boxes)) c.joined-all.ensures ∙ (sym (ap (fold join all) here) ∙ c.loop-bounds.invariant.0),
      subst (λ (m : Bounds). IsInWindow m) (sym c.joined-all.ensures) (join_in all b c.loop-bounds.invariant.1 inside),
    )
