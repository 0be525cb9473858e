-- the box isn't empty, and the rectangle was tested
use Rattle.std.proofs.Common.{◌≡◌, ◌∙◌, true, sym, subst}
use Rattle.fx_damage.specs.Near.{encloses, wide}
use Rattle.fx_damage.proofs.NearLemmas.{join_stays, rect_tells}
use Rattle.fx_damage.proofs.near.is_around.Goals as goal
use Rattle.fx_picture.specs.Bounds.{bounds_of}

pub rect_edges-requires : goal.rect_edges-requires
rect_edges-requires c = rect_tells c.args.rect (sym c.is_near_rect.ensures ∙ c.if-not-is_near_rect.false)

pub returns : goal.returns
returns c = λ h cut.
    let some = sym c.is_vacant.ensures ∙ c.if-is_vacant.false in
    let within : encloses (wide c.args.all) (bounds_of c.args.rect) ≡ true =
    subst (λ b. encloses (wide c.args.all) b ≡ true) c.rect_edges.ensures (sym c.encloses.ensures ∙ h) in
    join_stays (wide c.args.all) cut (bounds_of c.args.rect) some within
