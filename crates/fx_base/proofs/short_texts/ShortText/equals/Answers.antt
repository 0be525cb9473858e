-- the zeros behind both are the same
use Rattle.std.proofs.Common.{◌∙◌, rules, ap, sym, take, arith}
use Rattle.fx_base.proofs.TextLemmas.{same_rooms}
use Rattle.fx_base.proofs.short_texts.ShortText.equals.Goals as goal

pub returns-then-self-other : goal.returns-then-self-other
returns-then-self-other c = (
  (λ so. search rules),
  (λ same. absurd (c.if-self-other.true
      (same_rooms 30 c.self.inside.len c.other.inside.len c.self.inside.bytes c.other.inside.bytes
      (omega (arith, c.self.invariant.0, c.self.told)) (omega (arith, c.other.invariant.0, c.other.told))
      c.self.invariant.2 c.other.invariant.2 (c.self.view_is ∙ same ∙ sym c.other.view_is)).0)),
)

pub returns : goal.returns
returns c = (
  (λ so. sym c.self.view_is ∙ ap (λ n. take n c.self.inside.bytes) c.if-self-other.false
      ∙ ap (take c.other.inside.len) (c.same_room.ensures.0 so) ∙ c.other.view_is),
  (λ same. c.same_room.ensures.1
      (same_rooms 30 c.self.inside.len c.other.inside.len c.self.inside.bytes c.other.inside.bytes
      (omega (arith, c.self.invariant.0, c.self.told)) (omega (arith, c.other.invariant.0, c.other.told))
      c.self.invariant.2 c.other.invariant.2 (c.self.view_is ∙ same ∙ sym c.other.view_is)).1),
)
