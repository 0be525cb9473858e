use Rattle.std.proofs.Common.{Bool, Some, sym, ◌∙◌, ap}
use Rattle.fx_style.specs.Plans.{drafted}
use Rattle.fx_style.proofs.TurnLemmas.{kept_found, nothing_needs, nowhere_needs, stays_here}
use Rattle.fx_style.proofs.making.left_of.Goals as goal

pub returns-in_default : goal.returns-in_default
returns-in_default c =
    nowhere_needs c.args.looks.now c.args.rest.now c.args.turn.key c.args.turn.listed
    (sym c.requires.place ∙ c.in_default.is)

pub returns-then-place-turn : goal.returns-then-place-turn
returns-then-place-turn c =
    let there = c.requires.stay c.if-turn-2.true in
    stays_here c.args.looks.now c.args.rest.now c.args.turn c.if-turn.false c.if-turn-2.true
    (sym c.requires.place ∙ c.in-Some.is ∙ ap Some c.if-place-turn.true) there.0 there.1

pub returns-then-copied : goal.returns-then-copied
returns-then-copied c = (
  c.if-turn.false,
  kept_found c.args.looks.now c.args.rest.now c.args.turn.key c.in-Some.place (sym c.requires.place ∙ c.in-Some.is)
      ∙ sym c.in_ok-copied.ensures
      ∙ ap (λ (b : Bool). drafted b c.copy_style.new.draft) c.if-copied.true,
)

pub returns : goal.returns
returns c =
    nothing_needs c.args.looks.now c.args.rest.now c.args.turn.key c.args.turn.listed c.in-Some.place
    (sym c.requires.place ∙ c.in-Some.is)
    (sym c.in_ok-copied.ensures ∙ ap (λ (b : Bool). drafted b c.copy_style.new.draft) c.if-copied.false)
