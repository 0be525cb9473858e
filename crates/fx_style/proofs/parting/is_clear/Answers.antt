use Rattle.std.proofs.Common.{refl, sym, ◌∙◌, ap}
use Rattle.std.proofs.lemmas.Bool.{false≢true}
use Rattle.fx_style.specs.Parting.{is_under}
use Rattle.fx_style.proofs.PartingLemmas.{parent_within, under_here, under_none, under_up}
use Rattle.fx_style.proofs.parting.is_clear.Goals as goal

pub loop-place-preserved : goal.loop-place-preserved
loop-place-preserved c =
    let facts = c.args.facts.now in
    let there = c.args.there.now in
    let up = c.in-Some.up in
    let inv = c.loop-place.invariant in
    let next = c.parent_at-place-in-Some.ensures in
    record {
      there = λ p e. parent_within facts c.requires.before up p (sym next ∙ e);
      so_far =
          ap (is_under there facts) next
          ∙ sym (under_up there facts c.requires.before up (inv.there up c.in-Some.is) c.if-there-up.false)
          ∙ ap (is_under there facts) (sym c.in-Some.is)
          ∙ inv.so_far;
    }

pub returns : goal.returns
returns c = (
  λ clear.
      sym c.loop-place.invariant.so_far
      ∙ ap (is_under c.args.there.now c.args.facts.now) c.in_default.is
      ∙ under_none c.args.there.now c.args.facts.now,
  λ none. refl,
)

pub returns-then-there-up : goal.returns-then-there-up
returns-then-there-up c = (
  λ never. absurd (false≢true never),
  λ none.
      let facts = c.args.facts.now in
      let there = c.args.there.now in
      let up = c.in-Some.up in
      let inv = c.loop-place.invariant in
      sym none
      ∙ sym inv.so_far
      ∙ ap (is_under there facts) c.in-Some.is
      ∙ under_here there facts c.requires.before up (inv.there up c.in-Some.is) c.if-there-up.true,
)
