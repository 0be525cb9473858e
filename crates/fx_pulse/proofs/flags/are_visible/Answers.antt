use Rattle.std.proofs.Common.{ap, arith, inl, inr, sym, ◌∙◌, ◌≡◌}
use Rattle.std.proofs.lemmas.Bool.{cases_lt}
use Rattle.fx_layout_sweeps.specs.Nodes.{look_at}
use Rattle.fx_pulse.proofs.flags.are_visible.Goals as goal

pub loop-place-preserved : goal.loop-place-preserved
loop-place-preserved c = λ k less.
    let place = c.loop-place.place in
    elim (cases_lt k place) [
      | inl before ↦ c.loop-place.invariant k before
      | inr past ↦ (
          let here : k ≡ place = omega (arith, less, past) in
          ap (λ j. (look_at c.args.looks.now j).visibility) here
          ∙ (sym c.is_visible.ensures ∙ c.if-not-is_visible.false))
    ]

pub returns : goal.returns
returns c = λ is k within. c.loop-place.invariant k (omega (arith, within, c.loop-place-test.false))
