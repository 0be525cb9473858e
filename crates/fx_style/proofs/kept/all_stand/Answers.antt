use Rattle.std.proofs.Common.{◌≡◌, Some, length, refl, sym, ◌∙◌, ap, inl, inr, arith}
use Rattle.std.specs.Prelude.{slice_get}
use Rattle.std.proofs.lemmas.Bool.{cases_eq, false≢true}
use Rattle.std.proofs.lemmas.Option.{slice_get_read, slice_get_within}
use Rattle.fx_kinds.specs.declared.facts.StyleFacts.{StyleFacts}
use Rattle.fx_style.specs.Kept.{place_of_key}
use Rattle.fx_style.proofs.kept.all_stand.Goals as goal

pub loop-at-preserved : goal.loop-at-preserved
loop-at-preserved c = λ j other below is_other. elim (cases_eq j c.loop-at.at) [
  | inl same ↦
      let node = c.index-facts-at.result in
      let is : slice_get c.args.facts.now c.loop-at.at ≡ Some node =
      slice_get_read c.args.facts.now (length c.args.facts.now) c.loop-at.at node refl c.loop-at-test.true
      c.index-facts-at.is in
      let one : other ≡ node =
      let h : Some other ≡ Some node = sym is_other ∙ (ap (slice_get c.args.facts.now) same ∙ is) in cc in
      let stands = c.stands_at.ensures.0 c.if-not-stands_at.false in
      ap (λ (n : StyleFacts). place_of_key c.args.rest.now n.key) one
      ∙ (stands ∙ ap Some (sym same))
  | inr differ ↦ c.loop-at.invariant j other (omega (arith, below, differ)) is_other
]

pub returns : goal.returns
returns c = (
  λ told at node is. c.loop-at.invariant at node (omega (arith, slice_get_within c.args.facts.now at node is)) is,
  λ all. refl,
)

pub returns-then-not-stands_at : goal.returns-then-not-stands_at
returns-then-not-stands_at c = (
  λ never. absurd (false≢true never),
  λ all.
      let node = c.index-facts-at.result in
      let is : slice_get c.args.facts.now c.loop-at.at ≡ Some node =
      slice_get_read c.args.facts.now (length c.args.facts.now) c.loop-at.at node refl c.loop-at-test.true
      c.index-facts-at.is in
      sym c.if-not-stands_at.true ∙ c.stands_at.ensures.1 (all c.loop-at.at node is),
)
