use Rattle.std.proofs.Common.{◌≡◌, ◌∙◌, ◌<◌, IsTrue, Some, inl, inr, length, slice_get, arith, ap, refl, sym, subst, subst₂, true≢false}
use Rattle.std.proofs.lemmas.Bool.{cases_lt}
use Rattle.std.proofs.lemmas.Option.{get_or_from_slice_get, slice_get-get_or, slice_get_within}
use Rattle.fx_node_style.specs.Recoding.{IsRecoded}
use Rattle.fx_node_style.proofs.recoding.are_recoded.Goals as goal

pub loop-at-preserved : goal.loop-at-preserved
loop-at-preserved c = λ k old new less was is. elim (cases_lt k c.loop-at.at) [
  | inl before ↦ c.loop-at.invariant k old new before was is
  | inr last ↦ (let here : k ≡ c.loop-at.at = omega (arith, less, last) in
      let one = c.index-olds-at.result in
      let other = c.index-news-at.result in
      let one_is : one ≡ old = c.index-olds-at.is ∙ get_or_from_slice_get c.args.olds.now c.loop-at.at old one
      (subst (λ j. slice_get c.args.olds.now j ≡ Some old) here was) in
      let other_is : other ≡ new = c.index-news-at.is ∙ get_or_from_slice_get c.args.news.now c.loop-at.at new other
      (subst (λ j. slice_get c.args.news.now j ≡ Some new) here is) in
      subst₂ (λ a b. IsRecoded a b) one_is other_is (c.is_recoded.ensures.0 (c.if-not-is_recoded.false)))
]

pub returns-then-not-is_recoded : goal.returns-then-not-is_recoded
returns-then-not-is_recoded c = (
  λ yes. absurd (true≢false (sym yes)),
  λ are.
      let at = c.loop-at.at in
      let old = c.index-olds-at.result in
      let new = c.index-news-at.result in
      let within : at < length c.args.olds.now = omega (arith, c.loop-at-test.true) in
      let also : at < length c.args.news.now = omega (arith, within, c.if-olds-news.false) in
      subst IsTrue c.if-not-is_recoded.true (c.is_recoded.ensures.1 (are.each at old new
      (slice_get-get_or c.args.olds.now at old within ∙ ap Some (sym c.index-olds-at.is))
      (slice_get-get_or c.args.news.now at new also ∙ ap Some (sym c.index-news-at.is)))),
)

pub returns : goal.returns
returns c = (
  λ yes. record {
    long = sym c.if-olds-news.false;
    each = λ at old new was is.
        let within = slice_get_within c.args.olds.now at old was in
        c.loop-at.invariant at old new (omega (arith, within, c.loop-at-test.false)) was is;
  },
  λ are. refl,
)
