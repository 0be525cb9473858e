-- What is marked when it is handed up.
use Rattle.std.proofs.Common.{sym, ◌∙◌, ◌≡◌, ℕ, ◌<◌, ◌&&◌, ◌||◌, Bool, true, List, length, inl, inr, arith}
use Rattle.std.proofs.lemmas.Bool.{and_from, and_parts, or_cases, or_left, or_right}
use Rattle.fx_kinds.specs.declared.facts.BoxFacts.{BoxFacts}
use Rattle.fx_layout_sweeps.specs.Marks.{flag_in}
use Rattle.fx_layout_sweeps.specs.Nodes.{parents}
use Rattle.fx_style.specs.Kept.{is_among}
use Rattle.fx_pulse_touched.specs.Marks.{IsClosed, is_above}
use Rattle.fx_pulse_touched.proofs.ToldLemmas.{long}
use Rattle.fx_pulse_touched.proofs.UpLemmas.{above_weaker}
use Rattle.fx_pulse_kept.specs.Measuring.{AreMeasuredAnew}

pub measured : (boxes : List BoxFacts) (touched restyled : List Bool) (changed : List ℕ) (first marks : List Bool)
    → length touched ≡ length boxes
    → ((k : ℕ) → k < length touched
    → flag_in first k ≡ ((is_among changed k && flag_in restyled k) || flag_in touched k))
    → length marks ≡ length boxes → ((k : ℕ) → flag_in first k ≡ true → flag_in marks k ≡ true)
    → IsClosed (parents boxes) marks
    → ((k : ℕ) → flag_in marks k ≡ true → is_above (parents boxes) (flag_in first) k ≡ true)
    → AreMeasuredAnew boxes touched restyled changed marks
measured boxes touched restyled changed first marks many begun each kept closed only = record {
  each = each;
  facts = λ k within is. kept k (begun k (omega (arith, within, many))
      ∙ or_right (is_among changed k && flag_in restyled k) (flag_in touched k) is);
  looks = λ k within is among. kept k (begun k (omega (arith, within, many))
      ∙ or_left (is_among changed k && flag_in restyled k) (flag_in touched k)
      (and_from (is_among changed k) (flag_in restyled k) among is));
  closed = closed;
  only = λ k is. above_weaker (parents boxes) (flag_in first) (λ j. flag_in restyled j || flag_in touched j) k
      (λ j within marked.
      elim (or_cases (is_among changed j && flag_in restyled j) (flag_in touched j)
      (sym (begun j (omega (arith, within, long boxes, many))) ∙ marked)) [
        | inl both ↦ or_left (flag_in restyled j) (flag_in touched j)
            (and_parts (is_among changed j) (flag_in restyled j) both).1
        | inr own ↦ or_right (flag_in restyled j) (flag_in touched j) own
      ])
      (only k is);
}
