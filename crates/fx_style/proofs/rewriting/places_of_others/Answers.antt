use Rattle.std.proofs.Common.{◌≡◌, ◌++◌, ◌∷◌, [], ◌<◌, ◌+◌, ◌⊎◌, ℕ, false, List, inl, inr, arith, sym, ◌∙◌, ap, subst}
use Rattle.std.specs.Prelude.{slice_get}
use Rattle.std.proofs.lemmas.Bool.{cases_lt}
use Rattle.fx_style.specs.Kept.{is_among}
use Rattle.fx_style.specs.Rewriting.{rewritten_at}
use Rattle.fx_style.proofs.ChangeLemmas.{among-push}
use Rattle.fx_style.proofs.rewriting.places_of_others.Goals as goal

-- at a place the given lengths stand
abbrev Has : (P : ℕ → Type 0) → (places : List ℕ) → ℕ → Type 0
Has P places k = is_among places k ≡ false → P k

more : (P : ℕ → Type 0) (old new : List ℕ) (at : ℕ) → ((k : ℕ) → k < at → Has P old k)
    → ((new ≡ old ++ at ∷ []) ⊎ ((new ≡ old) × P at)) → (k : ℕ) → k < at + 1 → Has P new k
more P old new at before (inl pushed) k less off =
    let parts = among-push old at k (sym (ap (λ (l : List ℕ). is_among l k) pushed) ∙ off) in
    elim (cases_lt k at) [
      | inl lower ↦ before k lower parts.0
      | inr last ↦ absurd (parts.1 (omega (arith, less, last)))
    ]
more P old new at before (inr kept) k less off =
    elim (cases_lt k at) [
      | inl lower ↦ before k lower (sym (ap (λ (l : List ℕ). is_among l k) kept.0) ∙ off)
      | inr last ↦ subst P (omega (arith, less, last)) kept.1
    ]

pub loop-at-preserved : goal.loop-at-preserved
loop-at-preserved c =
    more (λ k. rewritten_at c.args.marks.now c.args.facts.now c.args.looks.now k ≡ slice_get c.args.looks.now k)
    c.loop-at.places.items c.note_other.new.places.items c.loop-at.at c.loop-at.invariant c.in_ok-note_other.ensures
