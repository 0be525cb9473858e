-- Marks that are taken back one by one, by the list of the names that were marked.
use Rattle.std.proofs.Common.{◌≡◌, ℕ, zero, suc, ◌+◌, ◌<◌, ◌≤◌, ◌⊎◌, Bool, true, false, List, [], ◌∷◌, length, set, replicate, arith, refl, sym, ap, subst, ◌∙◌, inl, inr}
use Rattle.std.proofs.lemmas.Bool.{both_ways, cases_eq, cases_Bool}
use Rattle.std.proofs.lemmas.List.{length-set, length-replicate}
use Rattle.fx_graph_model.specs.Unread.{marked}
use Rattle.fx_graph_model.specs.Marking.{at, Listed}
use Rattle.fx_graph_model.proofs.Flags.{marked-set_same, marked-set_other, marked_within}

-- what is marked stands in this part of the list
pub record Clears (flags before : List Bool) (work : List ℕ) (done count : ℕ) : Type 0 where
  pub long : length flags ≡ length before
  pub left : (name : ℕ) → marked flags name ≡ true → (i : ℕ) × (done ≤ i) × (i < count) × (at work i ≡ name)

blank : (n name : ℕ) → marked (replicate n false) name ≡ false
blank zero name = refl
blank (suc n) zero = refl
blank (suc n) (suc name) = blank n name

pub clears_start : (flags : List Bool) (work : List ℕ) (count : ℕ) → Listed (replicate (length flags) false) flags work count
    → Clears flags flags work 0 count
clears_start flags work count l =
    record {
      long = refl;
      left = λ name on. let e = l.each name (blank (length flags) name) on in (e.0, omega arith, e.1, e.2);
    }

pub clears_within : (flags : List Bool) (work : List ℕ) (count i : ℕ) → Listed (replicate (length flags) false) flags work count → i < count
    → at work i < length flags
clears_within flags work count i l h = subst (λ n. at work i < n) (length-replicate (length flags) false) (l.listed i h).0

pub clears_more : (flags before : List Bool) (work : List ℕ) (done count : ℕ) → Clears flags before work done count → at work done < length before
    → Clears (set flags (at work done) false) before work (done + 1) count
clears_more flags before work done count c within =
    record {
      long = length-set flags (at work done) false ∙ c.long;
      left = λ name on. left name on (cases_eq name (at work done));
    }
  where
    here : at work done < length flags
    here = omega (arith, c.long, within)

    later : (name i : ℕ) → (name ≡ at work done → ⊥) → done ≤ i → i < count → at work i ≡ name
        → (i : ℕ) × (done + 1 ≤ i) × (i < count) × (at work i ≡ name)
    later name i differs low high is =
        elim (cases_eq i done) [
          | inl same ↦ absurd (differs (sym is ∙ ap (at work) same))
          | inr other ↦ (i, omega (arith, low, other), high, is)
        ]

    left : (name : ℕ) → marked (set flags (at work done) false) name ≡ true → (name ≡ at work done) ⊎ (name ≡ at work done → ⊥)
        → (i : ℕ) × (done + 1 ≤ i) × (i < count) × (at work i ≡ name)
    left name on (inl same) =
        absurd (both_ways _ (ap (marked (set flags (at work done) false)) same ∙ marked-set_same flags (at work done) false here) on)
    left name on (inr differs) =
        let old = c.left name (sym (marked-set_other flags (at work done) name false differs) ∙ on) in
        later name old.0 differs old.1 old.2 old.3

unset : (flags : List Bool) → ((name : ℕ) → marked flags name ≡ true → ⊥) → flags ≡ replicate (length flags) false
unset [] none = refl
unset (true ∷ bs) none = absurd (none 0 refl)
unset (false ∷ bs) none = ap (λ (l : List Bool). false ∷ l) (unset bs (λ name on. none (suc name) on))

pub clears_end : (flags before : List Bool) (work : List ℕ) (done count : ℕ) → Clears flags before work done count → count ≤ done
    → flags ≡ replicate (length before) false
clears_end flags before work done count c end =
    unset flags (λ name on. let old = c.left name on in omega (arith, old.1, old.2, end)) ∙ ap (λ n. replicate n false) c.long
