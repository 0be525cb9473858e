-- Hits each of which stands behind the rule of the one before it: nothing is to be sorted or made one.
use Rattle.std.proofs.Common.{◌≡◌, ◌<◌, ℕ, zero, suc, ◌+◌, Bool, true, false, cond, ◌&&◌, ◌||◌, List, [], ◌∷◌, length, get_or, ltb, eqb, refl, sym, ◌∙◌, ap, subst, arith}
use Rattle.std.specs.List.Sorted.{IsPermutation, IsSortedByKey, IsStableByKey}
use Rattle.std.proofs.lemmas.Bool.Decides.{nat_tests}
use Rattle.std.proofs.lemmas.List.Sorted.{IsPermutation-refl}
use Rattle.fx_css_types.specs.declared.sheets.Candidate.{Candidate}
use Rattle.fx_select.specs.Merged.{AreMerged, compare_places, is_before, merged, merged_of, place_of, raised, rise, rise_behind}
use Rattle.fx_select.proofs.MergedLemmas.{lt-before}

behind : (a b c d : ℕ) → (ltb a c || (eqb a c && ltb b d)) ≡ true → (ltb c a || (eqb c a && ltb d b)) ≡ false
behind a b c d before = grind (arith, nat_tests)

other : (a b c d : ℕ) → (ltb a c || (eqb a c && ltb b d)) ≡ true → (eqb a c && eqb b d) ≡ false
other a b c d before = grind (arith, nat_tests)

both_true : (a b : Bool) → cond a b false ≡ true → (a ≡ true) × (b ≡ true)
both_true true b e = (refl, e)
both_true false b e = absurd (cc)

merged-itself : (one : Candidate) (more : List Candidate) → rise_behind one more ≡ true → merged one more ≡ one ∷ more
merged-itself one [] up = refl
merged-itself one (hit ∷ more) up =
    let both = both_true (is_before one hit) (rise_behind hit more) up in
    ap (λ (b : Bool). cond b (merged (raised one hit) more) (one ∷ merged hit more))
    (other one.sheet one.rule hit.sheet hit.rule both.0)
    ∙ ap (λ (l : List Candidate). one ∷ l) (merged-itself hit more both.1)

rising-at : (hits : List Candidate) (one : Candidate) → rise_behind one hits ≡ true → (k : ℕ) (d : Candidate)
    → suc k < length (one ∷ hits) → is_before (get_or (one ∷ hits) (suc k) d) (get_or (one ∷ hits) k d) ≡ false
rising-at [] one up k d within = absurd (omega (arith, within))
rising-at (hit ∷ more) one up zero d within =
    let both = both_true (is_before one hit) (rise_behind hit more) up in
    behind one.sheet one.rule hit.sheet hit.rule both.0
rising-at (hit ∷ more) one up (suc k) d within =
    let both = both_true (is_before one hit) (rise_behind hit more) up in
    rising-at more hit both.1 k d (omega (arith, within))

add_one : (k : ℕ) → suc k ≡ k + 1
add_one k = omega arith

pub rising-sorted : (hits : List Candidate) → rise hits ≡ true → IsSortedByKey place_of compare_places hits
rising-sorted [] up = λ k d low within. absurd (omega (arith, within))
rising-sorted (one ∷ hits) up = λ k d low within.
    lt-before (get_or (one ∷ hits) (k + 1) d) (get_or (one ∷ hits) k d)
    ∙ subst (λ (n : ℕ). is_before (get_or (one ∷ hits) n d) (get_or (one ∷ hits) k d) ≡ false) (add_one k)
    (rising-at hits one up k d (omega (arith, within)))

pub merged_of-itself : (hits : List Candidate) → rise hits ≡ true → merged_of hits ≡ hits
merged_of-itself [] up = refl
merged_of-itself (one ∷ more) up = merged-itself one more up

-- hits that rise are merged as they are
pub rising-merged : (hits : List Candidate) → rise hits ≡ true → AreMerged hits hits
rising-merged hits up = record {
  sorted = hits;
  permutation = IsPermutation-refl hits;
  stable = λ x. refl;
  order = rising-sorted hits up;
  merged = sym (merged_of-itself hits up);
}

-- as they are once they are sorted
pub sorted-merged : (hits sorted : List Candidate) → IsPermutation hits sorted
    → IsStableByKey place_of compare_places hits sorted → IsSortedByKey place_of compare_places sorted
    → rise sorted ≡ true → AreMerged hits sorted
sorted-merged hits sorted moved stable order up = record {
  sorted = sorted;
  permutation = moved;
  stable = stable;
  order = order;
  merged = sym (merged_of-itself sorted up);
}
