-- Numbers are distinct where they rise when they are sorted, and so are the birth numbers of entries.
use Rattle.std.proofs.Common.{◌≡◌, ◌<◌, ◌+◌, ◌∷◌, ℕ, Bool, true, false, List, [], length, get_or, set, drop, All, IsTrue, ◌↔◌, ◌==◌, ◌||◌, refl, ap, sym, subst, ◌∙◌, arith, eqb}
use Rattle.std.specs.List.{IsDistinct}
use Rattle.std.specs.List.Sorted.{IsNonDecreasing, IsPermutation, IsSortedByKey, IsStrictlyIncreasing}
use Rattle.std.specs.Ordering.{nat_cmp}
use Rattle.std.proofs.lemmas.Bool.Decides.{Decides-eqb, nat_tests}
use Rattle.std.proofs.lemmas.Grind.{common_steps}
use Rattle.std.proofs.lemmas.List.{get_or-map, length-map, map-set}
use Rattle.std.proofs.lemmas.List.Elements.{All-cons, All-get_or, All-nil}
use Rattle.std.proofs.lemmas.List.Kept.{AllPairs-from_increasing}
use Rattle.std.proofs.lemmas.List.Sorted.{IsNonDecreasingBy-from_sort, IsPermutation-sym}
use Rattle.std.proofs.lemmas.Map.Keys.{IsDistinct-from_apart, IsStrictlyIncreasing-from_distinct, apart_from_distinct}
use Rattle.fx_picture.specs.declared.entries.Entry.{Entry}
use Rattle.fx_picture.specs.Entries.{HasDistinctBirths}
use Rattle.fx_damage.specs.declared.edits.Edit.{Edit}
use Rattle.fx_damage.specs.Births.{RisesStrictly, birth_numbers, is_among}
use Rattle.fx_damage.specs.Edits.{AreEdits, edited, places_of}
use Rattle.fx_damage.proofs.EditLemmas.{Index, distinct_from, index_of, rising_at}
use Rattle.fx_damage.proofs.OrderLemmas.{distinct_numbers, moved_distinct, pairs_rise}

-- ---- sorted numbers
increasing_distinct : (ns : List ℕ) → IsStrictlyIncreasing ns → IsDistinct eqb ns
increasing_distinct ns up =
    let pairs = AllPairs-from_increasing ns up in
    IsDistinct-from_apart eqb ns (λ i j d p q. (let less = pairs i j d p q in apart (get_or ns i d) (get_or ns j d) less))
  where
    apart : (m n : ℕ) → m < n → eqb m n ≡ false
    apart m n l = grind (arith, nat_tests)

pub distinct_sorted : (ms ns : List ℕ) → IsPermutation ms ns → IsNonDecreasing ns → IsDistinct eqb ms → IsStrictlyIncreasing ns
distinct_sorted ms ns moved up distinct = IsStrictlyIncreasing-from_distinct ns up (moved_distinct ms ns moved distinct)

pub sorted_distinct : (ms ns : List ℕ) → IsPermutation ms ns → IsStrictlyIncreasing ns → IsDistinct eqb ms
sorted_distinct ms ns moved up = moved_distinct ns ms (IsPermutation-sym ms ns moved) (increasing_distinct ns up)

-- ---- entries
pub distinct_births : (es : List Entry) → IsDistinct eqb (birth_numbers es) → HasDistinctBirths es
distinct_births es h = distinct_from es (λ i j d p q same. differ i j d p q same)
  where
    differ : (i j : ℕ) (d : Entry) → i < j → j < length es → (get_or es i d).key.birth ≡ (get_or es j d).key.birth → ⊥
    differ i j d p q same =
        let birth : Entry → ℕ = λ (e : Entry). e.key.birth in
        let long : length (birth_numbers es) ≡ length es = length-map es birth in
        let apart = apart_from_distinct eqb (birth_numbers es) i j 0 h p (omega (arith, long, q)) in
        let one = get_or-map birth es i d 0 (omega (arith, p, q)) in
        let two = get_or-map birth es j d 0 q in
        let equal : eqb (get_or (birth_numbers es) i 0) (get_or (birth_numbers es) j 0) ≡ true = (Decides-eqb _ _).1 (one ∙ (same ∙ sym two)) in cc

-- ---- birth numbers after edits
abbrev pub numbers_after : List Edit → List ℕ → List ℕ
numbers_after [] ns = ns
numbers_after (e ∷ es) ns = numbers_after es (set ns e.place e.entry.key.birth)

pub numbers_edited : (es : List Edit) (xs : List Entry) → numbers_after es (birth_numbers xs) ≡ birth_numbers (edited es xs)
numbers_edited [] xs = refl
numbers_edited (e ∷ es) xs =
    ap (numbers_after es) (sym (map-set (λ (f : Entry). f.key.birth) xs e.place e.entry)) ∙ numbers_edited es (set xs e.place e.entry)

one : (es : List Edit) (i : ℕ) (e : Edit) → i < length es → e ≡ get_or es i e → drop i es ≡ e ∷ drop (i + 1) es
one es i e h is = grind (arith, common_steps)

-- ---- places of edits
pub increasing_rises : (ns : List ℕ) → IsStrictlyIncreasing ns → RisesStrictly ns
increasing_rises ns up = pairs_rise ns (AllPairs-from_increasing ns up)

pub rises_increasing : (ns : List ℕ) → RisesStrictly ns → IsStrictlyIncreasing ns
rises_increasing ns up k h = rising_at ns k (k + 1) up (omega arith) h

pub place_at : (es : List Edit) (i : ℕ) (e : Edit) → i < length es → get_or (places_of es) i 0 ≡ (get_or es i e).place
place_at es i e h = get_or-map (λ (f : Edit). f.place) es i e 0 h

within : (es : List Edit) (count : ℕ) → All (λ (e : Edit). e.place < count) es → (k : ℕ) → is_among (places_of es) k ≡ true → k < count
within es count all k h =
    let i : Index (places_of es) k = index_of (places_of es) k h in
    let long : length (places_of es) ≡ length es = length-map es _ in
    let inside = i.within in
    let l : i.index < length es = omega (arith, inside, long) in
    at i.index l i.is
  where
    at : (j : ℕ) → j < length es → get_or (places_of es) j 0 ≡ k → k < count
    at j l is = by_list es all j l is
      where
        by_list : (fs : List Edit) → All (λ (e : Edit). e.place < count) fs → (n : ℕ) → n < length fs → get_or (places_of fs) n 0 ≡ k → k < count
        by_list [] a n p q = absurd (omega (arith, p))
        by_list (f ∷ fs) a n p q =
            let below : (get_or (f ∷ fs) n f).place < count = All-get_or (λ (e : Edit). e.place < count) (f ∷ fs) n f p a in
            let same = place_at (f ∷ fs) n f p in
            omega (arith, below, same, q)

pub are_edits : (es : List Edit) (count : ℕ) → RisesStrictly (places_of es) → All (λ (e : Edit). e.place < count) es → AreEdits es count
are_edits es count rise all = record { rise = rise; within = within es count all }

pub places_long : (es : List Edit) → length (places_of es) ≡ length es
places_long es = length-map es (λ (e : Edit). e.place)

all_from : (es : List Edit) (n : ℕ) → ((k : ℕ) → is_among (places_of es) k ≡ true → k < n) → All (λ (e : Edit). e.place < n) es
all_from [] n h = All-nil (λ (e : Edit). e.place < n)
all_from (e ∷ es) n h =
    let t : (e.place == e.place) ≡ true = (Decides-eqb e.place e.place).1 refl in
    All-cons (λ (f : Edit). f.place < n) e es (h e.place (rw t refl)) (all_from es n (λ k q. h k (later (e.place == k) (is_among (places_of es) k) q)))
  where
    later : (a b : Bool) → b ≡ true → (a || b) ≡ true
    later true b q = refl
    later false b q = q

-- ---- the tests
pub distinct_test : (ms ns ss : List ℕ) (r : Bool) → (IsTrue r ↔ IsStrictlyIncreasing ss) → ss ≡ ns → IsPermutation ms ns → IsSortedByKey (λ x. x) nat_cmp ns
    → IsTrue r ↔ IsDistinct eqb ms
distinct_test ms ns ss r test same moved sorted =
    let up : IsNonDecreasing ns = IsNonDecreasingBy-from_sort (λ x. x) ns sorted in (
      λ t. sorted_distinct ms ns moved (subst IsStrictlyIncreasing same (test.0 t)),
      λ d. test.1 (subst IsStrictlyIncreasing (sym same) (distinct_sorted ms ns moved up d)),
    )

pub births_test : (es gs : List Entry) (ns : List ℕ) (r : Bool) → (IsTrue r ↔ IsDistinct eqb ns) → ns ≡ birth_numbers gs → gs ≡ es
    → IsTrue r ↔ HasDistinctBirths es
births_test es gs ns r test made same =
    let is : ns ≡ birth_numbers es = made ∙ ap birth_numbers same in (
      λ t. distinct_births es (subst (λ (l : List ℕ). IsDistinct eqb l) is (test.0 t)),
      λ d. test.1 (subst (λ (l : List ℕ). IsDistinct eqb l) (sym is) (distinct_numbers es d)),
    )

pub edits_test : (es : List Edit) (m n : ℕ) (s t : Bool) → (IsTrue s ↔ IsStrictlyIncreasing (places_of es)) → s ≡ true
    → (IsTrue t ↔ All (λ (e : Edit). e.place < m) es) → m ≡ n → IsTrue t ↔ AreEdits es n
edits_test es m n s t rise risen below same = (
  λ h. are_edits es n (increasing_rises (places_of es) (rise.0 risen)) (subst (λ k. All (λ (e : Edit). e.place < k) es) same (below.0 h)),
  λ a. below.1 (subst (λ k. All (λ (e : Edit). e.place < k) es) (sym same) (all_from es n a.within)),
)

pub no_edits : (es : List Edit) (n : ℕ) (s : Bool) → (IsTrue s ↔ IsStrictlyIncreasing (places_of es)) → s ≡ false → IsTrue s ↔ AreEdits es n
no_edits es n s rise not_risen = (λ t. absurd (both s t not_risen), λ a. rise.1 (rises_increasing (places_of es) a.rise))
  where
    both : (b : Bool) → b ≡ true → b ≡ false → ⊥
    both b p q = cc
