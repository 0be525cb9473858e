-- Entries in order of birth, and two such lists gone through together.
use Rattle.std.proofs.Common.{◌≡◌, ◌<◌, ◌≤◌, ◌+◌, ◌-◌, ◌==◌, ◌||◌, ℕ, suc, zero, Bool, Bor, true, false, cond, List, [], ◌∷◌, ◌++◌, length, drop, get_or, map, min, Option, Some, None, refl, sym, ap, subst, ◌∙◌, arith, append_assoc, eqb, length-drop, inl, inr, ◌⊎◌}
use Rattle.std.specs.List.{IsDistinct, AllPairs, flat_map}
use Rattle.std.specs.List.Sorted.{IsNonDecreasing, IsNonDecreasingBy, IsPermutation}
use Rattle.std.proofs.lemmas.Bool.Decides.{Decides-eqb, leb_tells, nat_tests}
use Rattle.std.proofs.lemmas.Grind.{common_steps}
use Rattle.std.proofs.lemmas.List.{drop-map, drop_all, get_or-map, length-map}
use Rattle.std.proofs.lemmas.List.Kept.{AllPairs-from_increasing}
use Rattle.std.proofs.lemmas.List.Sorted.{IsPermutation-map}
use Rattle.std.proofs.lemmas.Map.Keys.{IsDistinct-IsPermutation, IsDistinct-from_apart, IsStrictlyIncreasing-from_distinct}
use Rattle.fx_picture.specs.declared.edges.Bounds.{Bounds}
use Rattle.fx_picture.specs.declared.entries.Entry.{Entry}
use Rattle.fx_picture.specs.Entries.{HasDistinctBirths, entry_with}
use Rattle.fx_damage.specs.Births.{AllAbove, RisesStrictly, behind, birth_numbers, first_birth, first_with, is_among, lesser}
use Rattle.fx_damage.specs.Changes.{lent}
use Rattle.fx_damage.specs.Damage.{births_of, boxes_at, boxes_of, changed_boxes, cut_to}
use Rattle.fx_damage.proofs.BirthLemmas.{AllAbove-trans, above_none, among-births, has_birth, rises-births}
use Rattle.fx_damage.proofs.BoxLemmas.{changed_among, cut-append, flat_same, or_false, unknown_none}
use Rattle.fx_damage.proofs.FindingLemmas.{none_with, one_place}
use Rattle.fx_damage.proofs.OutsideLemmas.{has-append}

-- ---- sorted entries rise
ne_false : (m n : ℕ) → (m ≡ n → ⊥) → eqb m n ≡ false
ne_false m n differ = by_test (eqb m n) refl
  where
    by_test : (t : Bool) → eqb m n ≡ t → t ≡ false
    by_test true h = absurd (differ ((Decides-eqb m n).0 h))
    by_test false h = refl

apart : (es : List Entry) → HasDistinctBirths es → (i j : ℕ) (d : ℕ) → i < j → j < length (birth_numbers es)
    → eqb (get_or (birth_numbers es) i d) (get_or (birth_numbers es) j d) ≡ false
apart [] h i j d p q = absurd (omega (arith, q))
apart (e ∷ es) h i j d p q =
    let all = e ∷ es in
    let birth : Entry → ℕ = λ (g : Entry). g.key.birth in
    let long : length (birth_numbers all) ≡ length all = length-map all birth in
    let low : i < length all = omega (arith, p, q, long) in
    let high : j < length all = omega (arith, q, long) in
    let one = get_or-map birth all i e d low in
    let two = get_or-map birth all j e d high in
    ne_false (get_or (birth_numbers all) i d) (get_or (birth_numbers all) j d)
    (λ same. (let at = one_place all (get_or all j e).key.birth i j e h low high (sym one ∙ (same ∙ two)) refl in omega (arith, at, p)))

pub distinct_numbers : (es : List Entry) → HasDistinctBirths es → IsDistinct eqb (birth_numbers es)
distinct_numbers es h = IsDistinct-from_apart eqb (birth_numbers es) (apart es h)

above_from : (b : ℕ) (cs : List ℕ) → ((k : ℕ) → k < length cs → b < get_or cs k 0) → AllAbove b cs
above_from b [] h = tt
above_from b (c ∷ cs) h = (h 0 (omega arith), above_from b cs (λ k l. h (suc k) (omega (arith, l))))

pub pairs_rise : (bs : List ℕ) → AllPairs (λ x y. x < y) bs → RisesStrictly bs
pairs_rise [] h = tt
pairs_rise (b ∷ bs) h = (
  above_from b bs (λ k l. h 0 (suc k) 0 (omega arith) (omega (arith, l))),
  pairs_rise bs (λ i j d p q. h (suc i) (suc j) d (omega (arith, p)) (omega (arith, q))),
)

-- distinct numbers that don't fall
pub sorted_rise : (ns : List ℕ) → IsNonDecreasing ns → IsDistinct eqb ns → RisesStrictly ns
sorted_rise ns up apart = pairs_rise ns (AllPairs-from_increasing ns (IsStrictlyIncreasing-from_distinct ns up apart))

pub moved_distinct : (ms ns : List ℕ) → IsPermutation ms ns → IsDistinct eqb ms → IsDistinct eqb ns
moved_distinct ms ns moved distinct = IsDistinct-IsPermutation eqb (λ x y. grind (arith, nat_tests)) ms ns moved distinct

numbers_up : (rs : List (Bor Entry)) → IsNonDecreasingBy (λ (r : Bor Entry). r.now.key.birth) rs → IsNonDecreasing (birth_numbers (lent rs))
numbers_up [] up i j d p q = absurd (omega (arith, q))
numbers_up (r ∷ rs) up i j d p q =
    let all = r ∷ rs in
    let now : Bor Entry → Entry = λ (b : Bor Entry). b.now in
    let birth : Entry → ℕ = λ (e : Entry). e.key.birth in
    let long : length (lent all) ≡ length all = length-map all now in
    let wide : length (birth_numbers (lent all)) ≡ length (lent all) = length-map (lent all) birth in
    let high : j < length all = omega (arith, q, long, wide) in
    let low : i < length all = omega (arith, p, high) in
    let one : get_or (birth_numbers (lent all)) i d ≡ (get_or all i r).now.key.birth =
    get_or-map birth (lent all) i r.now d (omega (arith, low, long)) ∙ ap birth (get_or-map now all i r r.now low) in
    let two : get_or (birth_numbers (lent all)) j d ≡ (get_or all j r).now.key.birth =
    get_or-map birth (lent all) j r.now d (omega (arith, high, long)) ∙ ap birth (get_or-map now all j r r.now high) in
    let less = up i j r p high in
    omega (arith, less, one, two)

pub lent_moved : (rs ss : List (Bor Entry)) → IsPermutation rs ss → IsPermutation (lent rs) (lent ss)
lent_moved rs ss moved = IsPermutation-map (λ (r : Bor Entry). r.now) rs ss moved

pub lent_rise : (rs ss : List (Bor Entry)) → HasDistinctBirths (lent rs) → IsPermutation rs ss
    → IsNonDecreasingBy (λ (r : Bor Entry). r.now.key.birth) ss → RisesStrictly (birth_numbers (lent ss))
lent_rise rs ss distinct moved up =
    sorted_rise (birth_numbers (lent ss)) (numbers_up ss up)
    (moved_distinct (birth_numbers (lent rs)) (birth_numbers (lent ss))
    (IsPermutation-map (λ (e : Entry). e.key.birth) (lent rs) (lent ss) (lent_moved rs ss moved)) (distinct_numbers (lent rs) distinct))

-- ---- lent entries from a place on
pub lent_at : (rs : List (Bor Entry)) (i : ℕ) (r : Bor Entry) → i < length rs → r ≡ get_or rs i r → drop i (lent rs) ≡ r.now ∷ drop (i + 1) (lent rs)
lent_at rs i r h is =
    let now : Bor Entry → Entry = λ (b : Bor Entry). b.now in
    drop-map now i rs ∙ (ap (map now) (one rs i r h is) ∙ ap (λ l. r.now ∷ l) (sym (drop-map now (i + 1) rs)))
  where
    one : (xs : List (Bor Entry)) (k : ℕ) (x : Bor Entry) → k < length xs → x ≡ get_or xs k x → drop k xs ≡ x ∷ drop (k + 1) xs
    one xs k x l e = grind (arith, common_steps)

pub lent_end : (rs : List (Bor Entry)) (i : ℕ) → length rs ≤ i → drop i (lent rs) ≡ []
lent_end rs i h = drop_all i (lent rs) (let long = length-map rs (λ (b : Bor Entry). b.now) in omega (arith, long, h))

pub first_at : (rs : List (Bor Entry)) (i : ℕ) (r : Bor Entry) → i < length rs → r ≡ get_or rs i r → Some r.now.key.birth ≡ first_birth (drop i (lent rs))
first_at rs i r h is = ap first_birth (sym (lent_at rs i r h is))

any_lent : (rs : List (Bor Entry)) (i : ℕ) (q r : Bor Entry) → i < length rs → get_or rs i q ≡ get_or rs i r
any_lent [] i q r h = absurd (omega (arith, h))
any_lent (s ∷ ss) zero q r h = refl
any_lent (s ∷ ss) (suc i) q r h = any_lent ss i q r (omega (arith, h))

pub same_birth : (rs : List (Bor Entry)) (i b : ℕ) (r q : Bor Entry) → i < length rs → r ≡ get_or rs i r → (get_or rs i q).now.key.birth ≡ b
    → r.now.key.birth ≡ b
same_birth rs i b r q h is same = ap (λ (s : Bor Entry). s.now.key.birth) (is ∙ any_lent rs i r q h) ∙ same

pub takes_first : (rs : List (Bor Entry)) (i b : ℕ) (r : Bor Entry) → i < length rs → r ≡ get_or rs i r → r.now.key.birth ≡ b
    → Some r.now ≡ first_with b (drop i (lent rs))
takes_first rs i b r h is same =
    let t : (r.now.key.birth == b) ≡ true = (Decides-eqb r.now.key.birth b).1 same in
    let here : first_with b (r.now ∷ drop (i + 1) (lent rs)) ≡ Some r.now = rw t refl in
    sym (ap (first_with b) (lent_at rs i r h is) ∙ here)

pub takes_rest : (rs : List (Bor Entry)) (i b : ℕ) (r : Bor Entry) → i < length rs → r ≡ get_or rs i r → r.now.key.birth ≡ b
    → drop (i + 1) (lent rs) ≡ behind b (drop i (lent rs))
takes_rest rs i b r h is same =
    let t : (r.now.key.birth == b) ≡ true = (Decides-eqb r.now.key.birth b).1 same in
    let here : behind b (r.now ∷ drop (i + 1) (lent rs)) ≡ drop (i + 1) (lent rs) = rw t refl in
    sym (ap (behind b) (lent_at rs i r h is) ∙ here)

pub leaves_first : (rs : List (Bor Entry)) (i b : ℕ) (r : Bor Entry) → i < length rs → r ≡ get_or rs i r → ((get_or rs i r).now.key.birth ≡ b → ⊥)
    → None ≡ first_with b (drop i (lent rs))
leaves_first rs i b r h is differ =
    let t : (r.now.key.birth == b) ≡ false = ne_false r.now.key.birth b (λ e. differ (ap (λ (q : Bor Entry). q.now.key.birth) (sym is) ∙ e)) in
    let here : first_with b (r.now ∷ drop (i + 1) (lent rs)) ≡ None = rw t refl in
    sym (ap (first_with b) (lent_at rs i r h is) ∙ here)

pub leaves_rest : (rs : List (Bor Entry)) (i b : ℕ) (r : Bor Entry) → i < length rs → r ≡ get_or rs i r → ((get_or rs i r).now.key.birth ≡ b → ⊥)
    → drop i (lent rs) ≡ behind b (drop i (lent rs))
leaves_rest rs i b r h is differ =
    let t : (r.now.key.birth == b) ≡ false = ne_false r.now.key.birth b (λ e. differ (ap (λ (q : Bor Entry). q.now.key.birth) (sym is) ∙ e)) in
    let here : behind b (r.now ∷ drop (i + 1) (lent rs)) ≡ r.now ∷ drop (i + 1) (lent rs) = rw t refl in
    lent_at rs i r h is ∙ sym (ap (behind b) (lent_at rs i r h is) ∙ here)

-- ---- the least number of two lists
abbrev IsLow : ℕ → List Entry → Type 0
IsLow b [] = Unit {0}
IsLow b (e ∷ es) = b ≤ e.key.birth

low_olds : (es fs : List Entry) (b : ℕ) → lesser (first_birth es) (first_birth fs) ≡ Some b → IsLow b es
low_olds [] fs b h = tt
low_olds (e ∷ es) [] b h = let same : e.key.birth ≡ b = cc in omega (arith, same)
low_olds (e ∷ es) (f ∷ fs) b h = let same : min e.key.birth f.key.birth ≡ b = cc in omega (arith, same)

low_nows : (es fs : List Entry) (b : ℕ) → lesser (first_birth es) (first_birth fs) ≡ Some b → IsLow b fs
low_nows es [] b h = tt
low_nows [] (f ∷ fs) b h = let same : f.key.birth ≡ b = cc in omega (arith, same)
low_nows (e ∷ es) (f ∷ fs) b h = let same : min e.key.birth f.key.birth ≡ b = cc in omega (arith, same)

-- ---- the entry with the least number is the first one, or there is none
entry_first : (b : ℕ) (es : List Entry) → RisesStrictly (birth_numbers es) → IsLow b es → entry_with b es ≡ first_with b es
entry_first b [] rise low = refl
entry_first b (e ∷ es) rise low = first (e.key.birth == b) (none_with es b (numbered es b (above_none e.key.birth (birth_numbers es) b low rise.0)))
  where
    first : (t : Bool) → entry_with b es ≡ None → cond t (Some e) (entry_with b es) ≡ cond t (Some e) None
    first true none = refl
    first false none = none

    numbered : (gs : List Entry) (k : ℕ) → is_among (birth_numbers gs) k ≡ false → has_birth gs k ≡ false
    numbered [] k h = refl
    numbered (g ∷ gs) k h =
        let parts = or_false (g.key.birth == k) (is_among (birth_numbers gs) k) h in
        let rest = numbered gs k parts.1 in
        rw (parts.0, rest) refl

entry_behind : (b k : ℕ) (es : List Entry) → (b == k) ≡ false → entry_with k es ≡ entry_with k (behind b es)
entry_behind b k [] n = refl
entry_behind b k (e ∷ es) n = later (e.key.birth == b) refl
  where
    later : (t : Bool) → (e.key.birth == b) ≡ t → entry_with k (e ∷ es) ≡ entry_with k (cond t es (e ∷ es))
    later true h =
        let other : (e.key.birth == k) ≡ false = ap (λ m. m == k) ((Decides-eqb e.key.birth b).0 h) ∙ n in rw other refl
    later false h = refl

-- ---- what stands behind it
behind_above : (b : ℕ) (es : List Entry) → RisesStrictly (birth_numbers es) → IsLow b es → AllAbove b (birth_numbers (behind b es))
behind_above b [] rise low = tt
behind_above b (e ∷ es) rise low = later (e.key.birth == b) refl
  where
    later : (t : Bool) → (e.key.birth == b) ≡ t → AllAbove b (birth_numbers (cond t es (e ∷ es)))
    later true h = subst (λ n. AllAbove n (birth_numbers es)) ((Decides-eqb e.key.birth b).0 h) rise.0
    later false h =
        let less : b < e.key.birth = grind (arith, nat_tests, h, low) in
        (less, AllAbove-trans b e.key.birth (birth_numbers es) less rise.0)

pub behind_rises : (b : ℕ) (es : List Entry) → RisesStrictly (birth_numbers es) → RisesStrictly (birth_numbers (behind b es))
behind_rises b [] rise = tt
behind_rises b (e ∷ es) rise = later (e.key.birth == b)
  where
    later : (t : Bool) → RisesStrictly (birth_numbers (cond t es (e ∷ es)))
    later true = rise.1
    later false = rise

above_members : (b : ℕ) (cs : List ℕ) → ((k : ℕ) → is_among cs k ≡ true → b < k) → AllAbove b cs
above_members b [] h = tt
above_members b (c ∷ cs) h =
    let t : (c == c) ≡ true = (Decides-eqb c c).1 refl in
    (h c (rw t refl), above_members b cs (λ k r. h k (later (c == k) (is_among cs k) r)))
  where
    later : (s t : Bool) → t ≡ true → (s || t) ≡ true
    later true t q = refl
    later false t q = q

member_above : (b : ℕ) (es : List Entry) (k : ℕ) → AllAbove b (birth_numbers es) → has_birth es k ≡ true → b < k
member_above b [] k above h = cc
member_above b (e ∷ es) k above h = here (e.key.birth == k) refl h (λ r. member_above b es k above.1 r)
  where
    here : (t : Bool) → (e.key.birth == k) ≡ t → (t || has_birth es k) ≡ true → (has_birth es k ≡ true → b < k) → b < k
    here true q r go = let same : e.key.birth ≡ k = (Decides-eqb e.key.birth k).0 q in let less : b < e.key.birth = above.0 in omega (arith, same, less)
    here false q r go = go r

births_above : (b : ℕ) (es fs : List Entry) → AllAbove b (birth_numbers es) → AllAbove b (birth_numbers fs) → AllAbove b (births_of (es ++ fs))
births_above b es fs p q = above_members b (births_of (es ++ fs)) (λ k h. either k (sym (among-births (es ++ fs) k ∙ has-append es fs k) ∙ h))
  where
    either : (k : ℕ) → (has_birth es k || has_birth fs k) ≡ true → b < k
    either k h = or_case (has_birth es k) (has_birth fs k) (λ r. member_above b es k p r) (λ r. member_above b fs k q r) h
      where
        or_case : (s t : Bool) → (s ≡ true → b < k) → (t ≡ true → b < k) → (s || t) ≡ true → b < k
        or_case true t one two h = one refl
        or_case false t one two h = two h

other_number : (b : ℕ) (cs : List ℕ) (k : ℕ) → AllAbove b cs → is_among cs k ≡ true → (b == k) ≡ false
other_number b [] k above h = cc
other_number b (c ∷ cs) k above h = here (c == k) refl h (λ r. other_number b cs k above.1 r)
  where
    here : (t : Bool) → (c == k) ≡ t → (t || is_among cs k) ≡ true → (is_among cs k ≡ true → (b == k) ≡ false) → (b == k) ≡ false
    here true q r go = let same : c ≡ k = (Decides-eqb c k).0 q in let less : b < c = above.0 in grind (arith, nat_tests, same, less)
    here false q r go = go r

-- ---- the boxes of the next number, and then those of what stands behind it
boxes_behind : (b k : ℕ) (es fs : List Entry) → (b == k) ≡ false → boxes_at es fs k ≡ boxes_at (behind b es) (behind b fs) k
boxes_behind b k es fs n =
    ap (λ o. boxes_of o (entry_with k fs)) (entry_behind b k es n)
    ∙ ap (λ o. boxes_of (entry_with k (behind b es)) o) (entry_behind b k fs n)

boxes_first : (b : ℕ) (es fs : List Entry) → RisesStrictly (birth_numbers es) → RisesStrictly (birth_numbers fs) → IsLow b es → IsLow b fs
    → boxes_at es fs b ≡ boxes_of (first_with b es) (first_with b fs)
boxes_first b es fs rise rise' low low' =
    ap (λ o. boxes_of o (entry_with b fs)) (entry_first b es rise low)
    ∙ ap (λ o. boxes_of (first_with b es) o) (entry_first b fs rise' low')

pub next_boxes : (es fs : List Entry) (b : ℕ) → RisesStrictly (birth_numbers es) → RisesStrictly (birth_numbers fs)
    → lesser (first_birth es) (first_birth fs) ≡ Some b
    → changed_boxes es fs ≡ boxes_of (first_with b es) (first_with b fs) ++ changed_boxes (behind b es) (behind b fs)
next_boxes es fs b rise rise' least =
    let low = low_olds es fs b least in
    let low' = low_nows es fs b least in
    let later = births_of (behind b es ++ behind b fs) in
    let above = births_above b (behind b es) (behind b fs) (behind_above b es rise low) (behind_above b fs rise' low') in
    changed_among es fs (b ∷ later) (above, rises-births (behind b es ++ behind b fs))
    (λ k h. (let parts = or_false (b == k) (is_among later k) h in boxes_behind b k es fs parts.0 ∙ unknown_none (behind b es) (behind b fs) k parts.1))
    ∙ (ap (λ l. l ++ flat_map (boxes_at es fs) later) (boxes_first b es fs rise rise' low low')
    ∙ ap (λ l. boxes_of (first_with b es) (first_with b fs) ++ l)
    (flat_same (boxes_at es fs) (boxes_at (behind b es) (behind b fs)) later (λ k h. boxes_behind b k es fs (other_number b later k above h))))

pub merge_more : (w : Bounds) (done more : List Bounds) (es fs es' fs' : List Entry) (o p : Option Entry) (b : ℕ)
    → RisesStrictly (birth_numbers es) → RisesStrictly (birth_numbers fs) → lesser (first_birth es) (first_birth fs) ≡ Some b
    → o ≡ first_with b es → p ≡ first_with b fs → es' ≡ behind b es → fs' ≡ behind b fs → more ≡ done ++ cut_to w (boxes_of o p)
    → more ++ cut_to w (changed_boxes es' fs') ≡ done ++ cut_to w (changed_boxes es fs)
merge_more w done more es fs es' fs' o p b rise rise' least o_is p_is es_is fs_is made =
    let here : boxes_of o p ≡ boxes_of (first_with b es) (first_with b fs) =
    ap (λ q. boxes_of q p) o_is ∙ ap (λ q. boxes_of (first_with b es) q) p_is in
    let rest : changed_boxes es' fs' ≡ changed_boxes (behind b es) (behind b fs) =
    ap (λ l. changed_boxes l fs') es_is ∙ ap (λ l. changed_boxes (behind b es) l) fs_is in
    ap (λ l. l ++ cut_to w (changed_boxes es' fs')) made
    ∙ (append_assoc done (cut_to w (boxes_of o p)) (cut_to w (changed_boxes es' fs'))
    ∙ ap (λ l. done ++ l) (sym (cut-append w (boxes_of o p) (changed_boxes es' fs'))
    ∙ ap (cut_to w) (ap (λ l. l ++ changed_boxes es' fs') here
    ∙ (ap (λ l. boxes_of (first_with b es) (first_with b fs) ++ l) rest
    ∙ sym (next_boxes es fs b rise rise' least)))))

-- ---- what is left becomes less
behind_less : (b : ℕ) (e : Entry) (es : List Entry) → e.key.birth ≡ b → length (behind b (e ∷ es)) < length (e ∷ es)
behind_less b e es h = let t : (e.key.birth == b) ≡ true = (Decides-eqb e.key.birth b).1 h in rw t (omega arith)

behind_most : (b : ℕ) (es : List Entry) → length (behind b es) ≤ length es
behind_most b [] = omega arith
behind_most b (e ∷ es) = elim (e.key.birth == b) as (λ t. length (cond t es (e ∷ es)) ≤ length (e ∷ es)) [ true ↦ omega arith | false ↦ omega arith ]

one_of : (m n b : ℕ) → min m n ≡ b → (m ≡ b) ⊎ (n ≡ b)
one_of m n b h = elim (leb_tells m n) [ inl t ↦ inl (omega (arith, t.1, h)) | inr t ↦ inr (omega (arith, t.1, h)) ]

less_left : (es fs : List Entry) (b : ℕ) → lesser (first_birth es) (first_birth fs) ≡ Some b
    → length (behind b es) + length (behind b fs) < length es + length fs
less_left [] [] b h = cc
less_left [] (f ∷ fs) b h = let same : f.key.birth ≡ b = cc in let less = behind_less b f fs same in omega (arith, less)
less_left (e ∷ es) [] b h = let same : e.key.birth ≡ b = cc in let less = behind_less b e es same in omega (arith, less)
less_left (e ∷ es) (f ∷ fs) b h =
    let same : min e.key.birth f.key.birth ≡ b = cc in
    let one = behind_most b (e ∷ es) in
    let two = behind_most b (f ∷ fs) in
    elim (one_of e.key.birth f.key.birth b same) [
      | inl p ↦ (let less = behind_less b e es p in omega (arith, less, two))
      | inr p ↦ (let less = behind_less b f fs p in omega (arith, less, one))
    ]

-- the same of places in two lists
pub places_left : (es fs : List Entry) (i j i' j' b : ℕ) → lesser (first_birth (drop i es)) (first_birth (drop j fs)) ≡ Some b
    → drop i' es ≡ behind b (drop i es) → drop j' fs ≡ behind b (drop j fs)
    → (length es - i') + (length fs - j') < (length es - i) + (length fs - j)
places_left es fs i j i' j' b h p q =
    let less = less_left (drop i es) (drop j fs) b h in
    let one = ap length p in
    let two = ap length q in
    omega (arith, less, one, two, length-drop i es, length-drop j fs, length-drop i' es, length-drop j' fs)
