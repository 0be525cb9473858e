-- Lists of keys: what is among them after one is put in or taken out.
use Rattle.std.proofs.Common.{◌≡◌, ℕ, zero, suc, ◌+◌, ◌-◌, ◌<◌, Bool, true, false, not, cond, ◌==◌, ◌&&◌, ◌||◌, List, [], ◌∷◌, ◌++◌, length, take, get_or, arith, refl, sym, ◌∙◌, ap, inl, inr, ◌⊎◌}
use Rattle.std.specs.List.{insert, list_all}
use Rattle.std.proofs.lemmas.Bool.{cases_Bool, and_parts, and_from, eqb-true, eq-eqb, both_ways, false≢true, or_parts, or_right, not-true}
use Rattle.std.proofs.lemmas.List.{append-nil, take_all, take_more}
use Rattle.std.proofs.lemmas.List.Elements.{filter-append}
use Rattle.fx_base.specs.declared.keys.NodeKey.{NodeKey}
use Rattle.fx_tree.specs.Scene.{is_same, has, without, is_once}

key_of : ℕ → ℕ → NodeKey
key_of slot birth = record { slot = slot; birth = birth }

pub is_same-refl : (key : NodeKey) → is_same key key ≡ true
is_same-refl key = and_from _ _ (eq-eqb key.slot key.slot refl) (eq-eqb key.birth key.birth refl)

pub is_same-true : (one other : NodeKey) → is_same one other ≡ true → one ≡ other
is_same-true one other same =
    let parts = and_parts (one.slot == other.slot) (one.birth == other.birth) same in
    let by_slot : ℕ → NodeKey = λ slot. record { slot = slot; birth = one.birth } in
    let by_birth : ℕ → NodeKey = λ birth. record { slot = other.slot; birth = birth } in
    ap by_slot (eqb-true _ _ parts.0) ∙ ap by_birth (eqb-true _ _ parts.1)

pub is_same-false : (one other : NodeKey) → (one ≡ other → ⊥) → is_same one other ≡ false
is_same-false one other differs =
    elim (cases_Bool (is_same one other)) [
      | inl same ↦ absurd (differs (is_same-true one other same))
      | inr other ↦ other
    ]

pub is_same-sym : (one other : NodeKey) → is_same one other ≡ is_same other one
is_same-sym one other =
    elim (cases_Bool (is_same one other)) [
      | inl same ↦ same ∙ sym (ap (λ (k : NodeKey). is_same other k) (is_same-true one other same) ∙ is_same-refl other)
      | inr differs ↦
          differs
          ∙ sym (is_same-false other one
          (λ e. both_ways _ differs (ap (λ (k : NodeKey). is_same one k) e ∙ is_same-refl one)))
    ]

or-swap : (a b c : Bool) → (a || (b || c)) ≡ (b || (a || c))
or-swap true true c = refl
or-swap true false c = refl
or-swap false true c = refl
or-swap false false c = refl

pub has-nil : (key : NodeKey) → has [] key ≡ false
unfolding has
has-nil key = refl

pub has-cons : (first : NodeKey) (rest : List NodeKey) (key : NodeKey) → has (first ∷ rest) key ≡ (is_same first key || has rest key)
unfolding has
has-cons first rest key = refl

pub has-insert : (i : ℕ) (xs : List NodeKey) (x key : NodeKey) → has (insert xs i x) key ≡ (is_same x key || has xs key)
unfolding has
has-insert zero [] x key = refl
has-insert zero (y ∷ ys) x key = refl
has-insert (suc i) [] x key = refl
has-insert (suc i) (y ∷ ys) x key =
    ap (λ (b : Bool). is_same y key || b) (has-insert i ys x key) ∙ or-swap (is_same y key) (is_same x key) (has ys key)

-- a kept key is another one
kept_step : (x child key : NodeKey) (less more : List NodeKey)
    → has less key ≡ (has more key && not (is_same child key))
    → has (cond (not (is_same x child)) (x ∷ less) less) key ≡ (has (x ∷ more) key && not (is_same child key))
unfolding has
kept_step x child key less more rest =
    elim (cases_Bool (is_same x child)) [
      | inl same ↦
          let e : is_same x key ≡ is_same child key = ap (λ (k : NodeKey). is_same k key) (is_same-true x child same) in
          ap (λ (b : Bool). has (cond (not b) (x ∷ less) less) key) same
          ∙ rest
          ∙ drops (is_same child key) (has more key)
          ∙ sym (ap (λ (b : Bool). (b || has more key) && not (is_same child key)) e)
      | inr differs ↦
          ap (λ (b : Bool). has (cond (not b) (x ∷ less) less) key) differs
          ∙ ap (λ (b : Bool). is_same x key || b) rest
          ∙ by_key (cases_Bool (is_same x key)) differs
    ]
  where
    drops : (b h : Bool) → (h && not b) ≡ ((b || h) && not b)
    drops true true = refl
    drops true false = refl
    drops false true = refl
    drops false false = refl

    by_false : (h b : Bool) → (false || (h && not b)) ≡ ((false || h) && not b)
    by_false true b = refl
    by_false false b = refl

    by_key : (is_same x key ≡ true) ⊎ (is_same x key ≡ false) → is_same x child ≡ false
        → (is_same x key || (has more key && not (is_same child key))) ≡ ((is_same x key || has more key) && not (is_same child key))
    by_key (inl same) differs =
        let other : is_same child key ≡ false =
        is_same-false child key (λ e. both_ways _ differs (ap (λ (k : NodeKey). is_same x k) (e ∙ sym (is_same-true x key same)) ∙ is_same-refl x)) in
        rw (same, other) refl
    by_key (inr differs) _ = rw differs (by_false (has more key) (is_same child key))

pub has-without : (child : NodeKey) (xs : List NodeKey) (key : NodeKey) → has (without child xs) key ≡ (has xs key && not (is_same child key))
unfolding has
has-without child [] key = refl
has-without child (x ∷ xs) key = kept_step x child key (without child xs) xs (has-without child xs key)

pub without-absent : (child : NodeKey) (xs : List NodeKey) → has xs child ≡ false → without child xs ≡ xs
unfolding has
without-absent child [] absent = refl
without-absent child (x ∷ xs) absent =
    let parts = or_parts (is_same x child) (has xs child) absent in
    ap (λ (b : Bool). cond (not b) (x ∷ without child xs) (without child xs)) parts.0
    ∙ ap (λ (rest : List NodeKey). x ∷ rest) (without-absent child xs parts.1)

pub is_once-insert : (i : ℕ) (xs : List NodeKey) (x : NodeKey) → has xs x ≡ false → is_once xs ≡ true → is_once (insert xs i x) ≡ true
unfolding has is_once
is_once-insert zero [] x absent once = refl
is_once-insert zero (y ∷ ys) x absent once = and_from (not (has (y ∷ ys) x)) (is_once (y ∷ ys)) (ap not absent) once
is_once-insert (suc i) [] x absent once = refl
is_once-insert (suc i) (y ∷ ys) x absent once =
    let parts = or_parts (is_same y x) (has ys x) absent in
    let rest = and_parts (not (has ys y)) (is_once ys) once in
    and_from (not (has (insert ys i x) y)) (is_once (insert ys i x))
    (ap not (has-insert i ys x y ∙ ap (λ (b : Bool). b || has ys y) (is_same-sym x y ∙ parts.0)) ∙ rest.0)
    (is_once-insert i ys x parts.1 rest.1)

once_step : (x : NodeKey) (child : NodeKey) (xs : List NodeKey) → not (has xs x) ≡ true → is_once (without child xs) ≡ true
    → is_once (cond (not (is_same x child)) (x ∷ without child xs) (without child xs)) ≡ true
unfolding is_once
once_step x child xs fresh once =
    elim (cases_Bool (is_same x child)) [
      | inl same ↦ ap (λ (b : Bool). is_once (cond (not b) (x ∷ without child xs) (without child xs))) same ∙ once
      | inr differs ↦
          ap (λ (b : Bool). is_once (cond (not b) (x ∷ without child xs) (without child xs))) differs
          ∙ and_from (not (has (without child xs) x)) (is_once (without child xs))
          (ap not (has-without child xs x ∙ ap (λ (b : Bool). b && not (is_same child x)) (not-true (has xs x) fresh)))
          once
    ]

pub is_once-without : (child : NodeKey) (xs : List NodeKey) → is_once xs ≡ true → is_once (without child xs) ≡ true
unfolding is_once
is_once-without child [] once = refl
is_once-without child (x ∷ xs) once =
    let parts = and_parts (not (has xs x)) (is_once xs) once in
    once_step x child xs parts.0 (is_once-without child xs parts.1)

-- a test that all keys pass, and one key
pub list_all-has : (test : NodeKey → Bool) (xs : List NodeKey) (key : NodeKey) → list_all test xs ≡ true → has xs key ≡ true → test key ≡ true
unfolding has
list_all-has test [] key all there = absurd (false≢true there)
list_all-has test (x ∷ xs) key all there =
    let parts = and_parts (test x) (list_all test xs) all in
    elim (cases_Bool (is_same x key)) [
      | inl same ↦ sym (ap test (is_same-true x key same)) ∙ parts.0
      | inr differs ↦ list_all-has test xs key parts.1 (sym (ap (λ (b : Bool). b || has xs key) differs) ∙ there)
    ]

pub list_all-from_has : (test : NodeKey → Bool) (xs : List NodeKey) → ((key : NodeKey) → has xs key ≡ true → test key ≡ true) → list_all test xs ≡ true
unfolding has
list_all-from_has test [] each = refl
list_all-from_has test (x ∷ xs) each =
    and_from (test x) (list_all test xs)
    (each x (ap (λ (b : Bool). b || has xs x) (is_same-refl x)))
    (list_all-from_has test xs (λ key there. each key (later (is_same x key) (has xs key) there)))
  where
    later : (a b : Bool) → b ≡ true → (a || b) ≡ true
    later true b e = refl
    later false b e = e

pub has-item : (keys : List NodeKey) (i : ℕ) (d : NodeKey) → i < length keys → has keys (get_or keys i d) ≡ true
unfolding has
has-item [] i d within = absurd (omega (arith, within))
has-item (x ∷ rest) zero d within = ap (λ (b : Bool). b || has rest x) (is_same-refl x)
has-item (x ∷ rest) (suc i) d within =
    or_right (is_same x (get_or rest i d)) (has rest (get_or rest i d)) (has-item rest i d (omega (arith, within)))

-- the keys end with this one
pub last_of : (keys : List NodeKey) (d : NodeKey) → 0 < length keys → keys ≡ take (length keys - 1) keys ++ get_or keys (length keys - 1) d ∷ []
last_of keys d some =
    let e : length keys ≡ (length keys - 1) + 1 = omega (arith, some) in
    let within : length keys - 1 < length keys = omega (arith, some) in
    sym (take_all (length keys) keys (omega arith))
    ∙ ap (λ (n : ℕ). take n keys) e
    ∙ take_more keys (length keys - 1) d within

has-last : (front : List NodeKey) (x : NodeKey) → has (front ++ x ∷ []) x ≡ true
unfolding has
has-last [] x = ap (λ (b : Bool). b || false) (is_same-refl x)
has-last (y ∷ ys) x = or_right (is_same y x) (has (ys ++ x ∷ []) x) (has-last ys x)

alone_last : (front : List NodeKey) (x : NodeKey) → is_once (front ++ x ∷ []) ≡ true → has front x ≡ false
unfolding has is_once
alone_last [] x once = refl
alone_last (y ∷ ys) x once =
    let parts = and_parts (not (has (ys ++ x ∷ []) y)) (is_once (ys ++ x ∷ [])) once in
    let apart : is_same y x ≡ false =
    is_same-false y x
    (λ e. both_ways _ (not-true _ parts.0) (ap (has (ys ++ x ∷ [])) e ∙ has-last ys x)) in
    ap (λ (b : Bool). b || has ys x) apart ∙ alone_last ys x parts.1

pub without-last : (front : List NodeKey) (x : NodeKey) → is_once (front ++ x ∷ []) ≡ true → without x (front ++ x ∷ []) ≡ front
without-last front x once =
    filter-append (λ (k : NodeKey). not (is_same k x)) front (x ∷ [])
    ∙ ap (λ (l : List NodeKey). l ++ without x (x ∷ [])) (without-absent x front (alone_last front x once))
    ∙ ap (λ (b : Bool). front ++ cond (not b) (x ∷ []) []) (is_same-refl x)
    ∙ append-nil front
