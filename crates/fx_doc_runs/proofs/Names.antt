-- Names that are the same: the grammar's test, and those of code.
-- Below the answers on imports and attributes.
use Rattle.std.proofs.Common.{if◌then◌else◌, ◌≡◌, Bool, true, false, cond, ◌&&◌, ◌||◌, List, [], ◌∷◌, ◌++◌, map, refl, sym, ◌∙◌, ap, arith, zero, drop-cons, add-one, ◌≤◌, IsTrue, ◌↔◌, not, ℕ, ◌+◌, ◌<◌, suc, length, take, drop, get_or}
use lib.Dec.{eqb, leb}
use lib.Pointwise.{pointwise}
use Rattle.std.proofs.Math.Seq.{take-suc}
use Rattle.std.proofs.lemmas.List.{take-append-drop}
use Rattle.fx_doc_grammar.specs.Grammar.{is_among}
use Rattle.std.specs.Str.{bytes_eq}
use Rattle.fx_doc_grammar.specs.Machine.{keys_of}
use Rattle.fx_doc_runs.specs.Views.{attr_view}
use Rattle.fx_doc_runs.specs.declared.document.Attribute.{Attribute}

pub pointwise_same : (a b : List ℕ) → pointwise eqb a b ≡ bytes_eq a b
pointwise_same [] [] = refl
pointwise_same [] (y ∷ b) = refl
pointwise_same (x ∷ a) [] = refl
pointwise_same (x ∷ a) (y ∷ b) = ap (λ z. eqb x y && z) (pointwise_same a b)

eqb_refl : (n : ℕ) → eqb n n ≡ true
eqb_refl n = grind arith

pub same_itself : (a : List ℕ) → bytes_eq a a ≡ true
same_itself [] = refl
same_itself (x ∷ a) = ap (λ z. z && bytes_eq a a) (eqb_refl x) ∙ same_itself a

both : (a b : Bool) → (a && b) ≡ true → (a ≡ true) × (b ≡ true)
both true b e = (refl, e)
both false b e = Prim.cc

eqb_is : (a b : ℕ) → eqb a b ≡ true → a ≡ b
eqb_is a b e = grind (arith, e)

pub same_is : (a b : List ℕ) → bytes_eq a b ≡ true → a ≡ b
same_is [] [] e = refl
same_is [] (y ∷ b) e = Prim.cc
same_is (x ∷ a) [] e = Prim.cc
same_is (x ∷ a) (y ∷ b) e =
    let r = both (eqb x y) (bytes_eq a b) e in
    let h : x ≡ y = eqb_is x y r.0 in
    let t : a ≡ b = same_is a b r.1 in
    Prim.cc

no_true : (b : Bool) → (b ≡ true → ⊥) → b ≡ false
no_true true n = absurd (n refl)
no_true false n = refl

pub same_not : (a b : List ℕ) → (b ≡ a → ⊥) → bytes_eq a b ≡ false
same_not a b n = no_true (bytes_eq a b) (λ e. n (sym (same_is a b e)))

-- a name is among names, from the left
pub among_found : (k n : List ℕ) (before after : List (List ℕ)) → n ≡ k → is_among k (before ++ (n ∷ after)) ≡ true
among_found k n [] after e = ap (λ y. y || is_among k after) (ap (λ y. bytes_eq k y) e ∙ same_itself k)
among_found k n (x ∷ before) after e = ap (λ y. bytes_eq k x || y) (among_found k n before after e) ∙ or_true (bytes_eq k x)
  where
    or_true : (b : Bool) → (b || true) ≡ true
    or_true true = refl
    or_true false = refl

pub among_not : (k n : List ℕ) (before : List (List ℕ)) → is_among k before ≡ false → (n ≡ k → ⊥) → is_among k (before ++ (n ∷ [])) ≡ false
among_not k n [] e f = ap (λ y. y || false) (same_not k n f)
among_not k n (x ∷ before) e f =
    let r = none (bytes_eq k x) (is_among k before) e in
    ap (λ y. y || is_among k (before ++ (n ∷ []))) r.0 ∙ among_not k n before r.1 f
  where
    none : (a b : Bool) → (a || b) ≡ false → (a ≡ false) × (b ≡ false)
    none true b e = Prim.cc
    none false b e = (refl, e)

-- names in a list of attributes, up to an index

abbrev pub names_to : List Attribute → ℕ → List (List ℕ)
names_to xs i = map (λ (a : Attribute). a.name) (take i xs)

pub keys_are : (xs : List Attribute) → keys_of (map attr_view xs) ≡ map (λ (a : Attribute). a.name) xs
keys_are [] = refl
keys_are (x ∷ xs) = ap (λ (y : List (List ℕ)). x.name ∷ y) (keys_are xs)

map_append : (xs ys : List Attribute) → map (λ (a : Attribute). a.name) (xs ++ ys) ≡ map (λ (a : Attribute). a.name) xs ++ map (λ (a : Attribute). a.name) ys
map_append [] ys = refl
map_append (x ∷ xs) ys = ap (λ (y : List (List ℕ)). x.name ∷ y) (map_append xs ys)

pub fresh_more : (k : List ℕ) (xs : List Attribute) (i : ℕ) (x : Attribute) → i < length xs → x ≡ get_or xs i x → is_among k (names_to xs i) ≡ false → (x.name ≡ k → ⊥) → is_among k (names_to xs (i + 1)) ≡ false
fresh_more k xs i x h e n f =
    let t : take (i + 1) xs ≡ take i xs ++ (x ∷ []) = rw add-one (take-suc xs i x h ∙ ap (λ y. take i xs ++ (y ∷ [])) (sym e)) in
    ap (λ (y : List Attribute). is_among k (map (λ (a : Attribute). a.name) y)) t ∙ (ap (is_among k) (map_append (take i xs) (x ∷ [])) ∙ among_not k x.name (names_to xs i) n f)

pub fresh_found : (k : List ℕ) (xs : List Attribute) (i : ℕ) (x : Attribute) → i < length xs → x ≡ get_or xs i x → x.name ≡ k → is_among k (map (λ (a : Attribute). a.name) xs) ≡ true
fresh_found k xs i x h e f =
    let t : xs ≡ take i xs ++ (x ∷ drop (suc i) xs) = sym (take-append-drop i xs) ∙ ap (λ y. take i xs ++ y) (drop-cons xs i x h ∙ ap (λ y. y ∷ drop (suc i) xs) (sym e)) in
    ap (λ (y : List Attribute). is_among k (map (λ (a : Attribute). a.name) y)) t ∙ (ap (is_among k) (map_append (take i xs) (x ∷ drop (suc i) xs)) ∙ among_found k x.name (names_to xs i) (map (λ (a : Attribute). a.name) (drop (suc i) xs)) f)

take_all : (xs : List Attribute) (i : ℕ) → length xs ≤ i → take i xs ≡ xs
take_all [] zero h = refl
take_all [] (suc i) h = refl
take_all (x ∷ xs) zero h = absurd (let g : suc (length xs) ≤ 0 = h in omega arith)
take_all (x ∷ xs) (suc i) h = ap (λ (y : List Attribute). x ∷ y) (take_all xs i (let g : suc (length xs) ≤ suc i = h in omega arith))

pub fresh_none : (k : List ℕ) (xs : List Attribute) (i : ℕ) → length xs ≤ i → is_among k (names_to xs i) ≡ false → is_among k (map (λ (a : Attribute). a.name) xs) ≡ false
fresh_none k xs i h n = ap (λ (y : List Attribute). is_among k (map (λ (a : Attribute). a.name) y)) (sym (take_all xs i h)) ∙ n

-- what an answer on names says
pub so : {P : Type 0} (b : Bool) → IsTrue b ↔ P → b ≡ true → P
so true r e = r.0 e
so false r e = r.0 e

pub so_not : {P : Type 0} (b : Bool) → IsTrue b ↔ P → b ≡ false → P → ⊥
so_not true r e p = Prim.cc
so_not false r e p = let h : false ≡ true = r.1 p in Prim.cc

among_both : (k : List ℕ) (ns ms : List (List ℕ)) → is_among k (ns ++ ms) ≡ (is_among k ns || is_among k ms)
among_both k [] ms = refl
among_both k (n ∷ ns) ms = ap (λ z. bytes_eq k n || z) (among_both k ns ms) ∙ or_same (bytes_eq k n) (is_among k ns) (is_among k ms)
  where
    or_same : (a b c : Bool) → (a || (b || c)) ≡ ((a || b) || c)
    or_same true b c = refl
    or_same false b c = refl

not_either : (a b : Bool) → (not a && not b) ≡ not (a || b)
not_either true b = refl
not_either false b = refl

-- the first names and the later ones are all
pub fresh_is : (k : List ℕ) (xs : List Attribute) (a b : Bool) → a ≡ is_among k (map (λ (x : Attribute). x.name) (take 8 xs)) → b ≡ is_among k (map (λ (x : Attribute). x.name) (drop 8 xs)) → (not a && not b) ≡ not (is_among k (keys_of (map attr_view xs)))
fresh_is k xs a b e f =
    not_either a b ∙ ap not ((ap (λ z. z || b) e ∙ ap (λ z. is_among k (map (λ (x : Attribute). x.name) (take 8 xs)) || z) f)
    ∙ (sym (among_both k (map (λ (x : Attribute). x.name) (take 8 xs)) (map (λ (x : Attribute). x.name) (drop 8 xs)))
    ∙ (ap (is_among k) (sym (map_append (take 8 xs) (drop 8 xs)) ∙ ap (map (λ (x : Attribute). x.name)) (take-append-drop 8 xs)) ∙ sym (ap (is_among k) (keys_are xs)))))

-- one attribute more
drop_push : (n : ℕ) (xs : List Attribute) (a : Attribute) → drop n (xs ++ (a ∷ [])) ≡ cond (leb n (length xs)) (drop n xs ++ (a ∷ [])) (drop n xs)
drop_push zero xs a = ap (λ z. cond z (xs ++ (a ∷ [])) xs) (zero_least (length xs))
  where
    zero_least : (m : ℕ) → true ≡ leb 0 m
    zero_least m = grind arith
drop_push (suc zero) [] a = refl
drop_push (suc (suc n)) [] a = ap (λ z. cond z (a ∷ []) []) (none n)
  where
    none : (m : ℕ) → false ≡ leb (suc (suc m)) 0
    none m = grind arith
drop_push (suc n) (x ∷ xs) a = drop_push n xs a ∙ ap (λ z. cond z (drop n xs ++ (a ∷ [])) (drop n xs)) (sucs n (length xs))
  where
    sucs : (n m : ℕ) → leb n m ≡ leb (suc n) (suc m)
    sucs n m = grind arith

pub later_push : (xs ys : List Attribute) (a : Attribute) (k : List ℕ) → ys ≡ xs ++ (a ∷ []) → a.name ≡ k
    → cond (leb 8 (length xs)) (map (λ (x : Attribute). x.name) (drop 8 xs) ++ (k ∷ [])) (map (λ (x : Attribute). x.name) (drop 8 xs)) ≡ map (λ (x : Attribute). x.name) (drop 8 ys)
later_push xs ys a k e f = by (leb 8 (length xs)) refl
  where
    by : (b : Bool) → leb 8 (length xs) ≡ b → cond b (map (λ (x : Attribute). x.name) (drop 8 xs) ++ (k ∷ [])) (map (λ (x : Attribute). x.name) (drop 8 xs)) ≡ map (λ (x : Attribute). x.name) (drop 8 ys)
    by true g = ap (λ z. map (λ (x : Attribute). x.name) (drop 8 xs) ++ (z ∷ [])) (sym f) ∙ (sym (map_append (drop 8 xs) (a ∷ [])) ∙ ap (map (λ (x : Attribute). x.name)) (sym (ap (drop 8) e ∙ (drop_push 8 xs a ∙ ap (λ z. cond z (drop 8 xs ++ (a ∷ [])) (drop 8 xs)) g))))
    by false g = ap (map (λ (x : Attribute). x.name)) (sym (ap (drop 8) e ∙ (drop_push 8 xs a ∙ ap (λ z. cond z (drop 8 xs ++ (a ∷ [])) (drop 8 xs)) g)))

-- one of the first eight more, or none
pub later_kept : (b : Bool) (xs ys : List Attribute) (a : Attribute) → ys ≡ (if b then xs ++ (a ∷ []) else xs) → length xs < 8 → map (λ (x : Attribute). x.name) (drop 8 xs) ≡ map (λ (x : Attribute). x.name) (drop 8 ys)
later_kept true xs ys a e h = ap (λ b. cond b (map (λ (x : Attribute). x.name) (drop 8 xs) ++ (a.name ∷ [])) (map (λ (x : Attribute). x.name) (drop 8 xs))) (sym (few (length xs) h)) ∙ later_push xs ys a a.name e refl
  where
    few : (n : ℕ) → n < 8 → leb 8 n ≡ false
    few n h = grind arith
later_kept false xs ys a e h = ap (λ (y : List Attribute). map (λ (x : Attribute). x.name) (drop 8 y)) (sym e)
