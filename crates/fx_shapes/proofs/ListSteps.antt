-- One element more of a list, with its index.
use Rattle.std.proofs.Common.{◌≡◌, ◌<◌, ◌+◌, ℕ, Bool, List, [], ◌∷◌, ◌++◌, length, take, get_or, map, refl, sym, ap, ◌∙◌, arith, length-take, append_assoc, append-nil}
use Rattle.std.specs.List.{enumerate_from, filter, flat_map}
use Rattle.std.proofs.lemmas.List.{length-map, map-append, take_more}
use Rattle.std.proofs.lemmas.List.Concat.{flat_map-append}
use Rattle.std.proofs.lemmas.List.Elements.{filter-append}

enumerate-append : {X : Type 0} (n : ℕ) (xs ys : List X) → enumerate_from n (xs ++ ys) ≡ enumerate_from n xs ++ enumerate_from (n + length xs) ys
enumerate-append n [] ys = let e : n + 0 ≡ n = omega arith in rw e refl
enumerate-append n (x ∷ xs) ys =
    let e : (n + 1) + length xs ≡ n + length (x ∷ xs) = omega arith in
    ap (λ r. (n, x) ∷ r) (enumerate-append (n + 1) xs ys ∙ ap (λ m. enumerate_from (n + 1) xs ++ enumerate_from m ys) e)

enumerate_more : {X : Type 0} (xs : List X) (i : ℕ) (d : X) → i < length xs
    → enumerate_from 0 (take (i + 1) xs) ≡ enumerate_from 0 (take i xs) ++ (i, get_or xs i d) ∷ []
enumerate_more xs i d h =
    let len : 0 + length (take i xs) ≡ i = omega (arith, length-take i xs) in
    ap (λ l. enumerate_from 0 l) (take_more xs i d h)
    ∙ (enumerate-append 0 (take i xs) (get_or xs i d ∷ []) ∙ ap (λ m. enumerate_from 0 (take i xs) ++ (m, get_or xs i d) ∷ []) len)

-- what is made of each, tested and put behind what was there
pub kept_more : {X A : Type 0} (p : A → Bool) (f : ℕ × X → A) (before now : List A) (xs : List X) (i : ℕ) (d : X)
    → i < length xs → now ≡ before ++ filter p (map f (enumerate_from 0 (take i xs)))
    → now ++ filter p (f (i, get_or xs i d) ∷ []) ≡ before ++ filter p (map f (enumerate_from 0 (take (i + 1) xs)))
kept_more p f before now xs i d h is =
    let all = enumerate_from 0 (take i xs) in
    let x = get_or xs i d in
    ap (λ l. l ++ filter p (f (i, x) ∷ [])) is
    ∙ (append_assoc before (filter p (map f all)) (filter p (f (i, x) ∷ []))
    ∙ ap (λ l. before ++ l) (sym (ap (λ l. filter p (map f l)) (enumerate_more xs i d h)
    ∙ (ap (filter p) (map-append f all ((i, x) ∷ [])) ∙ filter-append p (map f all) (f (i, x) ∷ [])))))

-- the same where lists are made
pub kept_more_lists : {X A : Type 0} (p : A → Bool) (f : ℕ × X → List A) (before now : List A) (xs : List X) (i : ℕ) (d : X)
    → i < length xs → now ≡ before ++ filter p (flat_map f (enumerate_from 0 (take i xs)))
    → now ++ filter p (f (i, get_or xs i d)) ≡ before ++ filter p (flat_map f (enumerate_from 0 (take (i + 1) xs)))
kept_more_lists p f before now xs i d h is =
    let all = enumerate_from 0 (take i xs) in
    let x = get_or xs i d in
    let one : flat_map f ((i, x) ∷ []) ≡ f (i, x) = append-nil (f (i, x)) in
    ap (λ l. l ++ filter p (f (i, x))) is
    ∙ (append_assoc before (filter p (flat_map f all)) (filter p (f (i, x)))
    ∙ ap (λ l. before ++ l) (sym (ap (λ l. filter p (flat_map f l)) (enumerate_more xs i d h)
    ∙ (ap (filter p) (flat_map-append f all ((i, x) ∷ []) ∙ ap (λ l. flat_map f all ++ l) one) ∙ filter-append p (flat_map f all) (f (i, x))))))

-- the same where each is made of another first
pub kept_more_mapped : {X Y A : Type 0} (p : A → Bool) (f : ℕ × Y → A) (g : X → Y) (before now : List A) (xs : List X) (i : ℕ) (d : X)
    → i < length xs → now ≡ before ++ filter p (map f (enumerate_from 0 (map g (take i xs))))
    → now ++ filter p (f (i, g (get_or xs i d)) ∷ []) ≡ before ++ filter p (map f (enumerate_from 0 (map g (take (i + 1) xs))))
kept_more_mapped p f g before now xs i d h is =
    let all = enumerate_from 0 (map g (take i xs)) in
    let y = g (get_or xs i d) in
    let len : 0 + length (map g (take i xs)) ≡ i = omega (arith, length-take i xs, length-map (take i xs) g) in
    let more : enumerate_from 0 (map g (take (i + 1) xs)) ≡ all ++ (i, y) ∷ [] =
    ap (λ l. enumerate_from 0 (map g l)) (take_more xs i d h)
    ∙ (ap (enumerate_from 0) (map-append g (take i xs) (get_or xs i d ∷ []))
    ∙ (enumerate-append 0 (map g (take i xs)) (y ∷ []) ∙ ap (λ m. all ++ (m, y) ∷ []) len)) in
    ap (λ l. l ++ filter p (f (i, y) ∷ [])) is
    ∙ (append_assoc before (filter p (map f all)) (filter p (f (i, y) ∷ []))
    ∙ ap (λ l. before ++ l) (sym (ap (λ l. filter p (map f l)) more
    ∙ (ap (filter p) (map-append f all ((i, y) ∷ [])) ∙ filter-append p (map f all) (f (i, y) ∷ [])))))
