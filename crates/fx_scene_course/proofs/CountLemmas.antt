-- How many items there are before the first that fails a test, one item more at a time.
use Rattle.std.proofs.Common.{◌≡◌, ◌<◌, ◌≤◌, ℕ, ◌+◌, Bool, true, false, cond, List, ◌∷◌, drop, length, get_or, sym, ap, ◌∙◌, arith}
use Rattle.std.specs.Prelude.{not}
use Rattle.std.specs.List.{prefix_len}
use Rattle.std.proofs.lemmas.List.{drop_all, drop_more}

here : {A : Type 0} (test : A → Bool) (xs : List A) (i : ℕ) (x : A) → i < length xs → x ≡ get_or xs i x
    → prefix_len test (drop i xs) ≡ cond (test x) (1 + prefix_len test (drop (i + 1) xs)) 0
here test xs i x h is =
    ap (prefix_len test) (drop_more xs i x h ∙ ap (λ y. y ∷ drop (i + 1) xs) (sym is))

pub one_passes : {A : Type 0} (fails : A → Bool) (xs : List A) (i whole : ℕ) (x : A) → i < length xs
    → x ≡ get_or xs i x → fails x ≡ false → whole ≡ i + prefix_len (λ y. not (fails y)) (drop i xs)
    → whole ≡ i + 1 + prefix_len (λ y. not (fails y)) (drop (i + 1) xs)
one_passes fails xs i whole x h is passes so_far =
    let rest = prefix_len (λ y. not (fails y)) (drop (i + 1) xs) in
    let next : prefix_len (λ y. not (fails y)) (drop i xs) ≡ 1 + rest =
    here (λ y. not (fails y)) xs i x h is ∙ ap (λ b. cond (not b) (1 + rest) 0) passes in
    omega (arith, so_far, next)

pub one_fails : {A : Type 0} (fails : A → Bool) (xs : List A) (i whole : ℕ) (x : A) → i < length xs
    → x ≡ get_or xs i x → fails x ≡ true → whole ≡ i + prefix_len (λ y. not (fails y)) (drop i xs) → i ≡ whole
one_fails fails xs i whole x h is failed so_far =
    let rest = prefix_len (λ y. not (fails y)) (drop (i + 1) xs) in
    let next : prefix_len (λ y. not (fails y)) (drop i xs) ≡ 0 =
    here (λ y. not (fails y)) xs i x h is ∙ ap (λ b. cond (not b) (1 + rest) 0) failed in
    omega (arith, so_far, next)

pub all_pass : {A : Type 0} (fails : A → Bool) (xs : List A) (i whole count : ℕ) → i ≤ length xs → length xs ≤ i
    → count ≡ length xs → whole ≡ i + prefix_len (λ y. not (fails y)) (drop i xs) → count ≡ whole
all_pass fails xs i whole count most all counted so_far =
    let next : prefix_len (λ y. not (fails y)) (drop i xs) ≡ 0 =
    ap (prefix_len (λ y. not (fails y))) (drop_all i xs all) in
    omega (arith, most, all, counted, so_far, next)
