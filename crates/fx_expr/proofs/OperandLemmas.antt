-- The list of different paths grows with the tokens.
use Rattle.std.proofs.Common.{◌≡◌, ◌<◌, ◌≤◌, ◌+◌, ℕ, Bool, true, false, not, ◌||◌, ◌++◌, List, [], ◌∷◌, suc, length, take, drop, get_or, cond, refl, ap, sym, ◌∙◌, subst, arith, append_assoc, ltb}
use Rattle.std.specs.List.{filter, list_any, prefix_len}
use Rattle.std.proofs.lemmas.List.{append-nil, length-append}
use Rattle.std.proofs.lemmas.List.{take_more, take-append-drop}
use Rattle.std.proofs.lemmas.Bool.Decides.{Decides-ltb}
use lib.Pointwise.{pointwise_decides, bytes_decides}
use Rattle.fx_expr.specs.declared.tokens.Token.{Token}
use Rattle.fx_expr.specs.declared.tokens.Token.TheVariants.{Constant, Path, Opening, Closing, Exclamation, Binary}
use Rattle.fx_expr.specs.Operands.{same_path, paths_in, once, with_path, place_in}

pub known_path : (paths : List (List (List ℕ))) (names : List (List ℕ)) (t : Token) → t ≡ Path names → list_any (λ path. same_path path names) paths ≡ true → paths ≡ with_path paths t
known_path paths names t e h = rw (e, h) refl

-- the comparison decides equality
pub same_is : (a b : List (List ℕ)) → same_path a b ≡ true → a ≡ b
unfolding same_path
same_is a b e = (pointwise_decides bytes_decides a b).0 e

pub same_self : (a : List (List ℕ)) → same_path a a ≡ true
unfolding same_path
same_self a = (pointwise_decides bytes_decides a a).1 refl

pub paths_in-append : (ts us : List Token) → paths_in (ts ++ us) ≡ paths_in ts ++ paths_in us
paths_in-append [] us = refl
paths_in-append (Path names ∷ ts) us = ap (λ ps. names ∷ ps) (paths_in-append ts us)
paths_in-append (Constant v ∷ ts) us = paths_in-append ts us
paths_in-append (Opening ∷ ts) us = paths_in-append ts us
paths_in-append (Closing ∷ ts) us = paths_in-append ts us
paths_in-append (Exclamation ∷ ts) us = paths_in-append ts us
paths_in-append (Binary sign ∷ ts) us = paths_in-append ts us

others : List (List ℕ) → List (List (List ℕ)) → List (List (List ℕ))
others p ps = filter (λ q. not (same_path p q)) ps

listed : List (List (List ℕ)) → List (List ℕ) → Bool
listed ps q = list_any (λ path. same_path path q) ps

with_one : List (List (List ℕ)) → List (List ℕ) → List (List (List ℕ))
with_one ps q = cond (listed ps q) ps (ps ++ (q ∷ []))

others-append : (p q : List (List ℕ)) (ps : List (List (List ℕ))) → others p (ps ++ (q ∷ [])) ≡ others p ps ++ cond (same_path p q) [] (q ∷ [])
unfolding others
others-append p q [] = (elim (same_path p q) as (λ b. cond (not b) (q ∷ []) [] ≡ cond b [] (q ∷ [])) [ true ↦ refl | false ↦ refl ])
others-append p q (r ∷ ps) = (elim (same_path p r) as (λ b. cond (not b) (r ∷ others p (ps ++ (q ∷ []))) (others p (ps ++ (q ∷ []))) ≡ cond (not b) (r ∷ others p ps) (others p ps) ++ cond (same_path p q) [] (q ∷ []))
    [ true ↦ others-append p q ps | false ↦ ap (λ xs. r ∷ xs) (others-append p q ps) ])

-- another path is listed among the others just where it was listed
listed-others : (p q : List (List ℕ)) (ps : List (List (List ℕ))) → same_path p q ≡ false → listed (others p ps) q ≡ listed ps q
unfolding others listed
listed-others p q [] n = refl
listed-others p q (r ∷ ps) n = (elim (same_path p r) as (λ b. same_path p r ≡ b → listed (cond (not b) (r ∷ others p ps) (others p ps)) q ≡ (same_path r q || listed ps q)) [
  | true ↦ λ e. let i : p ≡ r = same_is p r e in let m : same_path r q ≡ false = subst (λ x. same_path x q ≡ false) i n in rw m (listed-others p q ps n)
  | false ↦ λ e. ap (λ b. same_path r q || b) (listed-others p q ps n)
]) refl

kept_at_same : (p q : List (List ℕ)) (xs : List (List (List ℕ))) → same_path p q ≡ true → others p (with_one xs q) ≡ others p xs
unfolding with_one
kept_at_same p q xs e = (elim (listed xs q) as (λ b. others p (cond b xs (xs ++ (q ∷ []))) ≡ others p xs) [ true ↦ refl | false ↦ others-append p q xs ∙ (rw e (append-nil (others p xs))) ])

moved_at_other : (p q : List (List ℕ)) (xs : List (List (List ℕ))) → same_path p q ≡ false → others p (with_one xs q) ≡ with_one (others p xs) q
unfolding with_one
moved_at_other p q xs e =
    rw (listed-others p q xs e)
    (elim (listed xs q) as (λ b. others p (cond b xs (xs ++ (q ∷ []))) ≡ cond b (others p xs) (others p xs ++ (q ∷ []))) [ true ↦ refl | false ↦ others-append p q xs ∙ (rw e refl) ])

with_one_behind : (p q : List (List ℕ)) (ys : List (List (List ℕ))) → same_path p q ≡ false → (p ∷ with_one ys q) ≡ with_one (p ∷ ys) q
unfolding with_one listed
with_one_behind p q ys e =
    rw e (elim (list_any (λ path. same_path path q) ys) as (λ b. (p ∷ cond b ys (ys ++ (q ∷ []))) ≡ cond b (p ∷ ys) (p ∷ (ys ++ (q ∷ [])))) [ true ↦ refl | false ↦ refl ])

with_one_first : (p q : List (List ℕ)) (ys : List (List (List ℕ))) → same_path p q ≡ true → with_one (p ∷ ys) q ≡ p ∷ ys
unfolding with_one listed
with_one_first p q ys e = rw e refl

push_cases : (p q : List (List ℕ)) (xs : List (List (List ℕ))) → (p ∷ others p (with_one xs q)) ≡ with_one (p ∷ others p xs) q
push_cases p q xs = (elim (same_path p q) as (λ b. same_path p q ≡ b → (p ∷ others p (with_one xs q)) ≡ with_one (p ∷ others p xs) q) [
  | true ↦ λ e. ap (λ ys. p ∷ ys) (kept_at_same p q xs e) ∙ sym (with_one_first p q (others p xs) e)
  | false ↦ λ e. ap (λ ys. p ∷ ys) (moved_at_other p q xs e) ∙ with_one_behind p q (others p xs) e
]) refl

once-cons : (p : List (List ℕ)) (ps : List (List (List ℕ))) → once (p ∷ ps) ≡ p ∷ others p (once ps)
unfolding once others
once-cons p ps = refl

once_one : (q : List (List ℕ)) → once (q ∷ []) ≡ with_one (once []) q
unfolding once with_one listed
once_one q = refl

once-push : (ps : List (List (List ℕ))) (q : List (List ℕ)) → once (ps ++ (q ∷ [])) ≡ with_one (once ps) q
once-push [] q = once_one q
once-push (p ∷ ps) q = once-cons p (ps ++ (q ∷ [])) ∙ (ap (λ xs. p ∷ others p xs) (once-push ps q) ∙ (push_cases p q (once ps) ∙ ap (λ xs. with_one xs q) (sym (once-cons p ps))))

with_one_is : (paths : List (List (List ℕ))) (names : List (List ℕ)) → with_one paths names ≡ with_path paths (Path names)
unfolding with_one listed
with_one_is paths names = refl

pub once_more : (ts : List Token) (t : Token) → once (paths_in (ts ++ (t ∷ []))) ≡ with_path (once (paths_in ts)) t
once_more ts (Path names) = ap once (paths_in-append ts (Path names ∷ [])) ∙ (once-push (paths_in ts) names ∙ with_one_is (once (paths_in ts)) names)
once_more ts (Constant v) = ap once (paths_in-append ts (Constant v ∷ []) ∙ append-nil (paths_in ts))
once_more ts Opening = ap once (paths_in-append ts (Opening ∷ []) ∙ append-nil (paths_in ts))
once_more ts Closing = ap once (paths_in-append ts (Closing ∷ []) ∙ append-nil (paths_in ts))
once_more ts Exclamation = ap once (paths_in-append ts (Exclamation ∷ []) ∙ append-nil (paths_in ts))
once_more ts (Binary sign) = ap once (paths_in-append ts (Binary sign ∷ []) ∙ append-nil (paths_in ts))

pub once_none : once [] ≡ []
unfolding once
once_none = refl

-- one token more in the loop
pub listed_more : (ts : List Token) (i : ℕ) (t : Token) (ps qs : List (List (List ℕ))) → i < length ts → t ≡ get_or ts i t → ps ≡ once (paths_in (take i ts)) → qs ≡ with_path ps t
    → qs ≡ once (paths_in (take (i + 1) ts))
listed_more ts i t ps qs below is e f =
    let cut : take (i + 1) ts ≡ take i ts ++ (get_or ts i t ∷ []) = take_more ts i t below in
    rw (cut, ← is) (f ∙ (ap (λ xs. with_path xs t) e ∙ sym (once_more (take i ts) t)))

with_one_grows : (xs : List (List (List ℕ))) (q : List (List ℕ)) → length xs ≤ length (with_one xs q)
unfolding with_one
with_one_grows xs q = (elim (listed xs q) as (λ b. length xs ≤ length (cond b xs (xs ++ (q ∷ [])))) [ true ↦ omega arith | false ↦ omega (arith, length-append xs (q ∷ [])) ])

once_grows : (xs ys : List (List (List ℕ))) → length (once xs) ≤ length (once (xs ++ ys))
once_grows xs [] = rw (append-nil xs) (omega arith)
once_grows xs (y ∷ ys) =
    let next : length (once (xs ++ (y ∷ []))) ≤ length (once ((xs ++ (y ∷ [])) ++ ys)) = once_grows (xs ++ (y ∷ [])) ys in
    let here : length (once xs) ≤ length (once (xs ++ (y ∷ []))) = rw (once-push xs y) (with_one_grows (once xs) y) in
    let same : (xs ++ (y ∷ [])) ++ ys ≡ xs ++ (y ∷ ys) = simp append_assoc in
    let moved : length (once (xs ++ (y ∷ []))) ≤ length (once (xs ++ (y ∷ ys))) = subst (λ zs. length (once (xs ++ (y ∷ []))) ≤ length (once zs)) same next in
    omega arith

-- the paths of a front are no more than all
pub listed_few : (ts : List Token) (n : ℕ) (ps : List (List (List ℕ))) → ps ≡ once (paths_in (take n ts)) → 256 < length ps → 256 < length (once (paths_in ts))
listed_few ts n ps e long =
    let parts : paths_in (take n ts) ++ paths_in (drop n ts) ≡ paths_in ts = sym (paths_in-append (take n ts) (drop n ts)) ∙ ap paths_in (take-append-drop n ts) in
    let grows : length (once (paths_in (take n ts))) ≤ length (once (paths_in ts)) = subst (λ zs. length (once (paths_in (take n ts))) ≤ length (once zs)) parts (once_grows (paths_in (take n ts)) (paths_in (drop n ts))) in
    let same : length ps ≡ length (once (paths_in (take n ts))) = ap length e in
    omega arith

-- each path of a list is among the different ones
abbrev pub AllListed : List (List (List ℕ)) → List (List (List ℕ)) → Type 0
AllListed paths [] = Unit {0}
AllListed paths (q ∷ qs) = (list_any (λ path. same_path path q) paths ≡ true) × AllListed paths qs

pub all_left : (paths a b : List (List (List ℕ))) → AllListed paths (a ++ b) → AllListed paths a
all_left paths [] b h = tt
all_left paths (q ∷ a) b h = (h.0, all_left paths a b h.1)

pub all_right : (paths a b : List (List (List ℕ))) → AllListed paths (a ++ b) → AllListed paths b
all_right paths [] b h = h
all_right paths (q ∷ a) b h = all_right paths a b h.1

all_from : (xs ys qs : List (List (List ℕ))) → ((q : List (List ℕ)) → listed xs q ≡ true → listed ys q ≡ true) → AllListed xs qs → AllListed ys qs
unfolding listed
all_from xs ys [] f h = tt
all_from xs ys (q ∷ qs) f h = (f q h.0, all_from xs ys qs f h.1)

listed_first : (p q : List (List ℕ)) (xs : List (List (List ℕ))) → same_path p q ≡ true → listed (p ∷ xs) q ≡ true
unfolding listed
listed_first p q xs e = rw e refl

listed_behind : (p q : List (List ℕ)) (xs : List (List (List ℕ))) → same_path p q ≡ false → listed xs q ≡ true → listed (p ∷ xs) q ≡ true
unfolding listed
listed_behind p q xs e h = rw e h

listed_here : (p : List (List ℕ)) (xs : List (List (List ℕ))) → list_any (λ path. same_path path p) (p ∷ xs) ≡ true
listed_here p xs = rw (same_self p) refl

still_listed : (p q : List (List ℕ)) (xs : List (List (List ℕ))) → listed xs q ≡ true → listed (p ∷ others p xs) q ≡ true
still_listed p q xs h = (elim (same_path p q) as (λ b. same_path p q ≡ b → listed (p ∷ others p xs) q ≡ true) [
  | true ↦ λ e. listed_first p q (others p xs) e
  | false ↦ λ e. listed_behind p q (others p xs) e (listed-others p q xs e ∙ h)
]) refl

pub once_lists : (ps : List (List (List ℕ))) → AllListed (once ps) ps
once_lists [] = tt
once_lists (p ∷ ps) =
    subst (λ xs. AllListed xs (p ∷ ps)) (sym (once-cons p ps))
    (listed_here p (others p (once ps)), all_from (once ps) (p ∷ others p (once ps)) ps (λ q h. still_listed p q (once ps) h) (once_lists ps))

found_within : (test : List (List ℕ) → Bool) (xs : List (List (List ℕ))) → list_any test xs ≡ true → prefix_len (λ x. not (test x)) xs < length xs
found_within test [] h = absurd (cc)
found_within test (x ∷ xs) h = (elim (test x) as (λ b. (b || list_any test xs) ≡ true → cond (not b) (1 + prefix_len (λ y. not (test y)) xs) 0 < suc (length xs))
    [ true ↦ λ e. omega arith | false ↦ λ e. let l = found_within test xs e in omega (arith, l) ]) h

-- a listed path has its place within the list
pub place_within : (paths : List (List (List ℕ))) (names : List (List ℕ)) → list_any (λ path. same_path path names) paths ≡ true → place_in paths names < length paths
unfolding place_in
place_within paths names h =
    let below : prefix_len (λ x. not (same_path x names)) paths < length paths = found_within (λ path. same_path path names) paths h in
    let e : ltb (prefix_len (λ x. not (same_path x names)) paths) (length paths) ≡ true = (Decides-ltb (prefix_len (λ x. not (same_path x names)) paths) (length paths)).1 below in
    rw e below
