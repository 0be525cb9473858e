-- What is listed under a key, part by part.
use Rattle.std.proofs.Common.{◌≡◌, ℕ, zero, suc, ◌+◌, ◌<◌, Bool, true, false, cond, List, [], ◌∷◌, ◌++◌, length, get_or, take, map, filter, refl, sym, ◌∙◌, ap, append_assoc, arith}
use Rattle.std.specs.List.{flat_map, enumerate_from}
use Rattle.std.proofs.lemmas.List.{append-nil, map-append}
use Rattle.std.proofs.lemmas.List.Elements.{filter-append}
use Rattle.fx_select.specs.declared.lists.SelectorAt.{SelectorAt}
use Rattle.fx_select.specs.Keys.{Key, is_same_key}
use Rattle.fx_select.specs.Listing.{each, under_key}

pub each-none : {X A : Type 0} (give : ℕ → X → List A) → each give [] ≡ []
unfolding each
each-none give = refl

numbered-more : {X A : Type 0} (give : ℕ → X → List A) (n : ℕ) (xs : List X) (i : ℕ) (x : X) → i < length xs → x ≡ get_or xs i x
    → flat_map (λ (e : ℕ × X). give e.0 e.1) (enumerate_from n (take (suc i) xs))
    ≡ flat_map (λ (e : ℕ × X). give e.0 e.1) (enumerate_from n (take i xs)) ++ give (n + i) x
numbered-more give n [] i x within read = absurd (omega (arith, within))
numbered-more {X} {A} give n (y ∷ ys) zero x within read =
    let first : n ≡ n + 0 = omega arith in
    append-nil (give n y) ∙ ap (λ (m : ℕ). give m y) first ∙ ap (give (n + 0)) (sym read)
numbered-more {X} {A} give n (y ∷ ys) (suc i) x within read =
    let all : List X → List A = λ zs. flat_map (λ (e : ℕ × X). give e.0 e.1) (enumerate_from (n + 1) zs) in
    let count : (n + 1) + i ≡ n + suc i = omega arith in
    let more : all (take (suc i) ys) ≡ all (take i ys) ++ give ((n + 1) + i) x = numbered-more give (n + 1) ys i x (omega (arith, within)) read in
    ap (λ (rest : List A). give n y ++ rest) (more ∙ ap (λ (m : ℕ). all (take i ys) ++ give m x) count)
    ∙ sym (append_assoc (give n y) (all (take i ys)) (give (n + suc i) x))

pub each-more : {X A : Type 0} (give : ℕ → X → List A) (xs : List X) (i : ℕ) (x : X) → i < length xs → x ≡ get_or xs i x
    → each give (take (i + 1) xs) ≡ each give (take i xs) ++ give i x
unfolding each
each-more {X} {A} give xs i x within read =
    let all : List X → List A = λ zs. flat_map (λ (e : ℕ × X). give e.0 e.1) (enumerate_from 0 zs) in
    let next : i + 1 ≡ suc i = omega arith in
    let count : 0 + i ≡ i = omega arith in
    ap (λ (k : ℕ). all (take k xs)) next
    ∙ numbered-more give 0 xs i x within read
    ∙ ap (λ (m : ℕ). all (take i xs) ++ give m x) count

pub under_key-append : (key : Key) (some more : List (Key × SelectorAt)) → under_key key (some ++ more) ≡ under_key key some ++ under_key key more
unfolding under_key
under_key-append key some more =
    let second : Key × SelectorAt → SelectorAt = λ e. e.1 in
    let test : Key × SelectorAt → Bool = λ e. is_same_key key e.0 in
    ap (map second) (filter-append test some more) ∙ map-append second (filter test some) (filter test more)

pub under_key-none : (key : Key) → under_key key [] ≡ []
unfolding under_key
under_key-none key = refl

-- one more selector of a key
pub under_key-one : (key other : Key) (at : SelectorAt) (l : List SelectorAt)
    → cond (is_same_key key other) (l ++ at ∷ []) l ≡ l ++ under_key key ((other, at) ∷ [])
unfolding under_key
under_key-one key other at l = elim (is_same_key key other)
    as (λ (b : Bool). cond b (l ++ at ∷ []) l ≡ l ++ map (λ (e : Key × SelectorAt). e.1) (cond b ((other, at) ∷ []) [])) [
      | true ↦ refl
      | false ↦ sym (append-nil l)
    ]

-- what was listed so far, and one part more
pub listed-more : (key : Key) (start old new : List SelectorAt) (done part all : List (Key × SelectorAt))
    → new ≡ old ++ under_key key part → old ≡ start ++ under_key key done → all ≡ done ++ part
    → new ≡ start ++ under_key key all
listed-more key start old new done part all added before joined =
    added
    ∙ ap (λ (l : List SelectorAt). l ++ under_key key part) before
    ∙ append_assoc start (under_key key done) (under_key key part)
    ∙ ap (λ (l : List SelectorAt). start ++ l) (sym (under_key-append key done part))
    ∙ ap (λ (es : List (Key × SelectorAt)). start ++ under_key key es) (sym joined)

-- the same where nothing was there at first
pub listed-more_of : (key : Key) (old new : List SelectorAt) (done part all : List (Key × SelectorAt))
    → new ≡ old ++ under_key key part → old ≡ under_key key done → all ≡ done ++ part → new ≡ under_key key all
listed-more_of key old new done part all added before joined = listed-more key [] old new done part all added before joined

-- at first nothing is listed behind what was there
pub listed-none : (key : Key) (start : List SelectorAt) (none : List (Key × SelectorAt)) → none ≡ [] → start ≡ start ++ under_key key none
listed-none key start none is =
    sym (append-nil start)
    ∙ ap (λ (l : List SelectorAt). start ++ l) (sym (under_key-none key))
    ∙ ap (λ (es : List (Key × SelectorAt)). start ++ under_key key es) (sym is)
