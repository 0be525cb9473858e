-- Places that are marked, and how many there are.
use Rattle.std.proofs.Common.{refl, sym, ap, ◌∙◌, ◌≡◌, ℕ, zero, suc, ◌+◌, ◌<◌, ◌==◌, ◌++◌, ◌∷◌, [], ◌||◌, ◌&&◌, Bool, true, false, cond, List, filter, length, arith, zero-add}
use Rattle.std.specs.List.{range_with_len}
use Rattle.std.proofs.lemmas.Bool.{eq-eqb, eqb-true}
use Rattle.std.proofs.lemmas.List.{length-append, map-id}
use Rattle.std.proofs.lemmas.List.FromFn.{filter_of_map_range_with_len_more}
use Rattle.fx_layout_sweeps.specs.Marks.{flag_in}
use Rattle.fx_layout_sweeps.specs.Sweeps.{tally}
use Rattle.fx_layout_sweeps.proofs.Tallies.{tally_more}
use Rattle.fx_style.specs.Kept.{is_among}
use Rattle.fx_pulse_touched.specs.Marks.{places_of}
use Rattle.fx_pulse_touched.proofs.UpLemmas.{any_here}

pub range_kept : (test : ℕ → Bool) (n : ℕ)
    → filter test (range_with_len 0 (n + 1)) ≡ filter test (range_with_len 0 n) ++ cond (test n) (n ∷ []) []
range_kept test n =
    ap (filter test) (sym (map-id (range_with_len 0 (n + 1))))
    ∙ (filter_of_map_range_with_len_more test (λ k. k) 0 n n (zero-add n)
    ∙ ap (λ l. filter test l ++ cond (test n) (n ∷ []) []) (map-id (range_with_len 0 n)))

one_long : (b : Bool) (n : ℕ) → length (cond b (n ∷ []) []) ≡ cond b 1 0
one_long true n = refl
one_long false n = refl

-- as many places as nodes that are marked
pub kept_many : (test : ℕ → Bool) (n : ℕ) → length (filter test (range_with_len 0 n)) ≡ tally test n
kept_many test zero = refl
kept_many test (suc n) =
    let one : suc n ≡ n + 1 = omega arith in
    ap (λ m. length (filter test (range_with_len 0 m))) one
    ∙ (ap length (range_kept test n)
    ∙ (length-append (filter test (range_with_len 0 n)) (cond (test n) (n ∷ []) [])
    ∙ (ap (λ m. m + length (cond (test n) (n ∷ []) [])) (kept_many test n)
    ∙ (ap (λ m. tally test n + m) (one_long (test n) n) ∙ (sym (tally_more test n) ∙ ap (tally test) (sym one))))))

pub places_many : (marks : List Bool) (n : ℕ) → length marks ≡ n → length (places_of marks) ≡ tally (flag_in marks) n
places_many marks n long = kept_many (flag_in marks) (length marks) ∙ ap (tally (flag_in marks)) long

among_kept : (test : ℕ → Bool) (xs : List ℕ) (p : ℕ) → is_among (filter test xs) p ≡ (test p && is_among xs p)
among_kept test [] p = none (test p)
  where
    none : (b : Bool) → false ≡ (b && false)
    none true = refl
    none false = refl
among_kept test (x ∷ xs) p = by (test x) refl (x == p) refl (among_kept test xs p)
  where
    hit : (x == p) ≡ true → test p ≡ test x
    hit e = ap test (sym (eqb-true x p e))

    by : (b : Bool) → test x ≡ b → (c : Bool) → (x == p) ≡ c
        → is_among (filter test xs) p ≡ (test p && is_among xs p)
        → is_among (filter test (x ∷ xs)) p ≡ (test p && is_among (x ∷ xs) p)
    by true is true same rest =
        ap (λ t. is_among (cond t (x ∷ filter test xs) (filter test xs)) p) is
        ∙ (ap (λ t. t || is_among (filter test xs) p) same
        ∙ sym (ap (λ t. test p && (t || is_among xs p)) same ∙ ap (λ t. t && true) (hit same ∙ is)))
    by true is false same rest =
        ap (λ t. is_among (cond t (x ∷ filter test xs) (filter test xs)) p) is
        ∙ (ap (λ t. t || is_among (filter test xs) p) same
        ∙ (rest ∙ sym (ap (λ t. test p && (t || is_among xs p)) same)))
    by false is true same rest =
        ap (λ t. is_among (cond t (x ∷ filter test xs) (filter test xs)) p) is
        ∙ (rest ∙ (ap (λ t. t && is_among xs p) (hit same ∙ is)
        ∙ sym (ap (λ t. t && is_among (x ∷ xs) p) (hit same ∙ is))))
    by false is false same rest =
        ap (λ t. is_among (cond t (x ∷ filter test xs) (filter test xs)) p) is
        ∙ (rest ∙ sym (ap (λ t. test p && (t || is_among xs p)) same))

-- a place is listed where it is marked
pub among_places : (marks : List Bool) (p : ℕ) → p < length marks → is_among (places_of marks) p ≡ flag_in marks p
among_places marks p within =
    among_kept (flag_in marks) (range_with_len 0 (length marks)) p
    ∙ (ap (λ b. flag_in marks p && b) (any_here (λ x. x == p) (length marks) p within (own p))
    ∙ and_true (flag_in marks p))
  where
    own : (q : ℕ) → (q == q) ≡ true
    own q = eq-eqb q q refl

    and_true : (b : Bool) → (b && true) ≡ b
    and_true true = refl
    and_true false = refl
