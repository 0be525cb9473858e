-- What a search for a byte says of the lengths of runs and quoted texts, and what runs leave as it is.
-- Below the answers on finding.
use Rattle.std.proofs.Common.{◌≡◌, ℕ, zero, suc, ◌+◌, ◌<◌, ◌≤◌, Bool, true, false, ◌&&◌, not, List, [], ◌∷◌, length, length-take, take, drop, Some, None, slice_index, refl, sym, ◌∙◌, ap, subst, arith}
use Rattle.std.specs.List.{position_or_len}
use Rattle.std.proofs.lemmas.List.Sums.{position_or_len_is, prefix_len-le-length}
use lib.Dec.{eqb}
use Rattle.memchr.specs.Find.{IsFirstByte, is_byte}
use Rattle.fx_text.specs.Classes.{is_quote}
use Rattle.fx_css_marks.specs.Bytes.{begins_with}
use Rattle.fx_css_marks.specs.Lengths.{is_stop, quoted_length, comment_length, is_bare}
use Rattle.fx_css_marks.proofs.Comments.{or_left, or_right}

not_true : (b : Bool) → (b ≡ true → ⊥) → b ≡ false
not_true true h = absurd (h refl)
not_true false h = refl

pub run_none : (p : ℕ → Bool) (x : ℕ) (xs : List ℕ) → p x ≡ true → position_or_len p (x ∷ xs) ≡ 0
run_none p x xs e = rw e refl

pub run_more : (p : ℕ → Bool) (x : ℕ) (xs : List ℕ) → p x ≡ false → position_or_len p (x ∷ xs) ≡ suc (position_or_len p xs)
run_more p x xs e = rw e (omega arith)

pub run_found : (p : ℕ → Bool) (xs : List ℕ) (n : ℕ) → IsFirstByte p xs (Some n) → n ≡ position_or_len p xs
run_found p xs n h =
    let high : n < length xs = h.0.high in
    sym (position_or_len_is p xs n 0 (omega arith) (λ k l. not_true (p (slice_index xs k)) (h.0.before k (omega arith) l)) (λ within. h.1))

pub run_missed : (p : ℕ → Bool) (xs : List ℕ) → IsFirstByte p xs None → length xs ≡ position_or_len p xs
run_missed p xs h =
    sym (position_or_len_is p xs (length xs) 0 (omega arith) (λ k l. not_true (p (slice_index xs k)) (h k (omega arith) l)) (λ within. absurd (omega (arith, within))))

pub run_front : (p : ℕ → Bool) (k : ℕ) (xs : List ℕ) → position_or_len p (take k xs) ≤ position_or_len p xs
run_front p zero xs = omega arith
run_front p (suc k) [] = omega arith
run_front p (suc k) (x ∷ xs) = by (p x) refl (run_front p k xs)
  where
    by : (b : Bool) → p x ≡ b → position_or_len p (take k xs) ≤ position_or_len p xs → position_or_len p (x ∷ take k xs) ≤ position_or_len p (x ∷ xs)
    by true e h = rw e (omega arith)
    by false e h = rw e (omega arith)

pub run_most : (p : ℕ → Bool) (k : ℕ) (xs : List ℕ) → position_or_len p (take k xs) ≤ k
run_most p k xs =
    let long = length-take k xs in
    let within = prefix_len-le-length (λ b. not (p b)) (take k xs) in
    grind (arith, long, within)

quoted_is : (q : ℕ) (xs : List ℕ) (n : ℕ) → n < length xs → ((k : ℕ) → k < n → eqb (slice_index xs k) q ≡ false) → eqb (slice_index xs n) q ≡ true → quoted_length q xs ≡ suc n
quoted_is q [] n l before at = absurd (omega arith)
quoted_is q (x ∷ xs) zero l before at = rw at refl
quoted_is q (x ∷ xs) (suc n) l before at =
    let first : eqb x q ≡ false = before 0 (omega arith) in
    rw first (ap suc (quoted_is q xs n (omega arith) (λ k h. before (suc k) (omega arith)) at))

quoted_all : (q : ℕ) (xs : List ℕ) → ((k : ℕ) → k < length xs → eqb (slice_index xs k) q ≡ false) → quoted_length q xs ≡ length xs
quoted_all q [] none = refl
quoted_all q (x ∷ xs) none =
    let first : eqb x q ≡ false = none 0 (omega arith) in
    rw first (ap suc (quoted_all q xs (λ k h. none (suc k) (omega arith))))

pub quoted_found : (q : ℕ) (xs : List ℕ) (n : ℕ) → IsFirstByte (is_byte q) xs (Some n) → n + 1 ≡ quoted_length q xs
quoted_found q xs n h =
    let e : quoted_length q xs ≡ suc n = quoted_is q xs n h.0.high (λ k l. not_true (eqb (slice_index xs k) q) (h.0.before k (omega arith) l)) h.1 in
    omega arith

pub quoted_missed : (q : ℕ) (xs : List ℕ) → IsFirstByte (is_byte q) xs None → length xs ≡ quoted_length q xs
quoted_missed q xs h = sym (quoted_all q xs (λ k l. not_true (eqb (slice_index xs k) q) (h k (omega arith) l)))

-- a run without `*` is passed

comment_by : (x : ℕ) (xs : List ℕ) (b : Bool) → eqb x 42 ≡ b → length xs + comment_length (drop (position_or_len (is_byte 42) xs) xs) ≡ comment_length xs + length (drop (position_or_len (is_byte 42) xs) xs)
    → length (x ∷ xs) + comment_length (drop (position_or_len (is_byte 42) (x ∷ xs)) (x ∷ xs)) ≡ comment_length (x ∷ xs) + length (drop (position_or_len (is_byte 42) (x ∷ xs)) (x ∷ xs))
comment_by x xs true e h =
    let none : position_or_len (is_byte 42) (x ∷ xs) ≡ 0 = run_none (is_byte 42) x xs e in
    subst (λ r. length (x ∷ xs) + comment_length (drop r (x ∷ xs)) ≡ comment_length (x ∷ xs) + length (drop r (x ∷ xs))) (sym none) (omega arith)
comment_by x xs false e h =
    let more : position_or_len (is_byte 42) (x ∷ xs) ≡ suc (position_or_len (is_byte 42) xs) = run_more (is_byte 42) x xs e in
    subst (λ r. length (x ∷ xs) + comment_length (drop r (x ∷ xs)) ≡ comment_length (x ∷ xs) + length (drop r (x ∷ xs))) (sym more) (rw e (omega arith))

pub comment_from : (xs : List ℕ) → length xs + comment_length (drop (position_or_len (is_byte 42) xs) xs) ≡ comment_length xs + length (drop (position_or_len (is_byte 42) xs) xs)
comment_from [] = refl
comment_from (x ∷ xs) = comment_by x xs (eqb x 42) refl (comment_from xs)

within_by : (x : ℕ) (xs : List ℕ) (b : Bool) → (eqb x 42 && begins_with 47 xs) ≡ b → (b ≡ true → 1 ≤ length xs) → comment_length xs ≤ length xs → comment_length (x ∷ xs) ≤ length (x ∷ xs)
within_by x xs true e some h = let l : 1 ≤ length xs = some refl in rw e (omega arith)
within_by x xs false e some h = rw e (omega arith)

-- a run without quotes and `/` is bare

bare_by : (x : ℕ) (xs : List ℕ) (b : Bool) → is_stop x ≡ b → is_bare (drop (position_or_len is_stop xs) xs) ≡ is_bare xs → is_bare (drop (position_or_len is_stop (x ∷ xs)) (x ∷ xs)) ≡ is_bare (x ∷ xs)
bare_by x xs true e h = ap (λ r. is_bare (drop r (x ∷ xs))) (run_none is_stop x xs e)
bare_by x xs false e h =
    let q : is_quote x ≡ false = or_left (is_quote x) (eqb x 47) e in
    let s : eqb x 47 ≡ false = or_right (is_quote x) (eqb x 47) e in
    let more : position_or_len is_stop (x ∷ xs) ≡ suc (position_or_len is_stop xs) = run_more is_stop x xs e in
    ap (λ r. is_bare (drop r (x ∷ xs))) more ∙ h ∙ sym (rw (q, s) refl)

pub bare_from : (xs : List ℕ) → is_bare (drop (position_or_len is_stop xs) xs) ≡ is_bare xs
bare_from [] = refl
bare_from (x ∷ xs) = bare_by x xs (is_stop x) refl (bare_from xs)

-- one byte of a comment, or a bare text, is passed

pub comment_step : (text rest behind from : List ℕ) (c : ℕ) → rest ≡ c ∷ behind → (eqb c 42 && begins_with 47 behind) ≡ false → from ≡ drop (position_or_len (is_byte 42) behind) behind
    → length text + comment_length rest ≡ comment_length text + length rest → length text + comment_length from ≡ comment_length text + length from
comment_step text rest behind from c e n f h =
    let one : comment_length rest ≡ suc (comment_length behind) = ap comment_length e ∙ rw n refl in
    let more : length rest ≡ suc (length behind) = ap length e in
    let passed : length behind + comment_length from ≡ comment_length behind + length from = subst (λ y. length behind + comment_length y ≡ comment_length behind + length y) (sym f) (comment_from behind) in
    omega arith

pub bare_step : (rest behind from : List ℕ) (c : ℕ) → rest ≡ c ∷ behind → is_quote c ≡ false → (eqb c 47 && begins_with 42 behind) ≡ false → from ≡ drop (position_or_len is_stop behind) behind → is_bare from ≡ is_bare rest
bare_step rest behind from c e q n f = ap is_bare f ∙ (bare_from behind ∙ sym (ap is_bare e ∙ rw (q, n) refl))
