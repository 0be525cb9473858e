-- The reading of decimals meets their grammar: it finds a decimal, and it finds each decimal.
use Rattle.std.proofs.Common.{◌≡◌, ℕ, ◌≤◌, inl, inr, Bool, true, false, not, ◌||◌, ◌==◌, nat_le, List, [], ◌∷◌, ◌++◌, length, take, drop, codes, Some, refl, sym, ap, ◌∙◌, subst, arith, append_assoc}
use Rattle.std.specs.List.{list_all, prefix_len}
use Rattle.std.specs.Char.{is_ascii_digit}
use Rattle.std.proofs.lemmas.Bool.{and_parts, not-true}
use Rattle.std.proofs.lemmas.Bool.Decides.{eqb_tells, nat_tests}
use Rattle.std.proofs.lemmas.List.Folds.{list_all-append}
use Rattle.fx_text.specs.Digits.{IsDigits}
use Rattle.fx_text.specs.Fronts.{front, behind, stops}
use Rattle.fx_text.proofs.FrontLemmas.{else_gives, map_gives, bind_gives, prefix_len-stop, front-stop, behind-stop, front-passes, front_and_behind, front_some}
use Rattle.fx_look.specs.Decimals.{Decimal, IsSign, IsFraction, IsDecimal, is_minus, behind_sign, digits_at, fraction_at, with_fraction, decimal_at}

-- the pieces that the reading finds are pieces of the grammar

pub record ReadsSign (text : List ℕ) : Type 0 where
  pub sign : List ℕ
  pub is_sign : IsSign sign (is_minus text)
  pub parts : text ≡ sign ++ behind_sign text

pub sign_sound : (text : List ℕ) → ReadsSign text
sign_sound [] = record { sign = []; is_sign = inl (refl, inl refl); parts = refl }
sign_sound (c ∷ cs) = elim (eqb_tells c 45) [
  | inl t ↦ record { sign = codes "-"; is_sign = inr (t.0, refl); parts = rw t.0 (ap (λ v. v ∷ cs) t.1) }
  | inr t ↦ elim (eqb_tells c 43) [
    | inl u ↦ record { sign = codes "+"; is_sign = inl (t.0, inr refl); parts = rw (t.0, u.0) (ap (λ v. v ∷ cs) u.1) }
    | inr u ↦ record { sign = []; is_sign = inl (t.0, inl refl); parts = rw (t.0, u.0) refl }
  ]
]

pub digits_sound : (text : List ℕ) (p : List ℕ × List ℕ) → digits_at text ≡ Some p → IsDigits p.0 × (text ≡ p.0 ++ p.1)
digits_sound text p e =
    let q = else_gives (prefix_len is_ascii_digit text == 0) (Some (front is_ascii_digit text, behind is_ascii_digit text)) p e in
    let same : (front is_ascii_digit text, behind is_ascii_digit text) ≡ p = cc in
    let some : prefix_len is_ascii_digit text ≡ 0 → ⊥ = grind (arith, nat_tests) in
    subst (λ (r : List ℕ × List ℕ). IsDigits r.0 × (text ≡ r.0 ++ r.1)) same
    (record { digits = front-passes is_ascii_digit text; some = front_some is_ascii_digit text some }, front_and_behind is_ascii_digit text)

pub record ReadsFraction (text : List ℕ) (p : List ℕ × List ℕ) : Type 0 where
  pub fraction : List ℕ
  pub is_fraction : IsFraction fraction p.0
  pub parts : text ≡ fraction ++ p.1

pub fraction_sound : (text : List ℕ) (p : List ℕ × List ℕ) → fraction_at text ≡ Some p → ReadsFraction text p
fraction_sound [] p e =
    let same : ([], []) ≡ p = cc in
    subst (λ (r : List ℕ × List ℕ). ReadsFraction [] r) same (record { fraction = []; is_fraction = inl (refl, refl); parts = refl })
fraction_sound (c ∷ cs) p e = elim (eqb_tells c 46) [
  | inl t ↦ let d = digits_sound cs p (rw t.0 at e) in
      record { fraction = 46 ∷ p.0; is_fraction = inr (refl, d.0); parts = ap (λ v. v ∷ cs) t.1 ∙ ap (λ v. 46 ∷ v) d.1 }
  | inr t ↦ let f = rw t.0 at e in
      let same : ([], c ∷ cs) ≡ p = cc in
      subst (λ (r : List ℕ × List ℕ). ReadsFraction (c ∷ cs) r) same (record { fraction = []; is_fraction = inl (refl, refl); parts = refl })
]

pub record ReadsDecimal (text : List ℕ) (p : Decimal × List ℕ) : Type 0 where
  pub digits : List ℕ
  pub is_decimal : IsDecimal digits p.0
  pub parts : text ≡ digits ++ p.1

pub decimal_sound : (text : List ℕ) (p : Decimal × List ℕ) → decimal_at text ≡ Some p → ReadsDecimal text p
decimal_sound text p e =
    let s = sign_sound text in
    let w = bind_gives (with_fraction (is_minus text)) (digits_at (behind_sign text)) p e in
    let whole = w.0 in
    let d = digits_sound (behind_sign text) w.0 w.1 in
    let f = map_gives (λ (q : List ℕ × List ℕ). (record { negative = is_minus text; whole = whole.0; fraction = q.0 }, q.1)) (fraction_at whole.1) p w.2 in
    let g = fraction_sound whole.1 f.0 f.1 in
    subst (λ (r : Decimal × List ℕ). ReadsDecimal text r) f.2 (record {
      digits = s.sign ++ (whole.0 ++ g.fraction);
      is_decimal = record { sign = s.sign; fraction = g.fraction; parts = refl; is_sign = s.is_sign; is_whole = d.0; is_fraction = g.is_fraction };
      parts = s.parts ∙ ap (λ v. s.sign ++ v) (d.1 ∙ ap (λ v. whole.0 ++ v) g.parts ∙ sym (append_assoc whole.0 g.fraction f.0.1)) ∙ sym (append_assoc s.sign (whole.0 ++ g.fraction) f.0.1);
    })

-- each piece of the grammar is found

-- neither a digit nor a point begins the text
abbrev pub goes_on : ℕ → Bool
goes_on c = is_ascii_digit c || (c == 46)

unfoldable pub begins : List ℕ → Bool
begins [] = false
begins (c ∷ cs) = is_ascii_digit c

no_mark : (c : ℕ) (d : ℕ) → d ≤ 47 → is_ascii_digit c ≡ true → (c == d) ≡ false
no_mark c d small e =
    let q = and_parts (nat_le 48 c) (nat_le c 57) e in
    grind (arith, nat_tests, q.0)

pub sign_complete : (sign text : List ℕ) (negative : Bool) → IsSign sign negative → begins text ≡ true → (is_minus (sign ++ text) ≡ negative) × (behind_sign (sign ++ text) ≡ text)
unfolding begins
sign_complete sign [] negative s b = absurd (cc)
sign_complete sign (c ∷ cs) negative (inl (n, inl e)) b =
    let minus : (c == 45) ≡ false = no_mark c 45 (omega arith) b in
    let plus : (c == 43) ≡ false = no_mark c 43 (omega arith) b in
    rw (e, n, minus, plus) (refl, refl)
sign_complete sign (c ∷ cs) negative (inl (n, inr e)) b = rw (e, n) (refl, refl)
sign_complete sign (c ∷ cs) negative (inr (n, e)) b = rw (e, n) (refl, refl)

digits_complete : (digits rest : List ℕ) → IsDigits digits → stops is_ascii_digit rest ≡ true → digits_at (digits ++ rest) ≡ Some (digits, rest)
digits_complete [] rest d s = absurd (d.some refl)
digits_complete (c ∷ cs) rest d s =
    let long : prefix_len is_ascii_digit ((c ∷ cs) ++ rest) ≡ length (c ∷ cs) = prefix_len-stop is_ascii_digit (c ∷ cs) rest d.digits s in
    let some : (prefix_len is_ascii_digit ((c ∷ cs) ++ rest) == 0) ≡ false = grind (arith, nat_tests) in
    rw (some, front-stop is_ascii_digit (c ∷ cs) rest d.digits s, behind-stop is_ascii_digit (c ∷ cs) rest d.digits s) refl

no_point : (c : ℕ) → stops goes_on (c ∷ []) ≡ true → (c == 46) ≡ false
no_point c s = or_false (is_ascii_digit c) (c == 46) (not-true (is_ascii_digit c || (c == 46)) s)
  where
    or_false : (a b : Bool) → (a || b) ≡ false → b ≡ false
    or_false true b e = absurd (cc)
    or_false false b e = e

digit_stop : (rest : List ℕ) → stops goes_on rest ≡ true → stops is_ascii_digit rest ≡ true
digit_stop [] s = refl
digit_stop (c ∷ cs) s = stop_left (is_ascii_digit c) (c == 46) s
  where
    stop_left : (a b : Bool) → not (a || b) ≡ true → not a ≡ true
    stop_left true b e = e
    stop_left false b e = refl

-- what the code counted and split is what the reading finds
pub digits_found : (text : List ℕ) (count : ℕ) (a b : List ℕ) → count ≡ prefix_len is_ascii_digit text → (count ≡ 0 → ⊥) → a ≡ take count text → b ≡ drop count text → Some (a, b) ≡ digits_at text
digits_found text count a b e some front-is behind-is =
    let few : (prefix_len is_ascii_digit text == 0) ≡ false = grind (arith, nat_tests) in
    rw (few, front-is, behind-is, e) refl

digits_digits : (text : List ℕ) (p : List ℕ × List ℕ) → Some p ≡ digits_at text → list_all is_ascii_digit p.0 ≡ true
digits_digits text p e = (digits_sound text p (sym e)).0.digits

fraction_digits : (text digits : List ℕ) → IsFraction text digits → list_all is_ascii_digit digits ≡ true
fraction_digits text digits (inl (e, f)) = rw f refl
fraction_digits text digits (inr (e, f)) = f.digits

-- what both parts of a decimal hold are digits
pub both_digits : (text more : List ℕ) (p q : List ℕ × List ℕ) → Some p ≡ digits_at text → Some q ≡ fraction_at more → list_all is_ascii_digit (p.0 ++ q.0) ≡ true
both_digits text more p q e f =
    let r = fraction_sound more q (sym f) in
    list_all-append is_ascii_digit p.0 q.0 ∙ rw (digits_digits text p e, fraction_digits r.fraction q.0 r.is_fraction) refl

fraction_complete : (text digits rest : List ℕ) → IsFraction text digits → stops goes_on rest ≡ true → fraction_at (text ++ rest) ≡ Some (digits, rest)
fraction_complete text digits [] (inl (e, f)) s = rw (e, f) refl
fraction_complete text digits (c ∷ cs) (inl (e, f)) s = rw (e, f, no_point c s) refl
fraction_complete text digits rest (inr (e, d)) s = rw e (digits_complete digits rest d (digit_stop rest s))

fraction_stop : (text digits rest : List ℕ) → IsFraction text digits → stops goes_on rest ≡ true → stops is_ascii_digit (text ++ rest) ≡ true
fraction_stop text digits rest (inl (e, f)) s = rw e (digit_stop rest s)
fraction_stop text digits rest (inr (e, d)) s = rw e refl

pub begins_digits : (digits rest : List ℕ) → IsDigits digits → begins (digits ++ rest) ≡ true
unfolding begins
begins_digits [] rest d = absurd (d.some refl)
begins_digits (c ∷ cs) rest d = (and_parts (is_ascii_digit c) (list_all is_ascii_digit cs) d.digits).0

-- a decimal is found in front of what doesn't go on with a digit or a point
pub decimal_complete : (text rest : List ℕ) (d : Decimal) → IsDecimal text d → stops goes_on rest ≡ true → decimal_at (text ++ rest) ≡ Some (d, rest)
decimal_complete text rest d i s =
    let behind_whole : List ℕ = i.fraction ++ rest in
    let split : text ++ rest ≡ i.sign ++ (d.whole ++ behind_whole) =
    ap (λ v. v ++ rest) i.parts ∙ append_assoc i.sign (d.whole ++ i.fraction) rest ∙ ap (λ v. i.sign ++ v) (append_assoc d.whole i.fraction rest) in
    let sign = sign_complete i.sign (d.whole ++ behind_whole) d.negative i.is_sign (begins_digits d.whole behind_whole i.is_whole) in
    let whole = digits_complete d.whole behind_whole i.is_whole (fraction_stop i.fraction d.fraction rest i.is_fraction s) in
    rw (split, sign.0, sign.1, whole, fraction_complete i.fraction d.fraction rest i.is_fraction s) refl
