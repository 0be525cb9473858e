-- The reading of four lengths meets its grammar, over any reading of a length that does.
use Rattle.std.proofs.Common.{◌≡◌, ℕ, ◌⊎◌, inl, inr, Bool, true, false, ◌||◌, List, [], ◌∷◌, ◌++◌, codes, Option, Some, None, ℤ, refl, sym, ap, ◌∙◌, subst, arith, append-nil}
use Rattle.std.specs.Prelude.{IfSome, IfNone}
use Rattle.std.specs.List.{list_all, list_any}
use Rattle.std.specs.Char.{is_ascii_digit}
use Rattle.std.specs.Option.{option_and_then, option_map}
use Rattle.std.proofs.lemmas.Bool.{and_parts, not-true, not-false}
use Rattle.std.proofs.lemmas.List.Folds.{list_all-append, list_any-append}
use Rattle.fx_base.specs.declared.geometry.Sides.{Sides}
use Rattle.fx_text.specs.Classes.{is_white}
use Rattle.fx_text.specs.Fronts.{front, behind, stops}
use Rattle.fx_text.proofs.FrontLemmas.{tells, map_gives, bind_gives, front-stop, behind-stop, front-passes, front_and_behind, front_some, behind_stops}
use Rattle.fx_look.specs.Decimals.{Decimal, IsSign, IsFraction, IsDecimal}
use Rattle.fx_look.specs.Numbers.{IsUnbounded, IsNumber, IsPlain, IsSize, IsPower, Power, number_at, size_at}
use Rattle.fx_look.specs.Insets.{sides, IsGap, IsSides, not_white, word, behind_word, four, sides_at}
use Rattle.fx_look.proofs.NumberLemmas.{number_sound, number_complete, size_sound, size_complete}
use Rattle.fx_look.proofs.ColorLemmas.{digit_no_white}

-- a reading of lengths that finds one exactly where a text spells it, and never in a text with white
pub record IsReading (IsLength : List ℕ → ℤ → Type 0) (read : List ℕ → Option ℤ) : Type 0 where
  pub sound : (text : List ℕ) (n : ℤ) → read text ≡ Some n → IsLength text n
  pub complete : (text : List ℕ) (n : ℤ) → IsLength text n → read text ≡ Some n
  pub no_white : (text : List ℕ) (n : ℤ) → IsLength text n → list_all not_white text ≡ true
  pub nothing : read [] ≡ None

-- numbers and sizes hold no white

digits_plain : (xs : List ℕ) → list_all is_ascii_digit xs ≡ true → list_all not_white xs ≡ true
digits_plain [] d = refl
digits_plain (c ∷ cs) d = let q = and_parts (is_ascii_digit c) (list_all is_ascii_digit cs) d in rw (digit_no_white c q.0) (digits_plain cs q.1)

sign_plain : (text : List ℕ) (negative : Bool) → IsSign text negative → list_all not_white text ≡ true
sign_plain text negative (inl (n, inl e)) = rw e refl
sign_plain text negative (inl (n, inr e)) = rw e refl
sign_plain text negative (inr (n, e)) = rw e refl

fraction_plain : (text digits : List ℕ) → IsFraction text digits → list_all not_white text ≡ true
fraction_plain text digits (inl (e, f)) = rw e refl
fraction_plain text digits (inr (e, d)) = rw e (digits_plain digits d.digits)

both_plain : (xs ys : List ℕ) → list_all not_white xs ≡ true → list_all not_white ys ≡ true → list_all not_white (xs ++ ys) ≡ true
both_plain xs ys p q = list_all-append not_white xs ys ∙ rw (p, q) refl

decimal_plain : (text : List ℕ) (d : Decimal) → IsDecimal text d → list_all not_white text ≡ true
decimal_plain text d i = ap (list_all not_white) i.parts
    ∙ both_plain i.sign (d.whole ++ i.fraction) (sign_plain i.sign d.negative i.is_sign)
    (both_plain d.whole i.fraction (digits_plain d.whole i.is_whole.digits) (fraction_plain i.fraction d.fraction i.is_fraction))

power_plain : (text : List ℕ) (power : Power) → IsPower text power → list_all not_white text ≡ true
power_plain text power (inl (e, f)) = rw e refl
power_plain text power (inr i) = ap (list_all not_white) i.parts ∙ by_mark i.is_mark
  where
    rest : list_all not_white (i.sign ++ i.digits) ≡ true
    rest = both_plain i.sign i.digits (sign_plain i.sign i.negative i.is_sign) (digits_plain i.digits i.is_digits.digits)

    by_mark : (i.mark ≡ 69) ⊎ (i.mark ≡ 101) → list_all not_white (i.mark ∷ (i.sign ++ i.digits)) ≡ true
    by_mark (inl m) = rw m rest
    by_mark (inr m) = rw m rest

unbounded_plain : (text : List ℕ) (n : ℤ) → IsUnbounded text n → list_all not_white text ≡ true
unbounded_plain text n (inl (e, v)) = rw e refl
unbounded_plain text n (inr (e, v)) = rw e refl

number_plain : (text : List ℕ) (n : ℤ) → IsNumber text n → list_all not_white text ≡ true
number_plain text n (inl u) = unbounded_plain text n u
number_plain text n (inr i) = ap (list_all not_white) i.parts ∙ both_plain i.digits i.exponent (decimal_plain i.digits i.decimal i.is_decimal) (power_plain i.exponent i.power i.is_power)

size_plain : (text : List ℕ) (n : ℤ) → IsSize text n → list_all not_white text ≡ true
size_plain text n i = ap (list_all not_white) i.parts ∙ both_plain i.number i.unit (number_part i.is_number) (unit_part i.is_unit)
  where
    number_part : IsUnbounded i.number n ⊎ IsPlain i.number n → list_all not_white i.number ≡ true
    number_part (inl u) = unbounded_plain i.number n u
    number_part (inr p) = decimal_plain i.number p.decimal p.is_decimal

    unit_part : (i.unit ≡ []) ⊎ (i.unit ≡ codes "px") → list_all not_white i.unit ≡ true
    unit_part (inl e) = rw e refl
    unit_part (inr e) = rw e refl

pub numbers_read : IsReading IsNumber number_at
numbers_read = record { sound = number_sound; complete = number_complete; no_white = number_plain; nothing = refl }

pub sizes_read : IsReading IsSize size_at
sizes_read = record { sound = size_sound; complete = size_complete; no_white = size_plain; nothing = refl }

-- four of them

record Fours (t r b l : Option ℤ) (s : Sides) : Type 0 where
  top : t ≡ Some s.top
  right : r ≡ Some s.right
  bottom : b ≡ Some s.bottom
  left : l ≡ Some s.left

four_sound : (t r b l : Option ℤ) (s : Sides) → four t r b l ≡ Some s → Fours t r b l s
unfolding four
four_sound t r b l s e =
    let x = bind_gives (λ t. option_and_then (λ r. option_and_then (λ b. option_map (λ l. sides t r b l) l) b) r) t s e in
    let y = bind_gives (λ r. option_and_then (λ b. option_map (λ l. sides x.0 r b l) l) b) r s x.2 in
    let z = bind_gives (λ b. option_map (λ l. sides x.0 y.0 b l) l) b s y.2 in
    let w = map_gives (λ l. sides x.0 y.0 z.0 l) l s z.2 in
    subst (Fours t r b l) w.2 (record { top = x.1; right = y.1; bottom = z.1; left = w.1 })

four_complete : (t r b l : Option ℤ) (s : Sides) → Fours t r b l s → four t r b l ≡ Some s
unfolding four
four_complete t r b l s f = rw (f.top, f.right, f.bottom, f.left) refl

-- behind a word stands white, or nothing
gap_of : (text : List ℕ) → (behind_word text ≡ [] → ⊥) → IsGap (front is_white (behind not_white text))
gap_of text some = by_rest (behind not_white text) (behind_stops not_white text) some
  where
    by_rest : (rest : List ℕ) → stops not_white rest ≡ true → (behind is_white rest ≡ [] → ⊥) → IsGap (front is_white rest)
    by_rest [] s more = absurd (more refl)
    by_rest (c ∷ cs) s more =
        let white : is_white c ≡ true = not-false (is_white c) (not-true (not_white c) s) in
        record { white = front-passes is_white (c ∷ cs); some = front_some is_white (c ∷ cs) (λ z. let f = rw white at z in absurd (omega (arith, f))) }

word_parts : (text : List ℕ) → text ≡ word text ++ (front is_white (behind not_white text) ++ behind_word text)
word_parts text = front_and_behind not_white text ∙ ap (λ v. word text ++ v) (front_and_behind is_white (behind not_white text))

word_some : (read : List ℕ → Option ℤ) (text : List ℕ) (n : ℤ) → read [] ≡ None → read (word text) ≡ Some n → text ≡ [] → ⊥
word_some read text n nothing e z = let f : read (word text) ≡ None = ap (λ v. read (word v)) z ∙ nothing in absurd (cc)

read_some : (read : List ℕ → Option ℤ) (text : List ℕ) (n : ℤ) → read [] ≡ None → read text ≡ Some n → text ≡ [] → ⊥
read_some read text n nothing e z = let f : read text ≡ None = ap read z ∙ nothing in absurd (cc)

pub sides_sound : (IsLength : List ℕ → ℤ → Type 0) (read : List ℕ → Option ℤ) → IsReading IsLength read → (text : List ℕ) (s : Sides) → sides_at read text ≡ Some s → IsSides IsLength text s
sides_sound IsLength read i text s e = elim (tells (list_any is_white text)) [
  | inl w ↦
      let a : List ℕ = behind_word text in
      let b : List ℕ = behind_word (behind_word text) in
      let c : List ℕ = behind_word (behind_word (behind_word text)) in
      let f = four_sound (read (word text)) (read (word (behind_word text))) (read (word (behind_word (behind_word text)))) (read (behind_word (behind_word (behind_word text)))) s (rw w at e) in
      inr (record {
        top = word text;
        right = word (behind_word text);
        bottom = word (behind_word (behind_word text));
        left = behind_word (behind_word (behind_word text));
        first_gap = front is_white (behind not_white text);
        second_gap = front is_white (behind not_white (behind_word text));
        third_gap = front is_white (behind not_white (behind_word (behind_word text)));
        parts = word_parts text ∙ ap (λ v. word text ++ (front is_white (behind not_white text) ++ v))
            (word_parts (behind_word text) ∙ ap (λ v. word (behind_word text) ++ (front is_white (behind not_white (behind_word text)) ++ v)) (word_parts (behind_word (behind_word text))));
        is_first_gap = gap_of text (word_some read (behind_word text) s.right i.nothing f.right);
        is_second_gap = gap_of (behind_word text) (word_some read (behind_word (behind_word text)) s.bottom i.nothing f.bottom);
        is_third_gap = gap_of (behind_word (behind_word text)) (read_some read (behind_word (behind_word (behind_word text))) s.left i.nothing f.left);
        is_top = i.sound (word text) s.top f.top;
        is_right = i.sound (word (behind_word text)) s.right f.right;
        is_bottom = i.sound (word (behind_word (behind_word text))) s.bottom f.bottom;
        is_left = i.sound (behind_word (behind_word (behind_word text))) s.left f.left;
      })
  | inr w ↦
      let f = four_sound (read text) (read text) (read text) (read text) s (rw w at e) in
      inl (record { length_of = s.top; is_length = i.sound text s.top f.top; value = even (read text) s f })
]
  where
    same : (t r b l : ℤ) → r ≡ t → b ≡ t → l ≡ t → sides t r b l ≡ sides t t t t
    same t r b l p q u = rw (p, q, u) refl

    even : (o : Option ℤ) (s : Sides) → Fours o o o o s → s ≡ sides s.top s.top s.top s.top
    even o s f =
        let r : s.right ≡ s.top = cc (f.top, f.right) in
        let b : s.bottom ≡ s.top = cc (f.top, f.bottom) in
        let l : s.left ≡ s.top = cc (f.top, f.left) in
        same s.top s.right s.bottom s.left r b l

plain_stop : (xs rest : List ℕ) → (xs ≡ [] → ⊥) → list_all not_white xs ≡ true → stops is_white (xs ++ rest) ≡ true
plain_stop [] rest some p = absurd (some refl)
plain_stop (c ∷ cs) rest some p = (and_parts (not_white c) (list_all not_white cs) p).0

gap_stop : (xs rest : List ℕ) → IsGap xs → stops not_white (xs ++ rest) ≡ true
gap_stop [] rest g = absurd (g.some refl)
gap_stop (c ∷ cs) rest g = rw (and_parts (is_white c) (list_all is_white cs) g.white).0 refl

gap_any : (xs rest : List ℕ) → IsGap xs → list_any is_white (xs ++ rest) ≡ true
gap_any [] rest g = absurd (g.some refl)
gap_any (c ∷ cs) rest g = rw (and_parts (is_white c) (list_all is_white cs) g.white).0 refl

any_behind : (xs rest : List ℕ) → list_any is_white rest ≡ true → list_any is_white (xs ++ rest) ≡ true
any_behind xs rest e = list_any-append is_white xs rest ∙ rw e (or_true (list_any is_white xs))
  where
    or_true : (b : Bool) → (b || true) ≡ true
    or_true true = refl
    or_true false = refl

none_white : (xs : List ℕ) → list_all not_white xs ≡ true → list_any is_white xs ≡ false
none_white [] p = refl
none_white (c ∷ cs) p =
    let q = and_parts (not_white c) (list_all not_white cs) p in
    rw (not-true (is_white c) q.0) (none_white cs q.1)

step : (word_text gap rest : List ℕ) → list_all not_white word_text ≡ true → IsGap gap → stops is_white rest ≡ true → (word (word_text ++ (gap ++ rest)) ≡ word_text) × (behind_word (word_text ++ (gap ++ rest)) ≡ rest)
step word_text gap rest p g s =
    let first : word (word_text ++ (gap ++ rest)) ≡ word_text = front-stop not_white word_text (gap ++ rest) p (gap_stop gap rest g) in
    let second : behind not_white (word_text ++ (gap ++ rest)) ≡ gap ++ rest = behind-stop not_white word_text (gap ++ rest) p (gap_stop gap rest g) in
    let third : behind is_white (gap ++ rest) ≡ rest = behind-stop is_white gap rest g.white s in
    (first, ap (behind is_white) second ∙ third)

pub sides_complete : (IsLength : List ℕ → ℤ → Type 0) (read : List ℕ → Option ℤ) → IsReading IsLength read → (text : List ℕ) (s : Sides) → IsSides IsLength text s → sides_at read text ≡ Some s
sides_complete IsLength read i text s (inl even) =
    let whole = i.complete text even.length_of even.is_length in
    let none = none_white text (i.no_white text even.length_of even.is_length) in
    rw (none, even.value) (four_complete (read text) (read text) (read text) (read text) (sides even.length_of even.length_of even.length_of even.length_of) (record { top = whole; right = whole; bottom = whole; left = whole }))
sides_complete IsLength read i text s (inr f) =
    let top = i.complete f.top s.top f.is_top in
    let right = i.complete f.right s.right f.is_right in
    let bottom = i.complete f.bottom s.bottom f.is_bottom in
    let left = i.complete f.left s.left f.is_left in
    let rest_c : List ℕ = f.left in
    let rest_b : List ℕ = f.bottom ++ (f.third_gap ++ f.left) in
    let rest_a : List ℕ = f.right ++ (f.second_gap ++ (f.bottom ++ (f.third_gap ++ f.left))) in
    let stop_c : stops is_white f.left ≡ true = ap (stops is_white) (sym (append-nil f.left)) ∙ plain_stop f.left [] (read_some read f.left s.left i.nothing left) (i.no_white f.left s.left f.is_left) in
    let stop_b = plain_stop f.bottom (f.third_gap ++ f.left) (read_some read f.bottom s.bottom i.nothing bottom) (i.no_white f.bottom s.bottom f.is_bottom) in
    let stop_a = plain_stop f.right (f.second_gap ++ (f.bottom ++ (f.third_gap ++ f.left))) (read_some read f.right s.right i.nothing right) (i.no_white f.right s.right f.is_right) in
    let one = step f.top f.first_gap rest_a (i.no_white f.top s.top f.is_top) f.is_first_gap stop_a in
    let two = step f.right f.second_gap rest_b (i.no_white f.right s.right f.is_right) f.is_second_gap stop_b in
    let three = step f.bottom f.third_gap rest_c (i.no_white f.bottom s.bottom f.is_bottom) f.is_third_gap stop_c in
    let white : list_any is_white (f.top ++ (f.first_gap ++ rest_a)) ≡ true = any_behind f.top (f.first_gap ++ rest_a) (gap_any f.first_gap rest_a f.is_first_gap) in
    ap (sides_at read) f.parts ∙ joined (f.top ++ (f.first_gap ++ rest_a)) rest_a rest_b rest_c white one.1 two.1 three.1
    (four_complete (read (word (f.top ++ (f.first_gap ++ rest_a)))) (read (word rest_a)) (read (word rest_b)) (read rest_c) s
    (record { top = ap read one.0 ∙ top; right = ap read two.0 ∙ right; bottom = ap read three.0 ∙ bottom; left = left }))
  where
    joined : (t a b c : List ℕ) → list_any is_white t ≡ true → behind_word t ≡ a → behind_word a ≡ b → behind_word b ≡ c → four (read (word t)) (read (word a)) (read (word b)) (read c) ≡ Some s → sides_at read t ≡ Some s
    joined t a b c w p q u e = rw (w, p, q, u) e

pub sides_found : (IsLength : List ℕ → ℤ → Type 0) (read : List ℕ → Option ℤ) → IsReading IsLength read → (text : List ℕ) (o : Option Sides) → o ≡ sides_at read text → IfSome o (IsSides IsLength text)
sides_found IsLength read i text None e = tt
sides_found IsLength read i text (Some s) e = sides_sound IsLength read i text s (sym e)

pub sides_none : (IsLength : List ℕ → ℤ → Type 0) (read : List ℕ → Option ℤ) → IsReading IsLength read → (text : List ℕ) (o : Option Sides) → o ≡ sides_at read text → IfNone o ((s : Sides) → IsSides IsLength text s → ⊥)
sides_none IsLength read i text None e = λ s f. let some : None ≡ Some s = e ∙ sides_complete IsLength read i text s f in cc
sides_none IsLength read i text (Some s) e = tt
