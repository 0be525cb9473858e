-- Runs of ASCII in front of a text: its characters and its bytes agree on them.
use Rattle.std.proofs.Common.{◌≡◌, ◌<◌, ◌≤◌, ℕ, Bool, true, List, [], ◌∷◌, ◌++◌, length, take, drop, slice_index, zero, suc, refl, ap, sym, ◌∙◌, subst, arith, inl, inr}
use Rattle.std.specs.Char.{is_ascii_digit}
use Rattle.std.specs.List.{list_all, prefix_len}
use Rattle.std.specs.Str.{chars, IsUtf8, IsCharBoundary}
use Rattle.std.proofs.lemmas.Bool.{and_parts}
use Rattle.std.proofs.lemmas.Bool.Decides.{nat_tests}
use Rattle.std.proofs.lemmas.Str.{chars-append, chars-IsAscii, IsUtf8-from_ascii, IsUtf8-past_char, IsCharBoundary-from_drop, encode_ascii, chars-encodes}
use lib.Utf8.{encode, encodes}
use Rattle.fx_text.specs.Classes.{is_letter_or_digit, is_white}
use Rattle.fx_text.specs.Fronts.{front, behind, stops}
use Rattle.fx_text.proofs.FrontLemmas.{behind-stop, behind_stops, front-passes, front-stop, front_and_behind, tells}

-- what passes is ASCII
abbrev pub IsLow : (ℕ → Bool) → Type 0
IsLow p = (c : ℕ) → p c ≡ true → c < 128

pub low_white : IsLow is_white
low_white c e = grind (arith, nat_tests)

pub low_digit : IsLow is_ascii_digit
low_digit c e = grind (arith, nat_tests)

pub low_letter : IsLow is_letter_or_digit
low_letter c e = grind (arith, nat_tests)

run_ascii : (p : ℕ → Bool) → IsLow p → (xs : List ℕ) → list_all p xs ≡ true → (i : ℕ) → slice_index xs i < 128
run_ascii p low [] e i = nothing
  where
    nothing : 0 < 128
    nothing = omega arith
run_ascii p low (x ∷ xs) e zero = low x (and_parts (p x) (list_all p xs) e).0
run_ascii p low (x ∷ xs) e (suc i) = run_ascii p low xs (and_parts (p x) (list_all p xs) e).1 i

utf8_behind : (p : ℕ → Bool) → IsLow p → (part rest : List ℕ) → list_all p part ≡ true → IsUtf8 (part ++ rest)
    → IsUtf8 rest
utf8_behind p low [] rest e u = u
utf8_behind p low (c ∷ part) rest e u =
    let a = and_parts (p c) (list_all p part) e in
    utf8_behind p low part rest a.1 (IsUtf8-past_char (c ∷ (part ++ rest)) (part ++ rest) c u
    (ap (λ y. y ++ (part ++ rest)) (sym (encode_ascii c (low c a.0)))))

stop_first : (p : ℕ → Bool) → IsLow p → (cs rest : List ℕ) → encodes cs ≡ rest → stops p rest ≡ true → stops p cs ≡ true
stop_first p low [] rest e s = refl
stop_first p low (c ∷ cs) rest e s = elim (tells (p c)) [
  | inl h ↦
      let one : encode c ≡ c ∷ [] = encode_ascii c (low c h) in
      let r : c ∷ encodes cs ≡ rest = ap (λ y. y ++ encodes cs) (sym one) ∙ e in
      subst (λ y. stops p y ≡ true) (sym r) s
  | inr h ↦ rw h refl
]

pub behind_utf8 : (p : ℕ → Bool) → IsLow p → (text : List ℕ) → IsUtf8 text → IsUtf8 (behind p text)
behind_utf8 p low text u = utf8_behind p low (front p text) (behind p text) (front-passes p text)
    (subst (λ y. IsUtf8 y) (front_and_behind p text) u)

stop_chars : (p : ℕ → Bool) → IsLow p → (text : List ℕ) → IsUtf8 text → stops p text ≡ true → stops p (chars text)
    ≡ true
stop_chars p low text u s = subst (λ y. stops p y ≡ true) (sym (ap chars (sym u.1.1) ∙ chars-encodes u.0 u.1.0))
    (stop_first p low u.0 text u.1.1 s)

parted : (p : ℕ → Bool) → IsLow p → (text : List ℕ) → IsUtf8 text → chars text ≡ front p text ++ chars (behind p text)
parted p low text u =
    let a = run_ascii p low (front p text) (front-passes p text) in
    ap chars (front_and_behind p text)
    ∙ (chars-append (front p text) (behind p text) (IsUtf8-from_ascii (front p text) a)
    ∙ ap (λ y. y ++ chars (behind p text)) (chars-IsAscii (front p text) a))

pub front_chars : (p : ℕ → Bool) → IsLow p → (text : List ℕ) → IsUtf8 text → front p (chars text) ≡ front p text
front_chars p low text u =
    ap (front p) (parted p low text u)
    ∙ front-stop p (front p text) (chars (behind p text)) (front-passes p text)
    (stop_chars p low (behind p text) (behind_utf8 p low text u) (behind_stops p text))

pub behind_chars : (p : ℕ → Bool) → IsLow p → (text : List ℕ) → IsUtf8 text → behind p (chars text)
    ≡ chars (behind p text)
behind_chars p low text u =
    ap (behind p) (parted p low text u)
    ∙ behind-stop p (front p text) (chars (behind p text)) (front-passes p text)
    (stop_chars p low (behind p text) (behind_utf8 p low text u) (behind_stops p text))

pub run_ends : (p : ℕ → Bool) → IsLow p → (text : List ℕ) (n : ℕ) → n ≡ prefix_len p text → n ≤ length text
    → IsUtf8 text → IsCharBoundary text n
run_ends p low text n e within u = IsCharBoundary-from_drop text n within
    (subst (λ k. IsUtf8 (drop k text)) (sym e) (behind_utf8 p low text u))

-- what the parts at that place are
pub run_front : (p : ℕ → Bool) → IsLow p → (text part : List ℕ) (n : ℕ) → n ≡ prefix_len p text → IsUtf8 text → part
    ≡ take n text → part ≡ front p (chars text)
run_front p low text part n e u is = is ∙ (ap (λ k. take k text) e ∙ sym (front_chars p low text u))

pub run_behind : (p : ℕ → Bool) → IsLow p → (text part : List ℕ) (n : ℕ) → n ≡ prefix_len p text → IsUtf8 text → part
    ≡ drop n text → chars part ≡ behind p (chars text)
run_behind p low text part n e u is = ap chars (is ∙ ap (λ k. drop k text) e) ∙ sym (behind_chars p low text u)

pub no_chars : (text : List ℕ) → length text ≡ 0 → chars text ≡ []
unfolding chars
no_chars [] e = refl
no_chars (c ∷ cs) e = absurd (omega (arith, e))
