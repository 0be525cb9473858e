-- Places in a text counted in characters, and the same places counted in bytes.
-- Cited by the proofs of the wrapping.
use Rattle.std.proofs.Common.{◌≡◌, ℕ, ◌+◌, ◌<◌, ◌≤◌, ◌≢◌, true, eqb, List, [], ◌∷◌, ◌++◌, length, take, drop, get_or, zero, suc, refl, sym, ap, subst, ◌∙◌, arith, inl, inr, lit<}
use Rattle.std.proofs.lemmas.Bool.Decides.{eqb_tells}
use Rattle.std.proofs.lemmas.List.{take-append-drop, drop_at, take_more}
use Rattle.std.proofs.lemmas.Str.{scalars-chars, chars-encodes, encodes-append, encode_ascii, char_from_byte, encodes-chars, length-le-encodes}
use Rattle.std.specs.List.{prefix_len}
use Rattle.std.specs.Char.{len_utf8}
use Rattle.std.specs.Str.{IsUtf8, chars, all_scalars}
use lib.Utf8.{scalar}
use Rattle.std.proofs.lemmas.Bool.{and_parts}
use Rattle.std.specs.Prelude.{encode_utf8, encode_utf8_all}
use Rattle.fx_cells.specs.Wrapping.{bytes_of, leading_spaces}
use Rattle.fx_cells.proofs.Widths.{bytes_of-append, bytes_of-cons}

-- bytes that begin with a character other than a space begin with no space
no_space : (bs rest : List ℕ) (c : ℕ) → bs ≡ encode_utf8 c ++ rest → c ≢ 32 → prefix_len (λ b. eqb b 32) bs ≡ 0
no_space [] rest c e h = refl
no_space (b ∷ bs) rest c e h = elim (eqb_tells b 32) [
  | inl t ↦ absurd (h (char_from_byte (b ∷ bs) rest c e (let s : b < 128 = omega arith in s) (omega arith) ∙ t.1))
  | inr t ↦ rw t.0 refl
]

-- as many bytes as characters of a text are spaces at its start
pub spaces_in_bytes : (cs : List ℕ) → prefix_len (λ b. eqb b 32) (encode_utf8_all cs) ≡ leading_spaces cs
spaces_in_bytes [] = refl
spaces_in_bytes (c ∷ cs) = elim (eqb_tells c 32) [
  | inl t ↦ rw t.0 (ap (λ bs. prefix_len (λ b. eqb b 32) (bs ++ encode_utf8_all cs)) (ap encode_utf8 t.1 ∙ encode_ascii 32 (lit< tt)) ∙ ap (λ n. 1 + n) (spaces_in_bytes cs))
  | inr t ↦ rw t.0 (no_space _ (encode_utf8_all cs) c refl t.1)
]

-- spaces take a byte each
one_space : (n c : ℕ) (cs : List ℕ) → c ≡ 32 → bytes_of (take n cs) ≡ n → bytes_of (take (1 + n) (c ∷ cs)) ≡ 1 + n
one_space n c cs e h =
    let s : suc n ≡ 1 + n = omega arith in
    subst (λ k. bytes_of (take k (c ∷ cs)) ≡ k) s
    (bytes_of-cons c (take n cs) ∙ ap (λ x. len_utf8 x + bytes_of (take n cs)) e ∙ ap (λ m. 1 + m) h ∙ sym s)

pub bytes_of_spaces : (cs : List ℕ) → bytes_of (take (leading_spaces cs) cs) ≡ leading_spaces cs
bytes_of_spaces [] = refl
bytes_of_spaces (c ∷ cs) = elim (eqb_tells c 32) [
  | inl t ↦ rw t.0 (one_space (leading_spaces cs) c cs t.1 (bytes_of_spaces cs))
  | inr t ↦ rw t.0 refl
]

-- the bytes of a text, in two parts
pub bytes_of-take-drop : (i : ℕ) (cs : List ℕ) → bytes_of (take i cs) + bytes_of (drop i cs) ≡ bytes_of cs
bytes_of-take-drop i cs = sym (bytes_of-append (take i cs) (drop i cs)) ∙ ap bytes_of (take-append-drop i cs)

-- what stands behind the first i characters
pub drop_bytes : (i : ℕ) (cs : List ℕ) → drop (bytes_of (take i cs)) (encode_utf8_all cs) ≡ encode_utf8_all (drop i cs)
drop_bytes i cs =
    ap (λ bs. drop (bytes_of (take i cs)) bs) (ap encode_utf8_all (sym (take-append-drop i cs)) ∙ encodes-append (take i cs) (drop i cs))
    ∙ drop_at (encode_utf8_all (take i cs)) (encode_utf8_all (drop i cs)) (bytes_of (take i cs)) refl

take_nil : (n : ℕ) → take {A = ℕ} n [] ≡ []
take_nil zero = refl
take_nil (suc n) = refl

-- the first i + k characters
pub take-add : (i k : ℕ) (cs : List ℕ) → take (i + k) cs ≡ take i cs ++ take k (drop i cs)
take-add zero k cs = ap (λ n. take n cs) (let e : 0 + k ≡ k = omega arith in e)
take-add (suc i) k [] = take_nil (suc i + k) ∙ sym (take_nil k)
take-add (suc i) k (c ∷ cs) = ap (λ n. take n (c ∷ cs)) (let e : suc i + k ≡ suc (i + k) = omega arith in e) ∙ ap (λ l. c ∷ l) (take-add i k cs)

-- the spaces behind the first i characters, in bytes
pub bytes_of_dropped : (i : ℕ) (cs : List ℕ) → bytes_of (take (i + leading_spaces (drop i cs)) cs) ≡ bytes_of (take i cs) + leading_spaces (drop i cs)
bytes_of_dropped i cs =
    ap bytes_of (take-add i (leading_spaces (drop i cs)) cs)
    ∙ bytes_of-append (take i cs) (take (leading_spaces (drop i cs)) (drop i cs))
    ∙ ap (λ n. bytes_of (take i cs) + n) (bytes_of_spaces (drop i cs))

-- one character more
pub bytes_of-take_more : (cs : List ℕ) (i c : ℕ) → (i < length cs) × (c ≡ get_or cs i c) → bytes_of (take (i + 1) cs) ≡ bytes_of (take i cs) + len_utf8 c
bytes_of-take_more cs i c h =
    ap bytes_of (take_more cs i c h.0) ∙ bytes_of-append (take i cs) (get_or cs i c ∷ [])
    ∙ ap (λ x. bytes_of (take i cs) + bytes_of (x ∷ [])) (sym h.1)
    ∙ ap (λ n. bytes_of (take i cs) + n) (bytes_of-cons c [] ∙ omega arith)

-- some characters take some bytes
pub bytes_of_some : (cs : List ℕ) → 0 < length cs → 0 < bytes_of cs
bytes_of_some cs h = let l : length cs ≤ bytes_of cs = length-le-encodes cs in omega arith

pub bytes_of-take-le : (i : ℕ) (cs : List ℕ) → bytes_of (take i cs) ≤ bytes_of cs
bytes_of-take-le i cs = omega (arith, bytes_of-take-drop i cs)

pub bytes_of-take-add : (i k : ℕ) (cs : List ℕ) → bytes_of (take i cs) ≤ bytes_of (take (i + k) cs)
bytes_of-take-add i k cs =
    let e : bytes_of (take (i + k) cs) ≡ bytes_of (take i cs) + bytes_of (take k (drop i cs)) = ap bytes_of (take-add i k cs) ∙ bytes_of-append (take i cs) (take k (drop i cs)) in
    omega arith

-- what stands behind the first i characters is text
pub scalars-drop : (i : ℕ) (cs : List ℕ) → all_scalars cs ≡ true → all_scalars (drop i cs) ≡ true
scalars-drop zero cs h = h
scalars-drop (suc i) [] h = refl
scalars-drop (suc i) (c ∷ cs) h = scalars-drop i cs (and_parts (scalar c) (all_scalars cs) h).1

-- the first i characters are text
pub scalars-take : (i : ℕ) (cs : List ℕ) → all_scalars cs ≡ true → all_scalars (take i cs) ≡ true
scalars-take zero cs h = refl
scalars-take (suc i) [] h = refl
scalars-take (suc i) (c ∷ cs) h = let p = and_parts (scalar c) (all_scalars cs) h in rw (p.0, scalars-take i cs p.1) refl

pub record IsRest (bs : List ℕ) (i place : ℕ) : Type 0 where
  pub within : place ≤ length bs
  pub bytes : drop place bs ≡ encode_utf8_all (drop i (chars bs))
  pub text : IsUtf8 (drop place bs)
  pub chars : chars (drop place bs) ≡ drop i (chars bs)

pub rest_of : (bs : List ℕ) (i place : ℕ) → IsUtf8 bs → place ≡ bytes_of (take i (chars bs)) → IsRest bs i place
rest_of bs i place u e =
    let cs = chars bs in
    let same : encode_utf8_all cs ≡ bs = encodes-chars bs u in
    let left : drop place bs ≡ encode_utf8_all (drop i cs) = ap (λ n. drop n bs) e ∙ ap (λ x. drop (bytes_of (take i cs)) x) (sym same) ∙ drop_bytes i cs in
    let good : all_scalars (drop i cs) ≡ true = scalars-drop i cs (scalars-chars bs u) in
    record {
      within = (let b : bytes_of (take i cs) ≤ bytes_of cs = bytes_of-take-le i cs in let l : bytes_of cs ≡ length bs = ap length same in omega arith);
      bytes = left;
      text = (drop i cs, (good, sym left));
      chars = ap chars left ∙ chars-encodes (drop i cs) good;
    }
