-- Texts that grow by a character: their bytes, and the count of their characters.
-- Below the answers on drafts.
use Rattle.std.proofs.Common.{◌≡◌, ℕ, zero, suc, Bool, false, refl, subst, if◌then◌else◌, ◌+◌, ◌<◌, ◌≤◌, ◌&&◌, true, List, [], ◌∷◌, ◌++◌, length, slice_index, sym, ◌∙◌, ap, length-append, append-nil, arith}
use Rattle.std.specs.List.{list_all}
use Rattle.std.specs.Str.{chars, IsUtf8}
use Rattle.std.specs.Char.{encode_utf8, IsScalar}
use lib.Utf8.{encode, encodes, scalars}
use Rattle.std.proofs.lemmas.Str.{chars-append, chars-encodes, chars-nil, chars-IsAscii, length-le-encodes, encodes-chars}
use Rattle.fx_doc_drafts.specs.Ahead.{is_low}

pub chars_more : (bs cs : List ℕ) (c n : ℕ) → IsUtf8 bs → IsScalar c → length (chars bs) ≡ n → cs ≡ bs ++ encode_utf8 c → length (chars cs) ≡ n + 1
chars_more bs cs c n u s e w =
    let one : chars (encode c ++ []) ≡ c ∷ [] = chars-encodes (c ∷ []) (alone c s) in
    let two : chars (encode c) ≡ c ∷ [] = ap chars (sym (append-nil (encode c))) ∙ one in
    ap (λ y. length (chars y)) w ∙ (ap length (chars-append bs (encode c) u) ∙ (length-append (chars bs) (chars (encode c)) ∙ grown (length (chars bs)) (length (chars (encode c))) n e (ap length two)))
  where
    alone : (c : ℕ) → IsScalar c → scalars (c ∷ []) ≡ true
    alone c s = ap (λ y. y && true) s

    grown : (a b n : ℕ) → a ≡ n → b ≡ length (c ∷ []) → a + b ≡ n + 1
    grown a b n e f = omega arith

pub chars_none : (bs : List ℕ) → bs ≡ [] → length (chars bs) ≡ 0
chars_none bs e = ap (λ y. length (chars y)) e ∙ ap length chars-nil

pub chars_fewer : (bs : List ℕ) → IsUtf8 bs → length (chars bs) ≤ length bs
chars_fewer bs u =
    let a : length (chars bs) ≤ length (encodes (chars bs)) = length-le-encodes (chars bs) in
    let b : length (encodes (chars bs)) ≡ length bs = ap length (encodes-chars bs u) in
    omega arith

pub name_more : (bs cs : List ℕ) (c : ℕ) → cs ≡ bs ++ encode_utf8 c → encode_utf8 c ≡ c ∷ [] → cs ≡ bs ++ (c ∷ [])
name_more bs cs c e f = e ∙ ap (λ y. bs ++ y) f

pub name_short : (bs cs : List ℕ) (c : ℕ) → cs ≡ bs ++ (c ∷ []) → length bs ≤ 4096 → (length bs ≡ 4096 → ⊥) → length cs ≤ 4096
name_short bs cs c e h n =
    let a : length cs ≡ length bs + 1 = ap length e ∙ length-append bs (c ∷ []) in
    omega arith

-- a name after a push, which may have failed
pub name_kept : (b : Bool) (bs cs : List ℕ) (c : ℕ) → cs ≡ (if b then bs ++ encode_utf8 c else bs) → encode_utf8 c ≡ c ∷ [] → length bs ≤ 4096 → (length bs ≡ 4096 → ⊥) → length cs ≤ 4096
name_kept true bs cs c e f h n = name_short bs cs c (name_more bs cs c e f) h n
name_kept false bs cs c e f h n = subst (λ (y : List ℕ). length y ≤ 4096) (sym e) h

-- a piece of ASCII more

both : (a b : Bool) → (a && b) ≡ true → (a ≡ true) × (b ≡ true)
both true b e = (refl, e)
both false b e = Prim.cc

low : (c : ℕ) → is_low c ≡ true → c < 128
low c e = grind (arith, e)

pub low_ascii : (part : List ℕ) → list_all is_low part ≡ true → (i : ℕ) → slice_index part i < 128
low_ascii [] e i = nothing
  where
    nothing : 0 < 128
    nothing = omega arith
low_ascii (c ∷ part) e zero = low c (both (is_low c) (list_all is_low part) e).0
low_ascii (c ∷ part) e (suc i) = low_ascii part (both (is_low c) (list_all is_low part) e).1 i

pub chars_longer : (bs cs piece : List ℕ) (n : ℕ) → IsUtf8 bs → list_all is_low piece ≡ true
    → length (chars bs) ≡ n → cs ≡ bs ++ piece → length (chars cs) ≡ n + length piece
chars_longer bs cs piece n u f e w =
    ap (λ y. length (chars y)) w ∙ (ap length (chars-append bs piece u) ∙ (length-append (chars bs) (chars piece) ∙
    (ap (λ y. y + length (chars piece)) e ∙ ap (λ y. n + length y) (chars-IsAscii piece (low_ascii piece f)))))
