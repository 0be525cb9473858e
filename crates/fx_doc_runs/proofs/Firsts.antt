-- The first character of a text, and a part of plain ASCII: their characters, and what is behind them.
use Rattle.std.proofs.Common.{◌≡◌, ℕ, ◌+◌, ◌<◌, ◌≤◌, Bool, ◌&&◌, true, false, cond, not, List, [], ◌∷◌, ◌++◌, suc, length, Some, slice_get, refl, sym, ◌∙◌, ap, append-nil, length-append, arith}
use Rattle.std.specs.List.{list_all}
use Rattle.std.specs.Str.{chars, IsUtf8}
use Rattle.std.specs.Char.{IsScalar}
use lib.Dec.{eqb, ltb}
use lib.Utf8.{encode, scalar, scalars}
use Rattle.std.proofs.lemmas.Str.{chars-append, chars-encodes, length-le-encodes, IsUtf8-encode, IsUtf8-past_char, IsUtf8-from_ascii, chars-IsAscii, encode_ascii}
use Rattle.fx_base.specs.Positions.{after_all}
use Rattle.fx_base.specs.declared.positions.Position.{Position}
use Rattle.fx_doc_drafts.specs.Ahead.{is_low, is_flat}
use Rattle.fx_doc_drafts.proofs.Texts.{low_ascii}

alone : (c : ℕ) → IsScalar c → chars (encode c) ≡ c ∷ []
alone c s = ap chars (sym (append-nil (encode c))) ∙ chars-encodes (c ∷ []) (ap (λ y. y && true) s)

some_bytes : (c : ℕ) → 1 ≤ length (encode c)
some_bytes c =
    let a : 1 ≤ length (encode c ++ []) = length-le-encodes (c ∷ []) in
    let b : length (encode c ++ []) ≡ length (encode c) = ap length (append-nil (encode c)) in
    omega arith

head_scalar : (cs : List ℕ) (c : ℕ) → scalars cs ≡ true → Some c ≡ slice_get cs 0 → scalar c ≡ true
head_scalar [] c e g = Prim.cc
head_scalar (x ∷ cs) c e g =
    let h : Some c ≡ Some x = g in
    let f : c ≡ x = cc in
    ap scalar f ∙ first (scalar x) (scalars cs) e
  where
    first : (a b : Bool) → (a && b) ≡ true → a ≡ true
    first true b e = refl
    first false b e = Prim.cc

pub first_is : (text whole rest behind : List ℕ) (c : ℕ) → IsUtf8 text → whole ≡ text → whole ≡ encode c ++ rest → Some c ≡ slice_get (chars whole) 0 → behind ≡ rest → (chars text ≡ c ∷ chars behind) × (length behind < length text)
first_is text whole rest behind c u w e g b =
    let cs : chars text ≡ u.0 = ap chars (sym u.1.1) ∙ chars-encodes u.0 u.1.0 in
    let s : IsScalar c = head_scalar u.0 c u.1.0 (g ∙ (ap (λ y. slice_get (chars y) 0) w ∙ ap (λ y. slice_get y 0) cs)) in
    let t : text ≡ encode c ++ behind = sym w ∙ (e ∙ ap (λ y. encode c ++ y) (sym b)) in
    let l : length text ≡ length (encode c) + length behind = ap length t ∙ length-append (encode c) behind in
    let m : 1 ≤ length (encode c) = some_bytes c in
    (ap chars t ∙ (chars-append (encode c) behind (IsUtf8-encode c s) ∙ ap (λ y. y ++ chars behind) (alone c s)), omega arith)

both : (a b : Bool) → (a && b) ≡ true → (a ≡ true) × (b ≡ true)
both true b e = (refl, e)
both false b e = Prim.cc

low : (c : ℕ) → ltb c 128 ≡ true → c < 128
low c e = grind (arith, e)

pub low_chars : (part rest : List ℕ) → list_all is_low part ≡ true → chars (part ++ rest) ≡ part ++ chars rest
low_chars part rest e = chars-append part rest (IsUtf8-from_ascii part (low_ascii part e)) ∙ ap (λ y. y ++ chars rest)
    (chars-IsAscii part (low_ascii part e))

pub utf8_behind : (part rest : List ℕ) → list_all is_low part ≡ true → IsUtf8 (part ++ rest) → IsUtf8 rest
utf8_behind [] rest e u = u
utf8_behind (c ∷ part) rest e u =
    let a = both (is_low c) (list_all is_low part) e in
    utf8_behind part rest a.1 (IsUtf8-past_char (c ∷ (part ++ rest)) (part ++ rest) c u (ap (λ y. y ++ (part ++ rest))
    (sym (encode_ascii c (low c a.0)))))

off : (c : ℕ) → not (eqb c 10) ≡ true → eqb c 10 ≡ false
off c e = grind (arith, e)

abbrev column_at : Position → ℕ → Position
column_at p n = record { line = p.line; column = n }

pub along_is : (p : Position) (part : List ℕ) → list_all is_flat part ≡ true → after_all p part ≡ column_at p (p.column + length part)
along_is p [] e = ap (column_at p) (none p.column)
  where
    none : (n : ℕ) → n ≡ n + 0
    none n = omega arith
along_is p (c ∷ part) e =
    let a = both (is_flat c) (list_all is_flat part) e in
    let d = off c (both (ltb c 128) (not (eqb c 10)) a.0).1 in
    ap (λ b. after_all (cond b (record { line = p.line + 1; column = 1 }) (column_at p (p.column + 1))) part) d
    ∙ (along_is (column_at p (p.column + 1)) part a.1 ∙ ap (column_at p) (more p.column (length part)))
  where
    more : (n m : ℕ) → (n + 1) + m ≡ n + suc m
    more n m = omega arith
