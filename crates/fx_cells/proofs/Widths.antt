-- A character takes no more cells than bytes, so the cells of a text in memory can be counted.
-- Cited by the proofs of the columns and of the wrapping.
use Rattle.std.proofs.Common.{◌≡◌, ℕ, ◌+◌, ◌<◌, ◌≤◌, ◌≢◌, false, List, [], ◌∷◌, ◌++◌, length, ap, ◌∙◌, arith, inl, inr, length-append}
use Rattle.std.proofs.lemmas.Bool.Decides.{nat_tests, leb_tells}
use Rattle.std.proofs.lemmas.List.Sums.{sum_by-cons}
use Rattle.std.proofs.lemmas.Str.{length-encode, encodes-append}
use Rattle.std.specs.Prelude.{encode_utf8, encode_utf8_all}
use Rattle.std.specs.Char.{len_utf8}
use Rattle.unicode_width.specs.declared.kind.Kind.{Kind}
use Rattle.unicode_width.specs.declared.kind.Kind.TheVariants as kinds
use Rattle.unicode_width.specs.Kind.{kind}
use Rattle.unicode_width.specs.Width.{single, of_kind, alone, char_width}
use Rattle.unicode_width.proofs.Rules.{width_or_zero-le}
use Rattle.fx_cells.specs.Columns.{cell_width, cells_of}
use Rattle.fx_cells.specs.Wrapping.{bytes_of}

single-le : (c : ℕ) → c ≢ 0x17D8 → (single false c).0 ≤ 2
single-le c h = grind (arith, nat_tests)

of_kind-le : (c : ℕ) (k : Kind) → c ≢ 0x17D8 → (of_kind false c k).0 ≤ 2
of_kind-le c kinds.Zero h = omega arith
of_kind-le c kinds.Narrow h = omega arith
of_kind-le c kinds.Wide h = omega arith
of_kind-le c kinds.Ambiguous h = omega arith
of_kind-le c kinds.Alef h = omega arith
of_kind-le c kinds.KhmerLetter h = omega arith
of_kind-le c kinds.TifinaghConsonant h = omega arith
of_kind-le c kinds.LisuTone h = omega arith
of_kind-le c kinds.RegionalIndicator h = omega arith
of_kind-le c kinds.EmojiModifier h = omega arith
of_kind-le c kinds.Emoji h = omega arith
of_kind-le c kinds.Single h = single-le c h

low-le : (c : ℕ) → c < 0x800 → cell_width c ≤ len_utf8 c
unfolding char_width alone
low-le c h =
    let narrow : (of_kind false c (kind c)).0 ≤ 2 = of_kind-le c (kind c) (omega arith) in
    grind (arith, nat_tests)

high-le : (c : ℕ) → 0x800 ≤ c → cell_width c ≤ len_utf8 c
high-le c h =
    let most : cell_width c ≤ 3 = width_or_zero-le false c in
    let len : 3 ≤ len_utf8 c = grind (arith, nat_tests) in
    omega arith

-- a character takes no more cells than bytes
pub cell_width-le : (c : ℕ) → cell_width c ≤ len_utf8 c
cell_width-le c = elim (leb_tells 0x800 c) [ inl t ↦ high-le c t.1 | inr t ↦ low-le c t.1 ]

-- the bytes of a text, one character on
pub bytes_of-cons : (c : ℕ) (cs : List ℕ) → bytes_of (c ∷ cs) ≡ len_utf8 c + bytes_of cs
bytes_of-cons c cs = length-append (encode_utf8 c) (encode_utf8_all cs) ∙ ap (λ n. n + bytes_of cs) (length-encode c)

pub bytes_of-append : (xs ys : List ℕ) → bytes_of (xs ++ ys) ≡ bytes_of xs + bytes_of ys
bytes_of-append xs ys = ap length (encodes-append xs ys) ∙ length-append (encode_utf8_all xs) (encode_utf8_all ys)

-- a text takes no more cells than bytes
pub cells_of-le : (cs : List ℕ) → cells_of cs ≤ bytes_of cs
cells_of-le [] = omega arith
cells_of-le (c ∷ cs) =
    let few = cell_width-le c in
    let rest = cells_of-le cs in
    omega (arith, sum_by-cons cell_width c cs, bytes_of-cons c cs)

-- control characters and printable ones of ASCII
pub cell_width_low : (c : ℕ) → c < 32 → cell_width c ≡ 0
unfolding char_width
cell_width_low c h = grind (arith, nat_tests)

pub cell_width_high : (c : ℕ) → 127 ≤ c → c < 160 → cell_width c ≡ 0
unfolding char_width
cell_width_high c h l = grind (arith, nat_tests)

pub cell_width_printable : (c : ℕ) → 32 ≤ c → c < 127 → cell_width c ≡ 1
unfolding char_width
cell_width_printable c h l = grind (arith, nat_tests)
