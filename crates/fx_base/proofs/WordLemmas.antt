-- Words of bytes are one where their bytes are.
use Rattle.std.proofs.Common.{◌≡◌, ℕ, zero, suc, ◌+◌, ◌*◌, ◌<◌, ◌≤◌, inl, inr, List, length, get_or, ap, sym, ◌∙◌, arith, ext_get_or}
use Rattle.std.proofs.lemmas.Bool.{cases_lt}
use Rattle.fx_base.specs.Words.{word_of}

abbrev AreBytes : (ℕ → ℕ) → Type 0
AreBytes bytes = (at : ℕ) → bytes at < 256

-- two numbers that are one have one remainder and one quotient
parted : (x y v w : ℕ) → x < 256 → y < 256 → x + 256 * v ≡ y + 256 * w → (x ≡ y) × (v ≡ w)
parted x y v w less fewer same = (omega (arith, less, fewer, same), omega (arith, less, fewer, same))

same_bytes : (count : ℕ) (bytes others : ℕ → ℕ) (from : ℕ) → AreBytes bytes → AreBytes others
    → word_of count bytes from ≡ word_of count others from
    → (at : ℕ) → from ≤ at → at < from + count → bytes at ≡ others at
same_bytes zero bytes others from small few same at high low = absurd (omega (arith, high, low))
same_bytes (suc count) bytes others from small few same at high low =
    let both = parted (bytes from) (others from) (word_of count bytes (from + 1)) (word_of count others (from + 1))
    (small from) (few from) same in
    elim (cases_lt from at) [
      | inl behind ↦ same_bytes count bytes others (from + 1) small few both.1 at (omega (arith, behind)) (omega (arith, low))
      | inr here ↦
          (let one : at ≡ from = omega (arith, high, here) in
          ap bytes one ∙ both.0 ∙ ap others (sym one))
    ]

-- rooms of thirty bytes are one where their four words are
pub same_words : (xs ys : List ℕ) → length xs ≡ 30 → length ys ≡ 30
    → AreBytes (λ at. get_or xs at 0) → AreBytes (λ at. get_or ys at 0)
    → word_of 8 (λ at. get_or xs at 0) 0 ≡ word_of 8 (λ at. get_or ys at 0) 0
    → word_of 8 (λ at. get_or xs at 0) 8 ≡ word_of 8 (λ at. get_or ys at 0) 8
    → word_of 8 (λ at. get_or xs at 0) 16 ≡ word_of 8 (λ at. get_or ys at 0) 16
    → word_of 8 (λ at. get_or xs at 0) 22 ≡ word_of 8 (λ at. get_or ys at 0) 22 → xs ≡ ys
same_words xs ys long also small few first second third last =
    let x : ℕ → ℕ = λ at. get_or xs at 0 in
    let y : ℕ → ℕ = λ at. get_or ys at 0 in
    ext_get_or 0 xs ys (long ∙ sym also) (λ k h.
    elim (cases_lt k 8) [
      | inl a ↦ same_bytes 8 x y 0 small few first k (omega arith) (omega (arith, a))
      | inr a ↦ elim (cases_lt k 16) [
        | inl b ↦ same_bytes 8 x y 8 small few second k (omega (arith, a)) (omega (arith, b))
        | inr b ↦ elim (cases_lt k 24) [
          | inl c ↦ same_bytes 8 x y 16 small few third k (omega (arith, b)) (omega (arith, c))
          | inr c ↦ same_bytes 8 x y 22 small few last k (omega (arith, c)) (omega (arith, h, long))
        ]
      ]
    ])
