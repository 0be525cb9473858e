-- A piece of a text has no more characters than the text.
use Rattle.std.proofs.Common.{◌≡◌, ◌≤◌, ◌+◌, ◌-◌, ℕ, List, length, take, drop, sym, ap, ◌∙◌, arith, length-append}
use Rattle.std.specs.Prelude.{slice_range}
use Rattle.std.specs.Str.{chars, IsUtf8, IsCharBoundary}
use Rattle.std.proofs.lemmas.List.{take-append-drop}
use Rattle.std.proofs.lemmas.Str.{IsUtf8-take, IsUtf8-between, chars-append}

parts_of : (bs : List ℕ) (i : ℕ) → IsUtf8 (take i bs) → length (chars bs) ≡ length (chars (take i bs)) + length (chars (drop i bs))
parts_of bs i u =
    ap (λ (x : List ℕ). length (chars x)) (sym (take-append-drop i bs))
    ∙ ap length (chars-append (take i bs) (drop i bs) u)
    ∙ length-append (chars (take i bs)) (chars (drop i bs))

pub few_chars : (bs : List ℕ) (i j : ℕ) → IsUtf8 bs → i ≤ j → IsCharBoundary bs i → IsCharBoundary bs j
    → length (chars (slice_range bs i j)) ≤ length (chars bs)
few_chars bs i j u h a b =
    let front = parts_of bs i (IsUtf8-take bs i u a) in
    let back = parts_of (drop i bs) (j - i) (IsUtf8-between bs i j u h a b) in
    omega (arith, front, back)
