-- A text has no more characters than bytes, zeros behind a text are ASCII, and texts are one where their rooms are.
use Rattle.std.proofs.Common.{◌≡◌, ◌∙◌, ℕ, zero, suc, ◌≤◌, ◌-◌, ◌↔◌, List, ◌++◌, length, take, drop, replicate, ap, sym, subst, arith, length-take-le, take-append-drop}
use Rattle.std.specs.Str.{chars, IsUtf8, IsAscii}
use Rattle.std.proofs.lemmas.Str.{length-le-encodes, encodes-chars, IsAscii-take, IsAscii-drop, IsAscii-append}
use Rattle.std.proofs.lemmas.Str.Ascii.{IsAscii-nil, IsAscii-cons}
use Rattle.std.proofs.Math.Seq.{take-append_seam}
use lib.Utf8.{encodes}

pub length-chars-le : (bs : List ℕ) → IsUtf8 bs → length (chars bs) ≤ length bs
length-chars-le bs u =
    let fewer : length (chars bs) ≤ length (encodes (chars bs)) = length-le-encodes (chars bs) in
    let same : length (encodes (chars bs)) ≡ length bs = ap length (encodes-chars bs u) in
    omega arith

-- what holds a text of few bytes holds few characters
pub chars-few : (held bs : List ℕ) → held ≡ bs → IsUtf8 bs → length bs ≤ 4096 → length (chars held) ≤ 4096
chars-few held bs same u few = rw same (let fewer = length-chars-le bs u in omega arith)

IsAscii-zeros : (n : ℕ) → IsAscii (replicate n 0)
IsAscii-zeros zero = IsAscii-nil
IsAscii-zeros (suc n) = IsAscii-cons 0 (replicate n 0) (omega arith) (IsAscii-zeros n)

-- whatever is ASCII in a room that is filled with zeros
pub IsAscii-before_zeros : (bs : List ℕ) (n room : ℕ) → IsAscii (bs ++ drop n (replicate room 0)) ↔ IsAscii bs
IsAscii-before_zeros bs n room =
    let zeros : List ℕ = drop n (replicate room 0) in (
      (λ whole. subst IsAscii (take-append_seam bs zeros) (IsAscii-take (bs ++ zeros) (length bs) whole)),
      (λ front. IsAscii-append bs zeros front (IsAscii-drop (replicate room 0) n (IsAscii-zeros room))),
    )

-- two texts with zeros behind them that fill rooms of one size
pub same_rooms : (room n m : ℕ) (xs ys : List ℕ) → n ≤ length xs → m ≤ length ys
    → drop n xs ≡ replicate (room - n) 0 → drop m ys ≡ replicate (room - m) 0
    → take n xs ≡ take m ys → (n ≡ m) × (xs ≡ ys)
same_rooms room n m xs ys low high behind after same =
    let long : n ≡ m = sym (length-take-le n xs low) ∙ ap length same ∙ length-take-le m ys high in
    let zeros : drop n xs ≡ drop m ys = behind ∙ ap (λ k. replicate (room - k) 0) long ∙ sym after in
    (long, sym (take-append-drop n xs) ∙ ap (λ bs. bs ++ drop n xs) same ∙ ap (λ bs. take m ys ++ bs) zeros ∙ take-append-drop m ys)
