-- Each line of a text that wraps stands between characters, and is narrow.
-- Cited by the proofs of the wrapping.
use Rattle.std.proofs.Common.{◌≡◌, ℕ, ◌+◌, ◌-◌, ◌<◌, ◌≤◌, ◌⊎◌, List, [], ◌∷◌, length, take, drop, refl, sym, ap, subst, ◌∙◌, arith, inl, inr}
use Rattle.std.proofs.lemmas.List.{take_all, drop-drop, take-append-drop, take_at, length-take}
use Rattle.std.proofs.lemmas.List.Elements.{All-nil, All-cons}
use Rattle.std.proofs.lemmas.Str.{encodes-chars, scalars-chars, chars-encodes, encodes-append, IsCharBoundary-from_drop}
use Rattle.std.specs.Prelude.{All, slice_range, encode_utf8_all}
use Rattle.std.specs.Str.{chars, IsUtf8, IsCharBoundary}
use Rattle.fx_cells.specs.Columns.{cells_of}
use Rattle.fx_cells.specs.Wrapping.{IsFirstLine, AreLines, IsWrapping, IsLine, bytes_of}
use Rattle.fx_cells.specs.Wrapping.IsFirstLine.{whole, at_space, inside_word, too_wide}
use Rattle.fx_cells.proofs.Widths.{bytes_of-append}
use Rattle.fx_cells.proofs.Spaces.{rest_of, drop_bytes, take-add, scalars-drop, scalars-take}

wide_some : (n : ℕ) (text : List ℕ) → n < cells_of text → 0 < length text
wide_some n [] h = absurd (omega arith)
wide_some n (c ∷ cs) h = omega arith

-- the first line has at most n cells, or is one character
narrow_first : (n : ℕ) (text : List ℕ) (m k : ℕ) → IsFirstLine n text m k → (cells_of (take m text) ≤ n) ⊎ (length (take m text) ≡ 1)
narrow_first n text m k (whole narrow all none) =
    let long : length text ≤ m = omega arith in
    inl (rw take_all narrow)
narrow_first n text m k (at_space wide last spaces) = inl last.holds.narrow
narrow_first n text m k (inside_word wide apart last none) = inl last.holds.narrow
narrow_first n text m k (too_wide wide apart short one none) =
    let some = wide_some n text wide in
    inr (rw length-take (omega arith))

-- the line in the bytes of the whole
line_bytes : (whole_text : List ℕ) (j m : ℕ) → take (bytes_of (take m (drop j whole_text))) (drop (bytes_of (take j whole_text)) (encode_utf8_all whole_text)) ≡ encode_utf8_all (take m (drop j whole_text))
line_bytes cs j m =
    let t = drop j cs in
    ap (λ x. take (bytes_of (take m t)) x) (drop_bytes j cs ∙ ap encode_utf8_all (sym (take-append-drop m t)) ∙ encodes-append (take m t) (drop m t))
    ∙ take_at (encode_utf8_all (take m t)) (encode_utf8_all (drop m t)) (bytes_of (take m t)) refl

bytes_of-take-drop_add : (cs : List ℕ) (j m : ℕ) → bytes_of (take j cs) + bytes_of (take m (drop j cs)) ≡ bytes_of (take (j + m) cs)
bytes_of-take-drop_add cs j m = sym (bytes_of-append (take j cs) (take m (drop j cs))) ∙ ap bytes_of (sym (take-add j m cs))

-- a place behind some characters stands between characters
boundary : (bs : List ℕ) (i place : ℕ) → IsUtf8 bs → place ≡ bytes_of (take i (chars bs)) → IsCharBoundary bs place
boundary bs i place u e = let r = rest_of bs i place u e in IsCharBoundary-from_drop bs place r.within r.text

is_line : (n : ℕ) (bs : List ℕ) (j m k : ℕ) → IsUtf8 bs → IsFirstLine n (drop j (chars bs)) m k
    → IsLine n bs (bytes_of (take j (chars bs)), bytes_of (take j (chars bs)) + bytes_of (take m (drop j (chars bs))))
is_line n bs j m k u first =
    let cs = chars bs in
    let a = bytes_of (take j cs) in
    let w = bytes_of (take m (drop j cs)) in
    let width : a + w - a ≡ w = omega arith in
    let line : chars (slice_range bs a (a + w)) ≡ take m (drop j cs) =
    ap (λ x. chars (take x (drop a bs))) width
    ∙ ap (λ x. chars (take w (drop a x))) (sym (encodes-chars bs u))
    ∙ ap chars (line_bytes cs j m)
    ∙ chars-encodes (take m (drop j cs)) (scalars-take m (drop j cs) (scalars-drop j cs (scalars-chars bs u))) in
    record {
      order = omega arith;
      start = boundary bs j a u refl;
      end = boundary bs (j + m) (a + w) u (bytes_of-take-drop_add cs j m);
      narrow = subst (λ t. (cells_of t ≤ n) ⊎ (length t ≡ 1)) (sym line) (narrow_first n (drop j cs) m k first);
    }

lines_in : (n : ℕ) (bs : List ℕ) (j at : ℕ) (text : List ℕ) (ranges : List (ℕ × ℕ)) → IsUtf8 bs → text ≡ drop j (chars bs) → at ≡ bytes_of (take j (chars bs)) → AreLines n at text ranges → All (IsLine n bs) ranges
lines_in n bs j at text [] u t a l = absurd l
lines_in n bs j at text (range ∷ ranges) u t a l =
    let cs = chars bs in
    let m = l.0 in
    let k = l.1 in
    let place : range ≡ (bytes_of (take j cs), bytes_of (take j cs) + bytes_of (take m (drop j cs))) =
    l.2.place ∙ ap (λ x. (x, x + bytes_of (take m text))) a ∙ ap (λ x. (bytes_of (take j cs), bytes_of (take j cs) + bytes_of (take m x))) t in
    let first = subst (λ x. IsFirstLine n x m k) t l.2.first in
    All-cons (IsLine n bs) range ranges (subst (λ r. IsLine n bs r) (sym place) (is_line n bs j m k u first))
    (elim l.3 [
      | inl p ↦ subst (λ rs. All (IsLine n bs) rs) (sym p.1) (All-nil (IsLine n bs))
      | inr p ↦ lines_in n bs (j + (m + k)) (at + bytes_of (take (m + k) text)) (drop (m + k) text) ranges u
          (ap (λ x. drop (m + k) x) t ∙ drop-drop (m + k) j cs)
          (ap (λ x. x + bytes_of (take (m + k) text)) a ∙ ap (λ x. bytes_of (take j cs) + bytes_of (take (m + k) x)) t ∙ bytes_of-take-drop_add cs j (m + k))
          p.1
    ])

pub all_lines : (n : ℕ) (bs : List ℕ) (ranges : List (ℕ × ℕ)) → IsUtf8 bs → IsWrapping n (chars bs) ranges → All (IsLine n bs) ranges
all_lines n bs ranges u l = lines_in n bs 0 0 (chars bs) ranges u refl refl l
