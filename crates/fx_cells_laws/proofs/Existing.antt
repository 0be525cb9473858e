-- Each text has a first line, and what is left of it has lines.
-- Cited by the laws.
use Rattle.std.proofs.Common.{◌≡◌, ℕ, zero, suc, ◌+◌, ◌-◌, ◌<◌, ◌≤◌, Option, Some, None, List, [], ◌∷◌, length, take, drop, get_or, refl, subst, arith, inl, inr}
use Rattle.std.proofs.lemmas.Bool.Decides.{leb_tells}
use Rattle.std.proofs.lemmas.List.{length-drop, nil_from_length, get_or_default}
use Rattle.std.specs.Char.{len_utf8}
use Rattle.fx_cells.specs.Columns.{cell_width}
use Rattle.fx_cells.specs.Wrapping.{IsFirstLine, AreLines, bytes_of, leading_spaces}
use Rattle.fx_cells.specs.Wrapping.IsFirstLine.{whole, at_space, inside_word, too_wide}
use Rattle.fx_cells.proofs.Scanning.{Scanned, space_after, scanned_none, scanned_more, line_at_space, line_inside_word, line_too_wide, line_whole}

-- the first line where the character at i does not fit
stopped : (n : ℕ) (text : List ℕ) (i room at c : ℕ) (space after : Option ℕ) → (i < length text) × (c ≡ get_or text i c) → Scanned n text i room at space → room < cell_width c → space_after c at space ≡ after
    → (m : ℕ) × (k : ℕ) × IsFirstLine n text m k
stopped n text i room at c space (Some place) h s wide e =
    let line = line_at_space n text i room at c place space h s wide e in (line.0, leading_spaces (drop line.0 text), line.1)
stopped n text i room at c space None h s wide e = elim (leb_tells 1 at) [
  | inl t ↦ (i, 0, line_inside_word n text i room at c space h s wide e t.1)
  | inr t ↦ (1, 0, (line_too_wide n text i room at c space h s wide e (omega (arith, t.1))).0)
]

-- the first line, where the first i characters fit
scan : (n : ℕ) (text : List ℕ) (left i room at : ℕ) (space : Option ℕ) → i + left ≡ length text → Scanned n text i room at space → (m : ℕ) × (k : ℕ) × IsFirstLine n text m k
scan n text zero i room at space e s =
    (length text, 0, line_whole n text room at space (subst (λ j. Scanned n text j room at space) (omega (arith, e)) s))
scan n text (suc left) i room at space e s =
    let within : i < length text = omega (arith, e) in
    let c : ℕ = get_or text i 0 in
    let h : (i < length text) × (c ≡ get_or text i c) = (within, get_or_default text i 0 c within) in
    elim (leb_tells (cell_width c) room) [
      | inl t ↦ scan n text left (i + 1) (room - cell_width c) (at + len_utf8 c) (space_after c at space) (omega (arith, e)) (scanned_more n text i room at c space h s t.1)
      | inr t ↦ stopped n text i room at c space (space_after c at space) h s t.1 refl
    ]

pub first_line_of : (n : ℕ) (text : List ℕ) → (m : ℕ) × (k : ℕ) × IsFirstLine n text m k
first_line_of n text = scan n text (length text) 0 n 0 None (omega arith) (scanned_none n text)

-- the first line of a text that isn't empty has some character
pub first_some : (n : ℕ) (text : List ℕ) (m k : ℕ) → IsFirstLine n text m k → 0 < length text → 0 < m
first_some n text m k (whole narrow all none) h = omega arith
first_some n text m k (at_space wide last spaces) h = last.holds.some
first_some n text m k (inside_word wide apart last none) h = last.holds.some
first_some n text m k (too_wide wide apart short one none) h = omega arith

-- so less is left of it
pub left_less : (n : ℕ) (text : List ℕ) (m k : ℕ) → IsFirstLine n text m k → 0 < length (drop (m + k) text) → length (drop (m + k) text) < length text
left_less n text m k first h =
    let l : length (drop (m + k) text) ≡ length text - (m + k) = length-drop (m + k) text in
    let some : 0 < length text = omega (arith, l, h) in
    let one = first_some n text m k first some in
    omega (arith, l, one, some)

-- a first line before the lines of what is left
before : (n at : ℕ) (text : List ℕ) (m k : ℕ) → IsFirstLine n text m k
    → (0 < length (drop (m + k) text) → (ranges : List (ℕ × ℕ)) × AreLines n (at + bytes_of (take (m + k) text)) (drop (m + k) text) ranges)
    → (ranges : List (ℕ × ℕ)) × AreLines n at text ranges
before n at text m k first more = elim (leb_tells 1 (length (drop (m + k) text))) [
  | inl t ↦ let rest = more t.1 in ((at, at + bytes_of (take m text)) ∷ rest.0, (m, k, record { first = first; place = refl }, inr (t.1, rest.1)))
  | inr t ↦ ((at, at + bytes_of (take m text)) ∷ [], (m, k, record { first = first; place = refl }, inl (nil_from_length (drop (m + k) text) (omega (arith, t.1)), refl)))
]

-- a text of at most so many characters wraps
pub lines_of : (n left at : ℕ) (text : List ℕ) → length text ≤ left → (ranges : List (ℕ × ℕ)) × AreLines n at text ranges
lines_of n zero at text e =
    let f = first_line_of n text in
    before n at text f.0 f.1 f.2 (λ h. absurd (let l = left_less n text f.0 f.1 f.2 h in omega (arith, l, e)))
lines_of n (suc left) at text e =
    let f = first_line_of n text in
    before n at text f.0 f.1 f.2 (λ h. lines_of n left (at + bytes_of (take (f.0 + f.1) text)) (drop (f.0 + f.1) text) (let l = left_less n text f.0 f.1 f.2 h in omega (arith, l, e)))
