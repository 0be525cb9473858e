-- How many lines a text has.
-- Cited by the laws.
use Rattle.std.proofs.Common.{◌≡◌, ℕ, ◌+◌, ◌≤◌, List, [], ◌∷◌, length, take, drop, ap, refl, sym, ◌∙◌, arith, inl, inr}
use Rattle.std.proofs.lemmas.List.{length-drop}
use Rattle.fx_cells.specs.Columns.{cells_of}
use Rattle.fx_cells.specs.Wrapping.{IsFirstLine, AreLines, IsWrapping, bytes_of}
use Rattle.fx_cells.specs.Wrapping.IsFirstLine.{whole, at_space, inside_word, too_wide}
use Rattle.fx_cells.proofs.Cutting.{one_wrapping_of}
use Rattle.fx_cells_laws.specs.Lines.{HasLines}
use Rattle.fx_cells_laws.proofs.Existing.{left_less, lines_of}

pub wraps : (n : ℕ) (text : List ℕ) → (ranges : List (ℕ × ℕ)) × IsWrapping n text ranges
wraps n text = lines_of n (length text) 0 text (omega arith)

pub counted : (n : ℕ) (text : List ℕ) → (lines : ℕ) × HasLines n text lines
counted n text = let w = wraps n text in (length w.0, record { ranges = w.0; wraps = w.1; many = refl })

pub one_count : (n : ℕ) (text : List ℕ) (a b : ℕ) → HasLines n text a → HasLines n text b → a ≡ b
one_count n text a b h i = h.many ∙ ap length (one_wrapping_of n text h.ranges i.ranges h.wraps i.wraps) ∙ sym i.many

some_line : (n at : ℕ) (text : List ℕ) (ranges : List (ℕ × ℕ)) → AreLines n at text ranges → 1 ≤ length ranges
some_line n at text [] l = absurd l
some_line n at text (r ∷ rs) l = omega arith

pub least_line : (n : ℕ) (text : List ℕ) (lines : ℕ) → HasLines n text lines → 1 ≤ lines
least_line n text lines h = let l = some_line n 0 text h.ranges h.wraps in let m = h.many in omega (arith, l, m)

-- each line has a character
few : (n at : ℕ) (text : List ℕ) (ranges : List (ℕ × ℕ)) → AreLines n at text ranges → 1 ≤ length text → length ranges ≤ length text
few n at text [] l some = absurd l
few n at text (r ∷ rs) l some = elim (l.3) [
  | inl p ↦ let none : length rs ≡ 0 = ap length p.1 in omega (arith, none, some)
  | inr p ↦
      let less = left_less n text l.0 l.1 l.2.first p.0 in
      let rest = few n (at + bytes_of (take (l.0 + l.1) text)) (drop (l.0 + l.1) text) rs p.1 p.0 in
      omega (arith, less, rest)
]

pub most_lines : (n : ℕ) (text : List ℕ) (lines : ℕ) → HasLines n text lines → 1 ≤ length text → lines ≤ length text
most_lines n text lines h some = let l = few n 0 text h.ranges h.wraps some in let m = h.many in omega (arith, l, m)

-- a text that fits is one line
all_of_it : (n : ℕ) (text : List ℕ) (m k : ℕ) → IsFirstLine n text m k → cells_of text ≤ n → length text ≤ m
all_of_it n text m k (whole narrow all none) h = omega arith
all_of_it n text m k (at_space wide last spaces) h = absurd (omega arith)
all_of_it n text m k (inside_word wide apart last none) h = absurd (omega arith)
all_of_it n text m k (too_wide wide apart short one none) h = absurd (omega arith)

alone : (n at : ℕ) (text : List ℕ) (ranges : List (ℕ × ℕ)) → AreLines n at text ranges → cells_of text ≤ n → length ranges ≡ 1
alone n at text [] l fits = absurd l
alone n at text (r ∷ rs) l fits = elim (l.3) [
  | inl p ↦ let none : length rs ≡ 0 = ap length p.1 in omega (arith, none)
  | inr p ↦ absurd (
      let all = all_of_it n text l.0 l.1 l.2.first fits in
      let left = length-drop (l.0 + l.1) text in
      omega (arith, all, left, p.0))
]

pub fitting_line : (n : ℕ) (text : List ℕ) (lines : ℕ) → HasLines n text lines → cells_of text ≤ n → lines ≡ 1
fitting_line n text lines h fits = h.many ∙ alone n 0 text h.ranges h.wraps fits
