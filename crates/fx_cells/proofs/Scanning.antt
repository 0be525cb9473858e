-- What is known of a text when its first i characters have been looked at.
-- Cited by the proofs of the wrapping.
use Rattle.std.proofs.Common.{◌≡◌, ℕ, ◌+◌, ◌-◌, ◌<◌, ◌≤◌, ◌⊎◌, cond, eqb, ltb, ◌&&◌, Option, Some, None, List, length, take, drop, get_or, suc, refl, sym, ap, subst, ◌∙◌, arith, inl, inr}
use Rattle.std.proofs.lemmas.Bool.Decides.{eqb_tells, leb_tells}
use Rattle.std.proofs.lemmas.List.{take-take, length-take-le, get_or_default, take_all}
use Rattle.std.proofs.lemmas.List.Sums.{sum_by_more, sum_by-take-le}
use Rattle.std.specs.Char.{len_utf8}
use Rattle.fx_cells.specs.Columns.{cell_width, cells_of}
use Rattle.fx_cells.specs.Wrapping.{IsBreak, IsFirstLine, bytes_of, leading_spaces}
use Rattle.fx_cells.specs.Wrapping.IsFirstLine.{whole, at_space, inside_word, too_wide}
use Rattle.fx_cells.proofs.Spaces.{bytes_of-take_more, bytes_of_some}

-- the last place below i where the text may be broken, in bytes
abbrev pub IsLastBreak : ℕ → List ℕ → ℕ → Option ℕ → Type 0
IsLastBreak n text i None = (k : ℕ) → k < i → ¬ IsBreak n text k
IsLastBreak n text i (Some place) = (m : ℕ) × (m < i) × (place ≡ bytes_of (take m text)) × IsBreak n text m × ((k : ℕ) → k < i → IsBreak n text k → k ≤ m)

-- the first i characters fit, and leave this room
pub record Scanned (n : ℕ) (text : List ℕ) (i room at : ℕ) (space : Option ℕ) : Type 0 where
  pub within : i ≤ length text
  pub spent : room + cells_of (take i text) ≡ n
  pub place : at ≡ bytes_of (take i text)
  pub last : IsLastBreak n text i space

abbrev pub space_after : ℕ → ℕ → Option ℕ → Option ℕ
space_after c at space = cond (eqb c 32 && ltb 0 at) (Some at) space

pub scanned_none : (n : ℕ) (text : List ℕ) → Scanned n text 0 n 0 None
scanned_none n text = record { within = omega arith; spent = omega arith; place = refl; last = λ k h b. omega arith }

-- the last break, one character on
last_break_here : (n : ℕ) (text : List ℕ) (i c at : ℕ) → (i < length text) × (c ≡ get_or text i c) → at ≡ bytes_of (take i text) → cells_of (take i text) ≤ n
    → c ≡ 32 → 0 < at → IsBreak n text i
last_break_here n text i c at h p l e a = record {
  some = elim (leb_tells 1 i) [ inl t ↦ t.1 | inr t ↦ absurd (let z : i ≡ 0 = omega arith in let b : at ≡ 0 = p ∙ ap (λ j. bytes_of (take j text)) z in omega arith) ];
  narrow = l;
  space = get_or_default text i 0 c h.0 ∙ sym h.1 ∙ e;
}

-- a break at i tells what stands there
break_tells : (n : ℕ) (text : List ℕ) (i c at : ℕ) → (i < length text) × (c ≡ get_or text i c) → at ≡ bytes_of (take i text) → IsBreak n text i → (c ≡ 32) × (0 < at)
break_tells n text i c at h p b = (
  h.1 ∙ get_or_default text i c 0 h.0 ∙ b.space,
  let l : length (take i text) ≡ i = length-take-le i text (omega arith) in
      let some : 0 < bytes_of (take i text) = bytes_of_some (take i text) (let o : 0 < i = b.some in omega arith) in
      omega arith,
)

below_or_here : (k i : ℕ) → k < i + 1 → (k < i) ⊎ (k ≡ i)
below_or_here k i h = elim (leb_tells (suc k) i) [ inl t ↦ inl t.1 | inr t ↦ inr (omega arith) ]

kept_break : (n : ℕ) (text : List ℕ) (i : ℕ) (space : Option ℕ) → IsLastBreak n text i space → ¬ IsBreak n text i → IsLastBreak n text (i + 1) space
kept_break n text i None last not_here = λ k h b. elim (below_or_here k i h) [ inl l ↦ last k l b | inr e ↦ not_here (subst (λ j. IsBreak n text j) e b) ]
kept_break n text i (Some place) last not_here = (
  last.0,
  (let b : last.0 < i = last.1 in omega arith),
  last.2,
  last.3,
  λ k h b. elim (below_or_here k i h) [ inl l ↦ last.4 k l b | inr e ↦ absurd (not_here (subst (λ j. IsBreak n text j) e b)) ],
)

pub last_break_more : (n : ℕ) (text : List ℕ) (i c at : ℕ) (space : Option ℕ) → (i < length text) × (c ≡ get_or text i c) → at ≡ bytes_of (take i text) → cells_of (take i text) ≤ n
    → IsLastBreak n text i space → IsLastBreak n text (i + 1) (space_after c at space)
last_break_more n text i c at space h p l last = elim (eqb_tells c 32) [
  | inl t ↦ elim (leb_tells 1 at) [
    | inl a ↦ rw (t.0, a.0) (i, (omega arith), p, last_break_here n text i c at h p l t.1 a.1, λ k h b. omega arith)
    | inr a ↦ rw (t.0, a.0) (kept_break n text i space last (λ b. let z = (break_tells n text i c at h p b).1 in omega arith))
  ]
  | inr t ↦ rw t.0 (kept_break n text i space last (λ b. t.1 (break_tells n text i c at h p b).0))
]

-- one character on, where it fits
pub scanned_more : (n : ℕ) (text : List ℕ) (i room at c : ℕ) (space : Option ℕ) → (i < length text) × (c ≡ get_or text i c) → Scanned n text i room at space → cell_width c ≤ room
    → Scanned n text (i + 1) (room - cell_width c) (at + len_utf8 c) (space_after c at space)
scanned_more n text i room at c space h s fits =
    let more : cells_of (take (i + 1) text) ≡ cells_of (take i text) + cell_width c = sum_by_more cell_width text i c h.0 ∙ ap (λ x. cells_of (take i text) + cell_width x) (sym h.1) in
    let spent = s.spent in
    record {
      within = omega (arith, h.0);
      spent = omega arith;
      place = ap (λ x. x + len_utf8 c) s.place ∙ sym (bytes_of-take_more text i c h);
      last = last_break_more n text i c at space h s.place (omega arith) s.last;
    }

-- the same, as the code has it
pub scanned_step : (n : ℕ) (text : List ℕ) (i room at c : ℕ) (space : Option ℕ) → (i < length text) × (c ≡ get_or text i c) → Scanned n text i room at space → cell_width c ≤ room
    → (j width len : ℕ) (after : Option ℕ) → j ≡ i + 1 → width ≡ cell_width c → len ≡ len_utf8 c → after ≡ space_after c at space → Scanned n text j (room - width) (at + len) after
scanned_step n text i room at c space h s fits j width len after e w l a =
    subst (λ x. Scanned n text x (room - width) (at + len) after) (sym e)
    (subst (λ x. Scanned n text (i + 1) (room - x) (at + len) after) (sym w)
    (subst (λ x. Scanned n text (i + 1) (room - cell_width c) (at + x) after) (sym l)
    (subst (λ x. Scanned n text (i + 1) (room - cell_width c) (at + len_utf8 c) x) (sym a) (scanned_more n text i room at c space h s fits))))

-- no more than the first i characters fit, where the next one doesn't
too_long : (n : ℕ) (text : List ℕ) (i room c k : ℕ) → (i < length text) × (c ≡ get_or text i c) → room + cells_of (take i text) ≡ n → room < cell_width c → i < k → n < cells_of (take k text)
too_long n text i room c k h spent wide l =
    let more : cells_of (take (i + 1) text) ≡ cells_of (take i text) + cell_width c = sum_by_more cell_width text i c h.0 ∙ ap (λ x. cells_of (take i text) + cell_width x) (sym h.1) in
    let part : take (i + 1) (take k text) ≡ take (i + 1) text = take-take (i + 1) k text (omega arith) in
    let some : cells_of (take (i + 1) (take k text)) ≤ cells_of (take k text) = sum_by-take-le cell_width (take k text) (i + 1) in
    let some' = rw part at some in
    omega arith

wide_text : (n : ℕ) (text : List ℕ) (i room c : ℕ) → (i < length text) × (c ≡ get_or text i c) → room + cells_of (take i text) ≡ n → room < cell_width c → n < cells_of text
wide_text n text i room c h spent wide = subst (λ t. n < cells_of t) (take_all (length text) text (omega arith)) (too_long n text i room c (length text) h spent wide h.0)

-- a front that has at most n cells ends at i at the latest
not_past : (n : ℕ) (text : List ℕ) (i room c k : ℕ) → (i < length text) × (c ≡ get_or text i c) → room + cells_of (take i text) ≡ n → room < cell_width c → cells_of (take k text) ≤ n → k ≤ i
not_past n text i room c k h spent wide narrow = elim (leb_tells k i) [ inl t ↦ t.1 | inr t ↦ absurd (let l = too_long n text i room c k h spent wide t.1 in omega arith) ]

-- the first line where the character at i does not fit
pub line_at_space : (n : ℕ) (text : List ℕ) (i room at c place : ℕ) (space : Option ℕ) → (i < length text) × (c ≡ get_or text i c) → Scanned n text i room at space → room < cell_width c
    → space_after c at space ≡ Some place → (m : ℕ) × IsFirstLine n text m (leading_spaces (drop m text)) × (place ≡ bytes_of (take m text))
line_at_space n text i room at c place space h s wide e =
    let spent = s.spent in
    let last = subst (λ o. IsLastBreak n text (i + 1) o) e (last_break_more n text i c at space h s.place (omega arith) s.last) in (
      last.0,
      at_space (wide_text n text i room c h s.spent wide)
          (record { holds = last.3; greatest = λ k b. last.4 k (let l = not_past n text i room c k h s.spent wide b.narrow in omega arith) b })
          refl,
      last.2,
    )

no_break : (n : ℕ) (text : List ℕ) (i room at c : ℕ) (space : Option ℕ) → (i < length text) × (c ≡ get_or text i c) → Scanned n text i room at space → room < cell_width c
    → space_after c at space ≡ None → (k : ℕ) → ¬ IsBreak n text k
no_break n text i room at c space h s wide e =
    let spent = s.spent in
    let last = subst (λ o. IsLastBreak n text (i + 1) o) e (last_break_more n text i c at space h s.place (omega arith) s.last) in
    λ k b. last k (let l = not_past n text i room c k h s.spent wide b.narrow in omega arith) b

pub line_inside_word : (n : ℕ) (text : List ℕ) (i room at c : ℕ) (space : Option ℕ) → (i < length text) × (c ≡ get_or text i c) → Scanned n text i room at space → room < cell_width c
    → space_after c at space ≡ None → 0 < at → IsFirstLine n text i 0
line_inside_word n text i room at c space h s wide e some =
    let spent = s.spent in
    let place = s.place in
    inside_word (wide_text n text i room c h s.spent wide) (no_break n text i room at c space h s wide e)
    (record {
      holds = record {
        some = elim (leb_tells 1 i) [ inl t ↦ t.1 | inr t ↦ absurd (let z : i ≡ 0 = omega arith in let b : at ≡ 0 = s.place ∙ ap (λ j. bytes_of (take j text)) z in omega arith) ];
        within = s.within;
        narrow = omega arith;
      };
      greatest = λ k f. not_past n text i room c k h s.spent wide f.narrow;
    })
    refl

pub line_too_wide : (n : ℕ) (text : List ℕ) (i room at c : ℕ) (space : Option ℕ) → (i < length text) × (c ≡ get_or text i c) → Scanned n text i room at space → room < cell_width c
    → space_after c at space ≡ None → at ≡ 0 → IsFirstLine n text 1 0 × (bytes_of (take 1 text) ≡ len_utf8 c)
line_too_wide n text i room at c space h s wide e none =
    let none_before : i ≡ 0 = elim (leb_tells 1 i) [ inl t ↦ absurd (let l : length (take i text) ≡ i = length-take-le i text s.within in let b = bytes_of_some (take i text) (omega arith) in let p = s.place in omega arith) | inr t ↦ omega arith ] in (
      too_wide (wide_text n text i room c h s.spent wide) (no_break n text i room at c space h s wide e)
          (λ k f. let l = not_past n text i room c k h s.spent wide f.narrow in let o = f.some in omega arith)
          refl refl,
      ap (λ j. bytes_of (take (j + 1) text)) (sym none_before) ∙ bytes_of-take_more text i c h ∙ ap (λ j. bytes_of (take j text) + len_utf8 c) none_before ∙ omega arith,
    )

-- a text that fits is one line
pub line_whole : (n : ℕ) (text : List ℕ) (room at : ℕ) (space : Option ℕ) → Scanned n text (length text) room at space → IsFirstLine n text (length text) 0
line_whole n text room at space s =
    let long : length text ≤ length text = omega arith in
    let spent = rw take_all at s.spent in
    whole (omega arith) refl refl
