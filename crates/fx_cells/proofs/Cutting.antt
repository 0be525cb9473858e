-- What a cut behind the first line leaves, and that a text has one wrapping.
-- Cited by the proofs of the wrapping.
use Rattle.std.proofs.Common.{◌≡◌, ℕ, ◌+◌, ◌<◌, ◌≤◌, ◌⊎◌, eqb, Option, Some, None, List, [], ◌∷◌, ◌++◌, length, take, drop, get_or, refl, sym, ap, subst, ◌∙◌, arith, inl, inr, append_assoc}
use Rattle.std.proofs.lemmas.Bool.Decides.{leb_tells}
use Rattle.std.proofs.lemmas.List.{length-drop, length-take, nil_from_length}
use Rattle.std.proofs.lemmas.Str.{encodes-chars, length-le-encodes}
use Rattle.std.specs.Prelude.{encode_utf8_all, IfSome, IfNone}
use Rattle.std.specs.Char.{len_utf8}
use Rattle.std.specs.List.{prefix_len}
use Rattle.std.specs.Str.{chars, IsUtf8}
use Rattle.fx_cells.specs.declared.wrapping.Cut.{Cut}
use Rattle.fx_cells.specs.Columns.{cell_width}
use Rattle.fx_cells.specs.Wrapping.{IsBreak, IsFitting, IsGreatest, IsFirstLine, CutsFirstLine, AreLines, IsWrapping, bytes_of, leading_spaces}
use Rattle.fx_cells.specs.Wrapping.IsFirstLine.{whole, at_space, inside_word, too_wide}
use Rattle.fx_cells.proofs.Spaces.{rest_of, drop_bytes, spaces_in_bytes, bytes_of_dropped, bytes_of-take-le, bytes_of-take-add, bytes_of_some, IsRest}
use Rattle.fx_cells.proofs.Scanning.{Scanned, space_after, last_break_more, line_at_space, line_inside_word, line_too_wide, line_whole}

-- the last place to break stands within the text
pub place_within : (n : ℕ) (text : List ℕ) (i room at c place : ℕ) (space : Option ℕ) → (i < length text) × (c ≡ get_or text i c) → Scanned n text i room at space
    → space_after c at space ≡ Some place → place ≤ bytes_of text
place_within n text i room at c place space h s e =
    let spent = s.spent in
    let last = subst (λ o. Rattle.fx_cells.proofs.Scanning.IsLastBreak n text (i + 1) o) e (last_break_more n text i c at space h s.place (omega arith) s.last) in
    let b = bytes_of-take-le last.0 text in
    let p = last.2 in
    omega arith

-- the cut where the character at i does not fit
pub cut_is : (n : ℕ) (bs : List ℕ) (i room at c : ℕ) (space after : Option ℕ) (cut : Cut) → encode_utf8_all (chars bs) ≡ bs → (i < length (chars bs)) × (c ≡ get_or (chars bs) i c)
    → Scanned n (chars bs) i room at space → room < cell_width c → after ≡ space_after c at space
    → IfSome after (λ end. cut ≡ record { end = end; next = end + prefix_len (λ b. eqb b 32) (drop end bs) })
    → IfNone after (0 < at → cut ≡ record { end = at; next = at })
    → IfNone after (at ≡ 0 → cut ≡ record { end = len_utf8 c; next = len_utf8 c })
    → (m : ℕ) × (k : ℕ) × CutsFirstLine n (chars bs) cut m k
cut_is n bs i room at c space (Some place) cut same h s wide e spaced within first =
    let text = chars bs in
    let line = line_at_space n text i room at c place space h s wide (sym e) in
    let m = line.0 in
    let b = bytes_of (take m text) in
    let next : place + prefix_len (λ x. eqb x 32) (drop place bs) ≡ bytes_of (take (m + leading_spaces (drop m text)) text) =
    ap (λ p. p + prefix_len (λ x. eqb x 32) (drop p bs)) line.2
    ∙ ap (λ x. b + prefix_len (λ y. eqb y 32) (drop b x)) (sym same)
    ∙ ap (λ x. b + prefix_len (λ y. eqb y 32) x) (drop_bytes m text)
    ∙ ap (λ k. b + k) (spaces_in_bytes (drop m text))
    ∙ sym (bytes_of_dropped m text) in
    (m, leading_spaces (drop m text), record { first = line.1; end = ap (λ (x : Cut). x.end) spaced ∙ line.2; next = ap (λ (x : Cut). x.next) spaced ∙ next })
cut_is n bs i room at c space None cut same h s wide e spaced within first =
    let text = chars bs in
    elim (leb_tells 1 at) [
      | inl t ↦ (
        i,
        0,
        record {
          first = line_inside_word n text i room at c space h s wide (sym e) t.1;
          end = ap (λ (x : Cut). x.end) (within t.1) ∙ s.place;
          next = ap (λ (x : Cut). x.next) (within t.1) ∙ s.place ∙ ap (λ j. bytes_of (take j text)) (let z : i ≡ i + 0 = omega arith in z);
        },
      )
      | inr t ↦
          let none : at ≡ 0 = omega arith in
          let line = line_too_wide n text i room at c space h s wide (sym e) none in (
            1,
            0,
            record {
              first = line.0;
              end = ap (λ (x : Cut). x.end) (first none) ∙ sym line.1;
              next = ap (λ (x : Cut). x.next) (first none) ∙ sym line.1;
            },
          )
    ]

-- the cut of a text that fits
pub cut_whole : (n : ℕ) (text : List ℕ) (i room at : ℕ) (space : Option ℕ) → i ≡ length text → Scanned n text i room at space
    → (m : ℕ) × (k : ℕ) × CutsFirstLine n text (record { end = at; next = at }) m k
cut_whole n text i room at space e s =
    let s' = subst (λ j. Scanned n text j room at space) e s in (
      length text,
      0,
      record {
        first = line_whole n text room at space s';
        end = s'.place;
        next = s'.place ∙ ap (λ j. bytes_of (take j text)) (let z : length text ≡ length text + 0 = omega arith in z);
      },
    )

-- the first line of a text that isn't empty has some character
first_some : (n : ℕ) (text : List ℕ) (m k : ℕ) → IsFirstLine n text m k → 0 < length text → 0 < m
first_some n text m k (whole narrow all none) h = omega arith
first_some n text m k (at_space wide last spaces) h = last.holds.some
first_some n text m k (inside_word wide apart last none) h = last.holds.some
first_some n text m k (too_wide wide apart short one none) h = omega arith

some_bytes : (n : ℕ) (bs text : List ℕ) (m k next : ℕ) → encode_utf8_all text ≡ bs → IsFirstLine n text m k → 0 < length bs → next ≡ bytes_of (take (m + k) text) → 0 < next
some_bytes n bs [] m k next same first h e = let l : 0 ≡ length bs = ap length same in absurd (omega arith)
some_bytes n bs (c ∷ cs) m k next same first h e =
    let some = first_some n (c ∷ cs) m k first (omega arith) in
    let b = bytes_of_some (take (m + k) (c ∷ cs)) (rw length-take (omega arith)) in
    omega arith

-- a cut in the bytes: it goes on, and leaves a text
pub record IsCut (bs : List ℕ) (cut : Cut) (m k : ℕ) : Type 0 where
  pub order : cut.end ≤ cut.next
  pub rest : IsRest bs (m + k) cut.next
  pub some : 0 < length bs → 0 < cut.next

pub cut_in : (n : ℕ) (bs : List ℕ) (cut : Cut) (m k : ℕ) → IsUtf8 bs → CutsFirstLine n (chars bs) cut m k → IsCut bs cut m k
cut_in n bs cut m k u c =
    let text = chars bs in
    let same : encode_utf8_all text ≡ bs = encodes-chars bs u in
    let end = c.end in
    let next = c.next in
    record {
      order = (let b = bytes_of-take-add m k text in omega arith);
      rest = rest_of bs (m + k) cut.next u c.next;
      some = λ h. some_bytes n bs text m k cut.next same c.first h c.next;
    }

-- characters are left exactly where bytes are
left_some : (bs : List ℕ) (i place : ℕ) → IsRest bs i place → place < length bs → 0 < length (drop i (chars bs))
left_some bs i place r h = some (drop i (chars bs)) (subst (λ n. 0 < n) (ap length r.bytes) (rw length-drop (omega arith)))
  where
    some : (cs : List ℕ) → 0 < bytes_of cs → 0 < length cs
    some [] h = h
    some (c ∷ cs) h = omega arith

left_none : (bs : List ℕ) (i place : ℕ) → IsRest bs i place → place ≡ length bs → drop i (chars bs) ≡ []
left_none bs i place r e =
    let b : length (drop place bs) ≡ bytes_of (drop i (chars bs)) = ap length r.bytes in
    let z : length (drop place bs) ≡ 0 = rw length-drop (omega arith) in
    let l : length (drop i (chars bs)) ≤ bytes_of (drop i (chars bs)) = length-le-encodes (drop i (chars bs)) in
    nil_from_length (drop i (chars bs)) (omega arith)

-- the rest of a text that wraps, of which the lines so far are known
pub record Wrapped (n : ℕ) (bs rest : List ℕ) (start : ℕ) (ranges : List (ℕ × ℕ)) : Type 0 where
  pub place : start + length rest ≡ length bs
  pub goes : (more : List (ℕ × ℕ)) → AreLines n start (chars rest) more → IsWrapping n (chars bs) (ranges ++ more)

pub wrapped_none : (n : ℕ) (bs : List ℕ) → Wrapped n bs bs 0 []
wrapped_none n bs = record { place = omega arith; goes = λ more l. l }

-- one line on
pub wrapped_more : (n : ℕ) (bs rest : List ℕ) (start : ℕ) (ranges : List (ℕ × ℕ)) (cut : Cut) (m k : ℕ) → CutsFirstLine n (chars rest) cut m k → IsCut rest cut m k → cut.next < length rest
    → Wrapped n bs rest start ranges → Wrapped n bs (drop cut.next rest) (start + cut.next) (ranges ++ (start, start + cut.end) ∷ [])
wrapped_more n bs rest start ranges cut m k c i l w =
    let place = w.place in
    record {
      place = rw length-drop (omega arith);
      goes = λ more lines. subst (λ rs. IsWrapping n (chars bs) rs) (sym (append_assoc ranges ((start, start + cut.end) ∷ []) more))
          (w.goes ((start, start + cut.end) ∷ more) (
            m,
            k,
            record { first = c.first; place = ap (λ e. (start, start + e)) c.end },
            inr (
              left_some rest (m + k) cut.next i.rest l,
              subst (λ e. AreLines n (start + e) (drop (m + k) (chars rest)) more) c.next
                  (subst (λ t. AreLines n (start + cut.next) t more) i.rest.chars lines),
            ),
          ));
    }

-- the last line
pub wrapped_all : (n : ℕ) (bs rest : List ℕ) (start : ℕ) (ranges : List (ℕ × ℕ)) (cut : Cut) (m k : ℕ) → CutsFirstLine n (chars rest) cut m k → IsCut rest cut m k → cut.next ≡ length rest
    → Wrapped n bs rest start ranges → IsWrapping n (chars bs) (ranges ++ (start, start + cut.end) ∷ [])
wrapped_all n bs rest start ranges cut m k c i l w = w.goes ((start, start + cut.end) ∷ []) (
  m,
  k,
  record { first = c.first; place = ap (λ e. (start, start + e)) c.end },
  inl (left_none rest (m + k) cut.next i.rest l, refl),
)

-- a text has one first line
one_greatest : (P : ℕ → Type 0) (m p : ℕ) → IsGreatest P m → IsGreatest P p → m ≡ p
one_greatest P m p a b = let low = a.greatest p b.holds in let high = b.greatest m a.holds in omega arith

one_first : (n : ℕ) (text : List ℕ) (m k p q : ℕ) → IsFirstLine n text m k → IsFirstLine n text p q → (m ≡ p) × (k ≡ q)
one_first n text m k p q (whole a b c) (whole d e f) = (b ∙ sym e, c ∙ sym f)
one_first n text m k p q (whole a b c) (at_space d e f) = absurd (omega arith)
one_first n text m k p q (whole a b c) (inside_word d e f g) = absurd (omega arith)
one_first n text m k p q (whole a b c) (too_wide d e f g h) = absurd (omega arith)
one_first n text m k p q (at_space a b c) (whole d e f) = absurd (omega arith)
one_first n text m k p q (at_space a b c) (at_space d e f) =
    let same = one_greatest (IsBreak n text) m p b e in (same, c ∙ ap (λ j. leading_spaces (drop j text)) same ∙ sym f)
one_first n text m k p q (at_space a b c) (inside_word d e f g) = absurd (e m b.holds)
one_first n text m k p q (at_space a b c) (too_wide d e f g h) = absurd (e m b.holds)
one_first n text m k p q (inside_word a b c d) (whole e f g) = absurd (omega arith)
one_first n text m k p q (inside_word a b c d) (at_space e f g) = absurd (b p f.holds)
one_first n text m k p q (inside_word a b c d) (inside_word e f g h) = (one_greatest (IsFitting n text) m p c g, d ∙ sym h)
one_first n text m k p q (inside_word a b c d) (too_wide e f g h i) = absurd (g m c.holds)
one_first n text m k p q (too_wide a b c d e) (whole f g h) = absurd (omega arith)
one_first n text m k p q (too_wide a b c d e) (at_space f g h) = absurd (b p g.holds)
one_first n text m k p q (too_wide a b c d e) (inside_word f g h i) = absurd (c p h.holds)
one_first n text m k p q (too_wide a b c d e) (too_wide f g h i j) = (d ∙ sym i, e ∙ sym j)

-- what the first line leaves over has one list of lines, if each text has one with as many ranges
one_rest : (n at : ℕ) (text : List ℕ) (i j : ℕ) (a b : List (ℕ × ℕ)) → i ≡ j
    → ((at : ℕ) (text : List ℕ) (b : List (ℕ × ℕ)) → AreLines n at text a → AreLines n at text b → a ≡ b)
    → (((drop i text ≡ []) × (a ≡ [])) ⊎ ((0 < length (drop i text)) × AreLines n (at + bytes_of (take i text)) (drop i text) a))
    → (((drop j text ≡ []) × (b ≡ [])) ⊎ ((0 < length (drop j text)) × AreLines n (at + bytes_of (take j text)) (drop j text) b))
    → a ≡ b
one_rest n at text i j a b e one l r = elim l [
  | inl p ↦ elim r [
    | inl q ↦ p.1 ∙ sym q.1
    | inr q ↦ absurd (let none : length (drop i text) ≡ 0 = ap length p.0 in let some : 0 < length (drop i text) = subst (λ x. 0 < length (drop x text)) (sym e) q.0 in omega arith)
  ]
  | inr p ↦ elim r [
    | inl q ↦ absurd (let none : length (drop j text) ≡ 0 = ap length q.0 in let some : 0 < length (drop j text) = subst (λ x. 0 < length (drop x text)) e p.0 in omega arith)
    | inr q ↦ one (at + bytes_of (take i text)) (drop i text) b p.1 (subst (λ x. AreLines n (at + bytes_of (take x text)) (drop x text) b) (sym e) q.1)
  ]
]

one_lines : (n at : ℕ) (text : List ℕ) (a b : List (ℕ × ℕ)) → AreLines n at text a → AreLines n at text b → a ≡ b
one_lines n at text [] b l r = absurd l
one_lines n at text (x ∷ a) [] l r = absurd r
one_lines n at text (x ∷ a) (y ∷ b) l r =
    let same = one_first n text l.0 l.1 r.0 r.1 l.2.first r.2.first in
    let here : x ≡ y = l.2.place ∙ ap (λ m. (at, at + bytes_of (take m text))) same.0 ∙ sym r.2.place in
    let both : l.0 + l.1 ≡ r.0 + r.1 = ap (λ m. m + l.1) same.0 ∙ ap (λ k. r.0 + k) same.1 in
    ap (λ z. z ∷ a) here ∙ ap (λ zs. y ∷ zs) (one_rest n at text (l.0 + l.1) (r.0 + r.1) a b both (λ at text b. one_lines n at text a b) l.3 r.3)

-- a text is wrapped in one way
pub one_wrapping_of : (n : ℕ) (text : List ℕ) (a b : List (ℕ × ℕ)) → IsWrapping n text a → IsWrapping n text b → a ≡ b
one_wrapping_of n text a b l r = one_lines n 0 text a b l r
