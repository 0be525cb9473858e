-- The greatest specificity hangs on which specificities there are, and on nothing else.
use Rattle.std.proofs.Common.{◌≡◌, ℕ, ◌<◌, ◌≤◌, ◌⊎◌, inl, inr, Bool, true, false, cond, ◌&&◌, ◌||◌, ltb, eqb, List, [], ◌∷◌, fold, Some, refl, sym, ◌∙◌, ap, subst, arith}
use Rattle.std.proofs.lemmas.Bool.{cases_Bool, false≢true}
use Rattle.std.proofs.lemmas.Bool.Decides.{eqb_tells, nat_tests}
use Rattle.fx_select.specs.Strongest.{greater, greater_of, greatest, is_weaker}
use Rattle.fx_select.proofs.MemberLemmas.{In}

abbrev Weight : Type 0
Weight = ℕ × ℕ × ℕ

-- not weaker, by ids, then by classes, then by types
abbrev AtLeast : ℕ × ℕ × ℕ → ℕ × ℕ × ℕ → Type 0
AtLeast a b = (b.0 < a.0) ⊎ ((b.0 ≡ a.0) × ((b.1 < a.1) ⊎ ((b.1 ≡ a.1) × (b.2 ≤ a.2))))

lex-false : (a b : ℕ) (more : Bool) → (ltb a b || (eqb a b && more)) ≡ false → (b < a) ⊎ ((b ≡ a) × (more ≡ false))
lex-false a b more h = elim (cases_Bool (ltb a b)) [
  | inl less ↦ absurd (false≢true (sym (rw less at h)))
  | inr not ↦
      let le : b ≤ a = grind (arith, nat_tests) in
      elim (eqb_tells a b) [
        | inl (test, same) ↦ inr (sym same, rw (not, test) at h)
        | inr (test, apart) ↦ inl (omega (arith, apart))
      ]
]

lex-true : (a b : ℕ) (more : Bool) → (ltb a b || (eqb a b && more)) ≡ true → (a < b) ⊎ ((a ≡ b) × (more ≡ true))
lex-true a b more h = elim (cases_Bool (ltb a b)) [
  | inl less ↦ inl (grind (arith, nat_tests))
  | inr not ↦ elim (eqb_tells a b) [
    | inl (test, same) ↦ inr (same, rw (not, test) at h)
    | inr (test, apart) ↦ absurd (false≢true (rw (not, test) at h))
  ]
]

last-false : (a b : ℕ) → ltb a b ≡ false → b ≤ a
last-false a b h = grind (arith, nat_tests)

last-true : (a b : ℕ) → ltb a b ≡ true → a ≤ b
last-true a b h = grind (arith, nat_tests)

not-weaker : (a0 a1 a2 b0 b1 b2 : ℕ) → (ltb a0 b0 || (eqb a0 b0 && (ltb a1 b1 || (eqb a1 b1 && ltb a2 b2)))) ≡ false
    → (b0 < a0) ⊎ ((b0 ≡ a0) × ((b1 < a1) ⊎ ((b1 ≡ a1) × (b2 ≤ a2))))
not-weaker a0 a1 a2 b0 b1 b2 h = elim (lex-false a0 b0 (ltb a1 b1 || (eqb a1 b1 && ltb a2 b2)) h) [
  | inl less ↦ inl less
  | inr (same, more) ↦ elim (lex-false a1 b1 (ltb a2 b2) more) [
    | inl less ↦ inr (same, inl less)
    | inr (also, last) ↦ inr (same, inr (also, last-false a2 b2 last))
  ]
]

at-least-weaker : (a0 a1 a2 b0 b1 b2 : ℕ) → (ltb a0 b0 || (eqb a0 b0 && (ltb a1 b1 || (eqb a1 b1 && ltb a2 b2)))) ≡ true
    → (a0 < b0) ⊎ ((a0 ≡ b0) × ((a1 < b1) ⊎ ((a1 ≡ b1) × (a2 ≤ b2))))
at-least-weaker a0 a1 a2 b0 b1 b2 h = elim (lex-true a0 b0 (ltb a1 b1 || (eqb a1 b1 && ltb a2 b2)) h) [
  | inl less ↦ inl less
  | inr (same, more) ↦ elim (lex-true a1 b1 (ltb a2 b2) more) [
    | inl less ↦ inr (same, inl less)
    | inr (also, last) ↦ inr (same, inr (also, last-true a2 b2 last))
  ]
]

at-least-itself : (a : ℕ × ℕ × ℕ) → AtLeast a a
at-least-itself a = inr (refl, inr (refl, omega arith))

at-least-trans : (a b c : ℕ × ℕ × ℕ) → AtLeast a b → AtLeast b c → AtLeast a c
at-least-trans a b c (inl h) (inl k) = inl (omega arith)
at-least-trans a b c (inl h) (inr k) = inl (omega (arith, k.0))
at-least-trans a b c (inr (e, h)) (inl k) = inl (omega arith)
at-least-trans a b c (inr (e, inl h)) (inr (f, inl k)) = inr (omega arith, inl (omega arith))
at-least-trans a b c (inr (e, inl h)) (inr (f, inr (g, k))) = inr (omega arith, inl (omega arith))
at-least-trans a b c (inr (e, inr (d, h))) (inr (f, inl k)) = inr (omega arith, inl (omega arith))
at-least-trans a b c (inr (e, inr (d, h))) (inr (f, inr (g, k))) = inr (omega arith, inr (omega arith, omega arith))

triple : (a b : ℕ × ℕ × ℕ) → a.0 ≡ b.0 → a.1 ≡ b.1 → a.2 ≡ b.2 → a ≡ b
triple a b e f g =
    let P : ℕ → ℕ → ℕ → ℕ × ℕ × ℕ = λ x y z. (x, y, z) in
    ap (λ (x : ℕ). P x a.1 a.2) e ∙ ap (λ (y : ℕ). P b.0 y a.2) f ∙ ap (λ (z : ℕ). P b.0 b.1 z) g

at-least-antisym : (a b : ℕ × ℕ × ℕ) → AtLeast a b → AtLeast b a → a ≡ b
at-least-antisym a b (inl h) (inl k) = absurd (omega arith)
at-least-antisym a b (inl h) (inr (f, k)) = absurd (omega arith)
at-least-antisym a b (inr (e, h)) (inl k) = absurd (omega arith)
at-least-antisym a b (inr (e, inl h)) (inr (f, inl k)) = absurd (omega arith)
at-least-antisym a b (inr (e, inl h)) (inr (f, inr (g, k))) = absurd (omega arith)
at-least-antisym a b (inr (e, inr (d, h))) (inr (f, inl k)) = absurd (omega arith)
at-least-antisym a b (inr (e, inr (d, h))) (inr (f, inr (g, k))) = triple a b (sym e) (sym d) (omega arith)

greater-parts : (a b : ℕ × ℕ × ℕ) → AtLeast (greater a b) a × AtLeast (greater a b) b × ((greater a b ≡ a) ⊎ (greater a b ≡ b))
greater-parts a b = elim (cases_Bool (is_weaker a b)) [
  | inl weaker ↦
      let is : greater a b ≡ b = ap (λ (t : Bool). cond t b a) weaker in (
        subst (λ (w : ℕ × ℕ × ℕ). AtLeast w a) (sym is) (at-least-weaker a.0 a.1 a.2 b.0 b.1 b.2 weaker),
        subst (λ (w : ℕ × ℕ × ℕ). AtLeast w b) (sym is) (at-least-itself b),
        inr is,
      )
  | inr not ↦
      let is : greater a b ≡ a = ap (λ (t : Bool). cond t b a) not in (
        subst (λ (w : ℕ × ℕ × ℕ). AtLeast w a) (sym is) (at-least-itself a),
        subst (λ (w : ℕ × ℕ × ℕ). AtLeast w b) (sym is) (not-weaker a.0 a.1 a.2 b.0 b.1 b.2 not),
        inl is,
      )
]

-- what the greatest of a first one and others is
record IsMost (first : ℕ × ℕ × ℕ) (rest : List (ℕ × ℕ × ℕ)) (most : ℕ × ℕ × ℕ) : Type 0 where
  among : In most (first ∷ rest)
  above : (w : ℕ × ℕ × ℕ) → In w (first ∷ rest) → AtLeast most w

most-from : (first : ℕ × ℕ × ℕ) (rest : List (ℕ × ℕ × ℕ))
    → (most : ℕ × ℕ × ℕ) × (fold greater_of (Some first) rest ≡ Some most) × IsMost first rest most
unfolding In
most-from first [] = (
  first,
  refl,
  record {
    among = inl refl;
    above = λ w among. elim among [ inl is ↦ subst (AtLeast first) (sym is) (at-least-itself first) | inr none ↦ absurd none ];
  },
)
most-from first (next ∷ rest) =
    let IH = most-from (greater first next) rest in
    let parts = greater-parts first next in
    let most : ℕ × ℕ × ℕ = IH.0 in
    let over : AtLeast most (greater first next) = IH.2.above (greater first next) (inl refl) in (
      most,
      IH.1,
      record {
        among = elim IH.2.among [
          | inl is ↦ elim parts.2 [ inl one ↦ inl (is ∙ one) | inr other ↦ inr (inl (is ∙ other)) ]
          | inr further ↦ inr (inr further)
        ];
        above = λ w among. elim among [
          | inl is ↦ subst (AtLeast most) (sym is) (at-least-trans most (greater first next) first over parts.0)
          | inr behind ↦ elim behind [
            | inl is ↦ subst (AtLeast most) (sym is) (at-least-trans most (greater first next) next over parts.1)
            | inr further ↦ IH.2.above w (inr further)
          ]
        ];
      },
    )

pub greatest-same : (some others : List (ℕ × ℕ × ℕ)) → ((w : ℕ × ℕ × ℕ) → In w some → In w others) → ((w : ℕ × ℕ × ℕ) → In w others → In w some)
    → greatest some ≡ greatest others
unfolding In
greatest-same [] [] there back = refl
greatest-same [] (first ∷ rest) there back = absurd (back first (inl refl))
greatest-same (first ∷ rest) [] there back = absurd (there first (inl refl))
greatest-same (first ∷ rest) (head ∷ tail) there back =
    let one = most-from first rest in
    let other = most-from head tail in
    let same : one.0 ≡ other.0 =
    at-least-antisym one.0 other.0 (one.2.above other.0 (back other.0 other.2.among)) (other.2.above one.0 (there one.0 one.2.among)) in
    one.1 ∙ ap (λ (w : ℕ × ℕ × ℕ). Some w) same ∙ sym other.1
