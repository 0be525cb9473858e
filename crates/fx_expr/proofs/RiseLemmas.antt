-- A level is an operand and, behind it, the signs of each strength in turn; a strength without a sign changes nothing.
use Rattle.std.proofs.Common.{◌≡◌, ◌≢◌, ◌<◌, ◌≤◌, ◌+◌, ◌-◌, ℕ, List, [], ◌∷◌, zero, suc, length, refl, sym, ◌∙◌, arith, Option, None, Some, inl, inr}
use Rattle.std.specs.Prelude.{option_and_then}
use Rattle.std.proofs.lemmas.Bool.Decides.{eqb_tells}
use Rattle.fx_expr.specs.declared.tokens.Token.{Token}
use Rattle.fx_expr.specs.declared.tokens.Token.TheVariants.{Constant, Path, Opening, Closing, Exclamation, Binary}
use Rattle.fx_expr.specs.Tree.{Tree}
use Rattle.fx_expr.specs.Grammar.{strength}
use Rattle.fx_expr.specs.Reading.{more_of, level_over, operator_at, strength_at}
use Rattle.fx_expr.proofs.LevelSteps.{more_stops}

-- what so many strengths behind these add to a tree
pub rise : (List Token → Option (Tree × List Token)) → ℕ → ℕ → Tree → List Token → Option (Tree × List Token)
rise f done zero x ts = Some (x, ts)
rise f done (suc n) x ts =
    option_and_then (λ y. rise f (suc done) n y.0 y.1) (more_of (level_over f done) (suc done) (length ts) x ts)

whole_again : (o : Option (Tree × List Token)) → o ≡ option_and_then (λ x. Some (x.0, x.1)) o
whole_again None = refl
whole_again (Some x) = refl

twice : (f g : Tree → List Token → Option (Tree × List Token)) (o : Option (Tree × List Token))
    → option_and_then (λ y. g y.0 y.1) (option_and_then (λ x. f x.0 x.1) o)
    ≡ option_and_then (λ x. option_and_then (λ y. g y.0 y.1) (f x.0 x.1)) o
twice f g None = refl
twice f g (Some x) = refl

level_rises : (f : List Token → Option (Tree × List Token)) (n done m : ℕ) (ts : List Token) → m ≡ done + n
    → level_over f m ts ≡ option_and_then (λ x. rise f done n x.0 x.1) (level_over f done ts)
unfolding level_over rise
level_rises f zero done m ts e = let same : m ≡ done = omega (arith, e) in rw same (whole_again (level_over f done ts))
level_rises f (suc n) done m ts e =
    let next : m ≡ suc done + n = omega (arith, e) in
    level_rises f n (suc done) m ts next
    ∙ twice (λ x r. more_of (level_over f done) (suc done) (length r) x r) (λ x r. rise f (suc done) n x r)
    (level_over f done ts)

-- all strengths behind an operand
pub level_from : (f : List Token → Option (Tree × List Token)) (m : ℕ) (ts : List Token) → level_over f m ts
    ≡ option_and_then (λ x. rise f 0 m x.0 x.1) (f ts)
unfolding level_over
level_from f m ts = let e : m ≡ 0 + m = omega arith in level_rises f m 0 m ts e

other_sign : (j : ℕ) (ts : List Token) → strength_at ts ≢ suc j → operator_at (suc j) ts ≡ None
other_sign j [] n = refl
other_sign j (Constant v ∷ ts) n = refl
other_sign j (Path names ∷ ts) n = refl
other_sign j (Opening ∷ ts) n = refl
other_sign j (Closing ∷ ts) n = refl
other_sign j (Exclamation ∷ ts) n = refl
other_sign j (Binary sign ∷ ts) n = elim (eqb_tells (strength sign) (suc j)) [
  | inl t ↦ absurd (n t.1)
  | inr t ↦ rw t.0 refl
]

pub rise_stops : (f : List Token → Option (Tree × List Token)) (n done m : ℕ) (x : Tree) (ts : List Token) → m
    ≡ done + n
    → (done < strength_at ts → strength_at ts ≤ m → ⊥) → rise f done n x ts ≡ Some (x, ts)
unfolding rise
rise_stops f zero done m x ts e none = refl
rise_stops f (suc n) done m x ts e none =
    let other : strength_at ts ≢ suc done = λ is. none (omega (arith, is)) (omega (arith, is, e)) in
    let next : m ≡ suc done + n = omega (arith, e) in
    rw (more_stops (level_over f done) (suc done) (length ts) x ts (other_sign done ts other))
    (rise_stops f n (suc done) m x ts next (λ a b. none (omega (arith, a)) b))

-- the strengths below that of the sign that stands here
pub rise_skips : (f : List Token → Option (Tree × List Token)) (n done m s : ℕ) (x : Tree) (ts : List Token) → m
    ≡ done + n → strength_at ts ≡ s → done < s → s ≤ m
    → rise f done n x ts ≡ option_and_then (λ y. rise f s (m - s) y.0 y.1)
    (more_of (level_over f (s - 1)) s (length ts) x ts)
unfolding rise
rise_skips f zero done m s x ts e is above most = absurd (omega (arith, e, above, most))
rise_skips f (suc n) done m s x ts e is above most = elim (eqb_tells s (suc done)) [
  | inl t ↦
      let left : n ≡ m - s = omega (arith, e, t.1) in
      let below : done ≡ s - 1 = omega (arith, t.1) in
      here_is (s - 1) (m - s) below t.1 left
  | inr t ↦
      let other : strength_at ts ≢ suc done = λ same. t.1 (sym is ∙ same) in
      let next : m ≡ suc done + n = omega (arith, e) in
      let beyond : suc done < s = omega (arith, above, t.1) in
      rw (more_stops (level_over f done) (suc done) (length ts) x ts (other_sign done ts other))
      (rise_skips f n (suc done) m s x ts next is beyond most)
]
  where
    here_is : (k p : ℕ) → done ≡ k → s ≡ suc done → n ≡ p
        → rise f done (suc n) x ts
        ≡ option_and_then (λ y. rise f s p y.0 y.1) (more_of (level_over f k) s (length ts) x ts)
    here_is k p a b c = rw (b, ← a, ← c) refl

pub level_fails : (f : List Token → Option (Tree × List Token)) (m : ℕ) (ts : List Token) → f ts ≡ None
    → level_over f m ts ≡ None
level_fails f m ts e = level_from f m ts ∙ rw e refl

pub level_starts : (f : List Token → Option (Tree × List Token)) (m : ℕ) (ts r : List Token) (x : Tree) → f ts
    ≡ Some (x, r) → level_over f m ts ≡ rise f 0 m x r
level_starts f m ts r x e = level_from f m ts ∙ rw e refl

pub level_turn : (f : List Token → Option (Tree × List Token)) (done m s : ℕ) (x y : Tree) (ts r : List Token)
    → done ≤ m → (strength_at ts ≡ s) × (done < s) × (s ≤ m)
    → more_of (level_over f (s - 1)) s (length ts) x ts ≡ Some (y, r) → rise f done (m - done) x ts
    ≡ rise f s (m - s) y r
level_turn f done m s x y ts r within next e =
    let parts : m ≡ done + (m - done) = omega (arith, within) in
    rise_skips f (m - done) done m s x ts parts next.0 next.1 next.2 ∙ rw e refl

pub turn_fails : (f : List Token → Option (Tree × List Token)) (done m s : ℕ) (x : Tree) (ts : List Token) → done ≤ m
    → (strength_at ts ≡ s) × (done < s) × (s ≤ m)
    → more_of (level_over f (s - 1)) s (length ts) x ts ≡ None → rise f done (m - done) x ts ≡ None
turn_fails f done m s x ts within next e =
    let parts : m ≡ done + (m - done) = omega (arith, within) in
    rise_skips f (m - done) done m s x ts parts next.0 next.1 next.2 ∙ rw e refl

pub level_ends : (f : List Token → Option (Tree × List Token)) (done m : ℕ) (x : Tree) (ts : List Token) → done ≤ m
    → (done < strength_at ts → strength_at ts ≤ m → ⊥)
    → rise f done (m - done) x ts ≡ Some (x, ts)
level_ends f done m x ts within none = let parts : m ≡ done + (m - done) = omega (arith, within) in
    rise_stops f (m - done) done m x ts parts none
