-- Where a comment ends: no `*/` stands in what grows by bytes that make none.
-- Below the lemmas on marks.
use Rattle.std.proofs.Common.{◌≡◌, ℕ, Bool, true, false, ◌&&◌, ◌||◌, List, [], ◌∷◌, ◌++◌, refl, ◌∙◌, ap}
use lib.Dec.{eqb}
use Rattle.fx_base.specs.declared.positions.Position.{Position}
use Rattle.fx_base.specs.Positions.{after_byte, after_bytes}
use Rattle.fx_css_marks.specs.Bytes.{begins_with, has_end}

pub or_left : (a b : Bool) → (a || b) ≡ false → a ≡ false
or_left true b e = e
or_left false b e = refl

pub or_right : (a b : Bool) → (a || b) ≡ false → b ≡ false
or_right true b e = Prim.cc
or_right false b e = e

pub or_both : (a b : Bool) → a ≡ false → b ≡ false → (a || b) ≡ false
or_both true b e f = Prim.cc
or_both false b e f = f

pub and_left : (a b : Bool) → a ≡ false → (a && b) ≡ false
and_left true b e = Prim.cc
and_left false b e = refl

pub and_right : (a b : Bool) → b ≡ false → (a && b) ≡ false
and_right true b e = e
and_right false b e = refl

and_more : (a : Bool) (x : List ℕ) (d : ℕ) → (a && begins_with 47 (x ++ (d ∷ []))) ≡ false → (a && begins_with 47 x) ≡ false
and_more true [] d e = refl
and_more true (c ∷ x) d e = e
and_more false x d e = refl

-- whatever one byte is appended, no `*/` stands in it
pub record IsSafe (x : List ℕ) : Type 0 where
  pub ends : (d : ℕ) → has_end (x ++ (d ∷ [])) ≡ false

pub fewer_ends : (x : List ℕ) (d : ℕ) → has_end (x ++ (d ∷ [])) ≡ false → has_end x ≡ false
fewer_ends [] d e = refl
fewer_ends (c ∷ x) d e =
    or_both (eqb c 42 && begins_with 47 x) (has_end x)
    (and_more (eqb c 42) x d (or_left (eqb c 42 && begins_with 47 (x ++ (d ∷ []))) (has_end (x ++ (d ∷ []))) e))
    (fewer_ends x d (or_right (eqb c 42 && begins_with 47 (x ++ (d ∷ []))) (has_end (x ++ (d ∷ []))) e))

pub safe_none : IsSafe []
safe_none = record { ends = λ d. or_both (eqb d 42 && false) false (and_right (eqb d 42) false refl) refl }

-- the same test of a longer text, unless it has one byte
same_front : (x : List ℕ) (c d : ℕ) → begins_with 47 ((x ++ (c ∷ [])) ++ (d ∷ [])) ≡ begins_with 47 (x ++ (c ∷ []))
same_front [] c d = refl
same_front (a ∷ x) c d = refl

pub more_ends : (x : List ℕ) (c d : ℕ) → has_end (x ++ (c ∷ [])) ≡ false → (eqb c 42 && eqb d 47) ≡ false → has_end ((x ++ (c ∷ [])) ++ (d ∷ [])) ≡ false
more_ends [] c d e n = or_both (eqb c 42 && eqb d 47) ((eqb d 42 && false) || false) n (or_both (eqb d 42 && false) false (and_right (eqb d 42) false refl) refl)
more_ends (a ∷ x) c d e n =
    or_both (eqb a 42 && begins_with 47 ((x ++ (c ∷ [])) ++ (d ∷ []))) (has_end ((x ++ (c ∷ [])) ++ (d ∷ [])))
    (ap (λ y. eqb a 42 && y) (same_front x c d) ∙ or_left (eqb a 42 && begins_with 47 (x ++ (c ∷ []))) (has_end (x ++ (c ∷ []))) e)
    (more_ends x c d (or_right (eqb a 42 && begins_with 47 (x ++ (c ∷ []))) (has_end (x ++ (c ∷ []))) e) n)

pub safe_more : (x : List ℕ) (c : ℕ) → has_end (x ++ (c ∷ [])) ≡ false → eqb c 42 ≡ false → IsSafe (x ++ (c ∷ []))
safe_more x c e n = record { ends = λ d. more_ends x c d e (and_left (eqb c 42) (eqb d 47) n) }

-- behind a `*`
pub star_more : (x : List ℕ) (c : ℕ) → has_end (x ++ (42 ∷ [])) ≡ false → eqb c 47 ≡ false → has_end ((x ++ (42 ∷ [])) ++ (c ∷ [])) ≡ false
star_more x c e n = more_ends x 42 c e (and_right (eqb 42 42) (eqb c 47) n)

pub after_bytes-append : (p : Position) (x y : List ℕ) → after_bytes p (x ++ y) ≡ after_bytes (after_bytes p x) y
after_bytes-append p [] y = refl
after_bytes-append p (c ∷ x) y = after_bytes-append (after_byte p c) x y
