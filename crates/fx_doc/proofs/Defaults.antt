-- What the machine does at every class that a mode does not single out.
-- Code's last arms cite these.
pub use Rattle.fx_doc_runs.proofs.Calm.{quoted_rest}
use Rattle.std.proofs.Common.{◌≡◌, ◌≢◌, ℕ, Bool, true, List, [], ◌∷◌, ◌++◌, refl, ap, ◌∙◌, ◌||◌, ◌+◌, length, length-append, arith}
use lib.Dec.{ltb}
use Rattle.fx_doc_grammar.specs.Characters.{in_name}
use Rattle.fx_doc_grammar.specs.Grammar.{Head}
use Rattle.fx_doc_grammar.specs.Machine.{Held, at, some_if, is_open, with_sign, Inside, Instructing, Naming, Keyed, in_inside, in_instructing, in_naming, in_keyed}
use Rattle.fx_base.specs.declared.positions.Position.{Position}
use Rattle.fx_doc_grammar.specs.declared.Class.{Class}
use Rattle.fx_doc_grammar.specs.declared.Class.TheVariants.{White, Less, Greater, Slash, Equals, Question, Ampersand}

pub inside_rest : (p : Position) (h : Held) (c : ℕ) (k : Class) → k ≢ White → k ≢ Less → k ≢ Ampersand → in_inside p h c k ≡ some_if (is_open h.stack) (at (with_sign p c h) Inside)
inside_rest p h c White a b d = absurd (a refl)
inside_rest p h c Less a b d = absurd (b refl)
inside_rest p h c Ampersand a b d = absurd (d refl)
inside_rest p h c k a b d = refl

pub instructing_rest : (n : List ℕ) (h : Held) (c : ℕ) (k : Class) → k ≢ White → k ≢ Question → in_instructing n h c k ≡ some_if (in_name k) (at h (Instructing (n ++ (c ∷ []))))
instructing_rest n h c White a b = absurd (a refl)
instructing_rest n h c Question a b = absurd (b refl)
instructing_rest n h c k a b = refl

pub naming_rest : (q : Position) (n : List ℕ) (h : Held) (c : ℕ) (k : Class) → k ≢ White → k ≢ Slash → k ≢ Greater → in_naming q n h c k ≡ some_if (in_name k) (at h (Naming q (n ++ (c ∷ []))))
naming_rest q n h c White a b d = absurd (a refl)
naming_rest q n h c Slash a b d = absurd (b refl)
naming_rest q n h c Greater a b d = absurd (d refl)
naming_rest q n h c k a b d = refl

pub keyed_rest : (head : Head) (q : Position) (n : List ℕ) (h : Held) (c : ℕ) (k : Class) → k ≢ White → k ≢ Equals → in_keyed head q n h c k ≡ some_if (in_name k) (at h (Keyed head q (n ++ (c ∷ []))))
keyed_rest head q n h c White a b = absurd (a refl)
keyed_rest head q n h c Equals a b = absurd (b refl)
keyed_rest head q n h c k a b = refl

-- a full name does not grow
full_long : (n : List ℕ) (c : ℕ) → length n ≡ 4096 → ltb 4096 (length (n ++ (c ∷ []))) ≡ true
full_long n c e = ap (λ y. ltb 4096 y) (length-append n (c ∷ [])) ∙ past (length n) e
  where
    past : (n : ℕ) → n ≡ 4096 → ltb 4096 (n + 1) ≡ true
    past n e = grind (arith, e)

pub long_name : (n : List ℕ) (c : ℕ) (b : Bool) → length n ≡ 4096 → (ltb 4096 (length (n ++ (c ∷ []))) || b) ≡ true
long_name n c b e = ap (λ y. y || b) (full_long n c e)

past : (n : ℕ) → n ≡ 4096 → ltb 4096 (n + 1) ≡ true
past n e = grind (arith, e)

pub long_value : (n : ℕ) (b : Bool) → n ≡ 4096 → (ltb 4096 (n + 1) || b) ≡ true
long_value n b e = ap (λ y. y || b) (past n e)
