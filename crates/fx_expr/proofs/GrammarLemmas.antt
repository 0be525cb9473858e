-- Reading and the grammar agree, in both directions.
use Rattle.std.proofs.Common.{◌≡◌, ◌<◌, ◌≤◌, ◌+◌, ◌-◌, ℕ, true, List, [], ◌∷◌, ◌++◌, zero, suc, length, refl, ap, sym, ◌∙◌, subst, arith, inl, inr, Option, None, Some, append_assoc}
use Rattle.std.specs.Prelude.{option_and_then}
use Rattle.std.specs.Option.{option_map}
use Rattle.std.proofs.lemmas.Bool.{and_from}
use Rattle.std.proofs.lemmas.Bool.Decides.{Decides-ltb, eqb_tells}
use Rattle.std.proofs.lemmas.List.{append-nil, length-append}
use Rattle.fx_base.specs.declared.values.Value.{Value}
use Rattle.fx_expr.specs.declared.tree.UnarySign.TheVariants as unary
use Rattle.fx_expr.specs.declared.tree.BinarySign.{BinarySign}
use Rattle.fx_expr.specs.declared.tree.BinarySign.TheVariants as binary
use Rattle.fx_expr.specs.declared.tokens.Token.{Token}
use Rattle.fx_expr.specs.declared.tokens.Token.TheVariants.{Constant, Path, Opening, Closing, Exclamation, Binary}
use Rattle.fx_expr.specs.Operands.{place_in, paths_in}
use Rattle.fx_expr.specs.Tree.{Tree, Leaf, Place, One, Two, is_within}
use Rattle.fx_expr.specs.Grammar.{Spells, constant, operand, minus, negation, parens, stronger, group, operator_of, strength}
use Rattle.fx_expr.specs.Reading.{operator_at, on_operator, more_of, level_over, operand_of, signed, closed_by, ended, whole_of}
use Rattle.fx_expr.proofs.LevelSteps.{more_some, more_stops}
use Rattle.fx_expr.proofs.OperandLemmas.{AllListed, all_left, all_right, place_within, paths_in-append}

pub bind_some : {A B : Type 0} (o : Option A) (f : A → Option B) (y : B) → option_and_then f o ≡ Some y → (x : A) × (o ≡ Some x) × (f x ≡ Some y)
bind_some None f y e = absurd (cc)
bind_some (Some x) f y e = (x, refl, e)

-- a front of the tokens spells the tree, and this is the rest
pub record Reads (paths : List (List (List ℕ))) (d m : ℕ) (ts : List Token) (x : Tree) (r : List Token) : Type 0 where
  pub used : List Token
  pub parts : ts ≡ used ++ r
  pub spelled : Spells paths d m used x

abbrev Sound : List (List (List ℕ)) → ℕ → ℕ → (List Token → Option (Tree × List Token)) → Type 0
Sound paths d m f = (ts : List Token) (x : Tree) (r : List Token) → f ts ≡ Some (x, r) → Reads paths d m ts x r

abbrev both : Tree → List Token → Tree × List Token
both x ts = (x, ts)

abbrev here : Tree → List Token → Option (Tree × List Token)
here x ts = Some (both x ts)

same_tree : (x y : Tree) (ts r : List Token) → here x ts ≡ here y r → x ≡ y
same_tree x y ts r e = let p : both x ts ≡ both y r = cc in ap (λ (u : Tree × List Token). u.0) p

same_rest : (x y : Tree) (ts r : List Token) → here x ts ≡ here y r → ts ≡ r
same_rest x y ts r e = let p : both x ts ≡ both y r = cc in ap (λ (u : Tree × List Token). u.1) p

-- what stands behind a tree of this level
record More (paths : List (List (List ℕ))) (d m : ℕ) (used ts : List Token) (y : Tree) (r : List Token) : Type 0 where
  pub more : List Token
  pub parts : ts ≡ more ++ r
  pub spelled : Spells paths d m (used ++ more) y

no_more : (paths : List (List (List ℕ))) (d m : ℕ) (used ts : List Token) (x y : Tree) (r : List Token) → Spells paths d m used x → here x ts ≡ here y r → More paths d m used ts y r
no_more paths d m used ts x y r s e = record {
  more = [];
  parts = same_rest x y ts r e;
  spelled = subst (λ u. Spells paths d m u y) (sym (append-nil used)) (subst (λ t. Spells paths d m used t) (same_tree x y ts r e) s);
}

more_sound : (paths : List (List (List ℕ))) (d m : ℕ) (f : List Token → Option (Tree × List Token)) → Sound paths d m f → (fuel : ℕ) (used ts : List Token) (x y : Tree) (r : List Token)
    → Spells paths d (suc m) used x → more_of f (suc m) fuel x ts ≡ Some (y, r) → More paths d (suc m) used ts y r
unfolding more_of
more_sound paths d m f h zero used ts x y r s e = no_more paths d (suc m) used ts x y r s e
more_sound paths d m f h (suc fuel) used [] x y r s e = no_more paths d (suc m) used [] x y r s e
more_sound paths d m f h (suc fuel) used (t ∷ ts) x y r s e =
    (elim (operator_of (suc m) t) as (λ o. operator_of (suc m) t ≡ o
    → on_operator (option_map (λ sign. (sign, ts)) o) (λ sign rest. option_and_then (λ z. more_of f (suc m) fuel (Two sign x z.0) z.1) (f rest)) (Some (x, t ∷ ts)) ≡ Some (y, r)
    → More paths d (suc m) used (t ∷ ts) y r) [
      | None ↦ λ o i. no_more paths d (suc m) used (t ∷ ts) x y r s i
      | Some sign ↦ λ o i.
          let b = bind_some (f ts) (λ z. more_of f (suc m) fuel (Two sign x z.0) z.1) (y, r) i in
          let right = h ts b.0.0 b.0.1 b.1 in
          let rest = more_sound paths d m f h fuel (used ++ (t ∷ right.used)) b.0.1 (Two sign x b.0.0) y r (group d m used right.used t sign x b.0.0 s o right.spelled) b.2 in
          behind paths d m used ts right.used rest.more b.0.1 r t y right.parts rest.parts rest.spelled
    ]) refl e
  where
    behind : (paths : List (List (List ℕ))) (d m : ℕ) (used ts rs more mid r : List Token) (t : Token) (y : Tree) → ts ≡ rs ++ mid → mid ≡ more ++ r → Spells paths d (suc m) ((used ++ (t ∷ rs)) ++ more) y
        → More paths d (suc m) used (t ∷ ts) y r
    behind paths d m used ts rs more mid r t y e f s = record {
      more = t ∷ (rs ++ more);
      parts = ap (λ us. t ∷ us) (e ∙ (ap (λ us. rs ++ us) f ∙ (simp append_assoc)));
      spelled = subst (λ us. Spells paths d (suc m) us y) (simp append_assoc) s;
    }

level_sound : (paths : List (List (List ℕ))) (d : ℕ) (f : List Token → Option (Tree × List Token)) → Sound paths d 0 f → (m : ℕ) → Sound paths d m (level_over f m)
unfolding level_over
level_sound paths d f h zero ts x r e = h ts x r e
level_sound paths d f h (suc m) ts x r e =
    let b = bind_some (level_over f m ts) (λ z. more_of (level_over f m) (suc m) (length z.1) z.0 z.1) (x, r) e in
    let left = level_sound paths d f h m ts b.0.0 b.0.1 b.1 in
    let rest = more_sound paths d m (level_over f m) (level_sound paths d f h m) (length b.0.1) left.used b.0.1 b.0.0 x r (stronger d m left.used b.0.0 left.spelled) b.2 in
    record { used = left.used ++ rest.more; parts = left.parts ∙ (ap (λ us. left.used ++ us) rest.parts ∙ sym (append_assoc left.used rest.more r)); spelled = rest.spelled }

front_one : (paths : List (List (List ℕ))) (d : ℕ) (t : Token) (ts : List Token) (x y : Tree) (r : List Token) → Spells paths d 0 (t ∷ []) x → here x ts ≡ here y r → Reads paths d 0 (t ∷ ts) y r
front_one paths d t ts x y r s e = record { used = t ∷ []; parts = ap (λ us. t ∷ us) (same_rest x y ts r e); spelled = subst (λ z. Spells paths d 0 (t ∷ []) z) (same_tree x y ts r e) s }

closing_is : (x y : Tree) (ts r : List Token) → closed_by x ts ≡ Some (y, r) → (ts ≡ Closing ∷ r) × (x ≡ y)
closing_is x y [] r e = absurd (cc)
closing_is x y (Closing ∷ ts) r e = (ap (λ us. Closing ∷ us) (same_rest x y ts r e), same_tree x y ts r e)
closing_is x y (Constant v ∷ ts) r e = absurd (cc)
closing_is x y (Path n ∷ ts) r e = absurd (cc)
closing_is x y (Opening ∷ ts) r e = absurd (cc)
closing_is x y (Exclamation ∷ ts) r e = absurd (cc)
closing_is x y (Binary s ∷ ts) r e = absurd (cc)

operand_sound : (paths : List (List (List ℕ))) (d : ℕ) → Sound paths d 0 (operand_of paths d)
unfolding operand_of
operand_sound paths d [] x r e = absurd (cc)
operand_sound paths d (Constant v ∷ ts) x r e = front_one paths d (Constant v) ts (Leaf v) x r (constant d v) e
operand_sound paths d (Path names ∷ ts) x r e = front_one paths d (Path names) ts (Place (place_in paths names)) x r (operand d names) e
operand_sound paths (suc d) (Binary binary.Minus ∷ ts) x r e =
    let b = bind_some (operand_of paths d ts) (λ z. signed unary.Minus z) (x, r) e in
    let inner = operand_sound paths d ts b.0.0 b.0.1 b.1 in
    record {
      used = Binary binary.Minus ∷ inner.used;
      parts = ap (λ us. Binary binary.Minus ∷ us) (inner.parts ∙ ap (λ us. inner.used ++ us) (same_rest (One unary.Minus b.0.0) x b.0.1 r b.2));
      spelled = subst (λ z. Spells paths (suc d) 0 (Binary binary.Minus ∷ inner.used) z) (same_tree (One unary.Minus b.0.0) x b.0.1 r b.2) (minus d inner.used b.0.0 inner.spelled);
    }
operand_sound paths (suc d) (Exclamation ∷ ts) x r e =
    let b = bind_some (operand_of paths d ts) (λ z. signed unary.Not z) (x, r) e in
    let inner = operand_sound paths d ts b.0.0 b.0.1 b.1 in
    record {
      used = Exclamation ∷ inner.used;
      parts = ap (λ us. Exclamation ∷ us) (inner.parts ∙ ap (λ us. inner.used ++ us) (same_rest (One unary.Not b.0.0) x b.0.1 r b.2));
      spelled = subst (λ z. Spells paths (suc d) 0 (Exclamation ∷ inner.used) z) (same_tree (One unary.Not b.0.0) x b.0.1 r b.2) (negation d inner.used b.0.0 inner.spelled);
    }
operand_sound paths (suc d) (Opening ∷ ts) x r e =
    let b = bind_some (level_over (operand_of paths d) 6 ts) (λ z. closed_by z.0 z.1) (x, r) e in
    let inner = level_sound paths d (operand_of paths d) (operand_sound paths d) 6 ts b.0.0 b.0.1 b.1 in
    let close = closing_is b.0.0 x b.0.1 r b.2 in
    record {
      used = Opening ∷ (inner.used ++ (Closing ∷ []));
      parts = ap (λ us. Opening ∷ us) (inner.parts ∙ (ap (λ us. inner.used ++ us) close.0 ∙ (simp append_assoc)));
      spelled = subst (λ z. Spells paths (suc d) 0 (Opening ∷ (inner.used ++ (Closing ∷ []))) z) close.1 (parens d inner.used b.0.0 inner.spelled);
    }
operand_sound paths d _ x r e = absurd (cc)

ended_is : (x y : Tree) (ts : List Token) → ended x ts ≡ Some y → (ts ≡ []) × (x ≡ y)
ended_is x y [] e = (refl, cc)
ended_is x y (t ∷ ts) e = absurd (cc)

pub whole_sound : (paths : List (List (List ℕ))) (ts : List Token) (x : Tree) → whole_of paths ts ≡ Some x → Spells paths 32 6 ts x
unfolding whole_of
whole_sound paths ts x e =
    let b = bind_some (level_over (operand_of paths 32) 6 ts) (λ z. ended z.0 z.1) x e in
    let all = level_sound paths 32 (operand_of paths 32) (operand_sound paths 32) 6 ts b.0.0 b.0.1 b.1 in
    let end = ended_is b.0.0 x b.0.1 b.2 in
    let used : ts ≡ all.used = all.parts ∙ (ap (λ us. all.used ++ us) end.0 ∙ append-nil all.used) in
    subst (λ us. Spells paths 32 6 us x) (sym used) (subst (λ z. Spells paths 32 6 all.used z) end.1 all.spelled)

-- no sign of a strength up to m stands in front
NoSign : ℕ → List Token → Type 0
NoSign m [] = Unit {0}
NoSign m (t ∷ ts) = (k : ℕ) → k < m → operator_of (suc k) t ≡ None

before : ℕ → ℕ
before zero = zero
before (suc m) = m

-- reading has come to the end of a tree of this level
Comes : (List Token → Option (Tree × List Token)) → ℕ → Tree → List Token → List Token → Type 0
Comes f zero x r ts = level_over f zero ts ≡ Some (x, r)
Comes f (suc m) x r ts = (fuel : ℕ) × (length r ≤ fuel) × (level_over f (suc m) ts ≡ more_of (level_over f m) (suc m) fuel x r)

no_sign_at : (m : ℕ) (r : List Token) → NoSign (suc m) r → operator_at (suc m) r ≡ None
unfolding NoSign
no_sign_at m [] n = refl
no_sign_at m (t ∷ ts) n = rw (n m (omega arith)) refl

stops_here : (f : List Token → Option (Tree × List Token)) (m : ℕ) (x : Tree) (r ts : List Token) → NoSign m r → Comes f m x r ts → level_over f m ts ≡ Some (x, r)
unfolding Comes
stops_here f zero x r ts n c = c
stops_here f (suc m) x r ts n c = c.2 ∙ more_stops (level_over f m) (suc m) c.0 x r (no_sign_at m r n)

fewer : (m : ℕ) (r : List Token) → NoSign m r → NoSign (before m) r
unfolding NoSign before
fewer zero r n = n
fewer (suc m) [] n = tt
fewer (suc m) (t ∷ ts) n = λ k below. n k (omega arith)

one_strength : (m k : ℕ) (o : Token) (sign : BinarySign) → operator_of (suc m) o ≡ Some sign → k < m → operator_of (suc k) o ≡ None
one_strength m k (Binary s) sign e below = (elim (eqb_tells (strength s) (suc m)) [
  | inl t ↦ elim (eqb_tells (strength s) (suc k)) [ inl u ↦ absurd (omega (arith, t.1, u.1)) | inr u ↦ rw u.0 refl ]
  | inr t ↦ absurd (let no : None ≡ Some sign = rw t.0 at e in cc)
])
one_strength m k (Constant v) sign e below = refl
one_strength m k (Path n) sign e below = refl
one_strength m k Opening sign e below = refl
one_strength m k Closing sign e below = refl
one_strength m k Exclamation sign e below = refl

begun : (f : List Token → Option (Tree × List Token)) (m : ℕ) (x : Tree) (r ts : List Token) → level_over f m ts ≡ Some (x, r) → Comes f (suc m) x r ts
unfolding Comes level_over
begun f m x r ts e = (length r, omega arith, rw e refl)

at_end : (f : List Token → Option (Tree × List Token)) (ts : List Token) (x : Tree) (r : List Token) → f ts ≡ Some (x, r) → Comes f zero x r ts
unfolding Comes level_over
at_end f ts x r e = e

goes_on : (f : List Token → Option (Tree × List Token)) (m : ℕ) (x y : Tree) (sign : BinarySign) (o : Token) (ts rs r : List Token) → operator_of (suc m) o ≡ Some sign
    → Comes f (suc m) x (o ∷ (rs ++ r)) ts → level_over f m (rs ++ r) ≡ Some (y, r) → Comes f (suc m) (Two sign x y) r ts
unfolding Comes
goes_on f m x y sign o ts rs r i c e =
    let long : length (rs ++ r) ≡ length rs + length r = length-append rs r in
    let room : suc (length (rs ++ r)) ≤ c.0 = c.1 in
    let turn : c.0 ≡ suc (c.0 - 1) = omega arith in
    let at : operator_at (suc m) (o ∷ (rs ++ r)) ≡ Some (sign, rs ++ r) = rw i refl in
    (c.0 - 1, omega arith, c.2 ∙ more_some (level_over f m) (suc m) c.0 (c.0 - 1) x y (o ∷ (rs ++ r)) (rs ++ r) r sign turn at e)

minus_reads : (paths : List (List (List ℕ))) (d : ℕ) (ts r : List Token) (x : Tree) → operand_of paths d (ts ++ r) ≡ Some (x, r) → operand_of paths (suc d) (Binary binary.Minus ∷ (ts ++ r)) ≡ Some (One unary.Minus x, r)
unfolding operand_of
minus_reads paths d ts r x e = rw e refl

not_reads : (paths : List (List (List ℕ))) (d : ℕ) (ts r : List Token) (x : Tree) → operand_of paths d (ts ++ r) ≡ Some (x, r) → operand_of paths (suc d) (Exclamation ∷ (ts ++ r)) ≡ Some (One unary.Not x, r)
unfolding operand_of
not_reads paths d ts r x e = rw e refl

parens_read : (paths : List (List (List ℕ))) (d : ℕ) (ts r : List Token) (x : Tree) → level_over (operand_of paths d) 6 (ts ++ (Closing ∷ r)) ≡ Some (x, Closing ∷ r)
    → operand_of paths (suc d) (Opening ∷ (ts ++ (Closing ∷ r))) ≡ Some (x, r)
unfolding operand_of
parens_read paths d ts r x e = rw e refl

from_end : (f : List Token → Option (Tree × List Token)) (ts : List Token) (x : Tree) (r : List Token) → Comes f zero x r ts → f ts ≡ Some (x, r)
unfolding Comes level_over
from_end f ts x r e = e

no_sign_closing : (m : ℕ) (r : List Token) → NoSign m (Closing ∷ r)
unfolding NoSign
no_sign_closing m r = λ k below. refl

no_sign_zero : (r : List Token) → NoSign zero r
unfolding NoSign
no_sign_zero [] = tt
no_sign_zero (t ∷ ts) = λ k below. absurd (omega arith)

sign_is_weaker : (m : ℕ) (o : Token) (sign : BinarySign) (rest : List Token) → operator_of (suc m) o ≡ Some sign → NoSign m (o ∷ rest)
unfolding NoSign
sign_is_weaker m o sign rest e = λ k below. one_strength m k o sign e below

constant_reads : (paths : List (List (List ℕ))) (d : ℕ) (v : Value) (r : List Token) → operand_of paths d (Constant v ∷ r) ≡ Some (Leaf v, r)
unfolding operand_of
constant_reads paths zero v r = refl
constant_reads paths (suc d) v r = refl

path_reads : (paths : List (List (List ℕ))) (d : ℕ) (names : List (List ℕ)) (r : List Token) → operand_of paths d (Path names ∷ r) ≡ Some (Place (place_in paths names), r)
unfolding operand_of
path_reads paths zero names r = refl
path_reads paths (suc d) names r = refl

complete : (paths : List (List (List ℕ))) (d m : ℕ) (ts : List Token) (x : Tree) → Spells paths d m ts x → (r : List Token) → NoSign (before m) r → Comes (operand_of paths d) m x r (ts ++ r)
unfolding before
complete paths d m ts x (constant e v) r n = at_end (operand_of paths e) (Constant v ∷ r) (Leaf v) r (constant_reads paths e v r)
complete paths d m ts x (operand e names) r n = at_end (operand_of paths e) (Path names ∷ r) (Place (place_in paths names)) r (path_reads paths e names r)
complete paths d m ts x (minus e us y s) r n =
    at_end (operand_of paths (suc e)) (Binary binary.Minus ∷ (us ++ r)) (One unary.Minus y) r (minus_reads paths e us r y (from_end (operand_of paths e) (us ++ r) y r (complete paths e zero us y s r (no_sign_zero r))))
complete paths d m ts x (negation e us y s) r n =
    at_end (operand_of paths (suc e)) (Exclamation ∷ (us ++ r)) (One unary.Not y) r (not_reads paths e us r y (from_end (operand_of paths e) (us ++ r) y r (complete paths e zero us y s r (no_sign_zero r))))
complete paths d m ts x (parens e us y s) r n =
    let grouped : (us ++ (Closing ∷ [])) ++ r ≡ us ++ (Closing ∷ r) = simp append_assoc in
    let inner = stops_here (operand_of paths e) 6 y (Closing ∷ r) (us ++ (Closing ∷ r)) (no_sign_closing 6 r) (complete paths e 6 us y s (Closing ∷ r) (no_sign_closing 5 r)) in
    at_end (operand_of paths (suc e)) (Opening ∷ ((us ++ (Closing ∷ [])) ++ r)) y r (rw grouped (parens_read paths e us r y inner))
complete paths d m ts x (stronger e k us y s) r n =
    begun (operand_of paths e) k y r (us ++ r) (stops_here (operand_of paths e) k y r (us ++ r) n (complete paths e k us y s r (fewer k r n)))
complete paths d m ts x (group e k ls rs o sign y z sl i sr) r n =
    let grouped : (ls ++ (o ∷ rs)) ++ r ≡ ls ++ (o ∷ (rs ++ r)) = simp append_assoc in
    let left = complete paths e (suc k) ls y sl (o ∷ (rs ++ r)) (sign_is_weaker k o sign (rs ++ r) i) in
    let right = stops_here (operand_of paths e) k z r (rs ++ r) n (complete paths e k rs z sr r (fewer k r n)) in
    rw grouped (goes_on (operand_of paths e) k y z sign o (ls ++ (o ∷ (rs ++ r))) rs r i left right)

no_sign_none : (m : ℕ) → NoSign m []
unfolding NoSign
no_sign_none m = tt

pub whole_complete : (paths : List (List (List ℕ))) (ts : List Token) (x : Tree) → Spells paths 32 6 ts x → whole_of paths ts ≡ Some x
unfolding whole_of before
whole_complete paths ts x s =
    let all : level_over (operand_of paths 32) 6 (ts ++ []) ≡ Some (x, []) = stops_here (operand_of paths 32) 6 x [] (ts ++ []) (no_sign_none 6) (complete paths 32 6 ts x s [] (no_sign_none 5)) in
    let here : level_over (operand_of paths 32) 6 ts ≡ Some (x, []) = subst (λ us. level_over (operand_of paths 32) 6 us ≡ Some (x, [])) (append-nil ts) all in
    rw here refl

-- over other paths the same tokens spell as well
pub any_paths : (paths others : List (List (List ℕ))) (d m : ℕ) (ts : List Token) (x : Tree) → Spells paths d m ts x → (y : Tree) × Spells others d m ts y
any_paths paths others d m ts x (constant e v) = (Leaf v, constant e v)
any_paths paths others d m ts x (operand e names) = (Place (place_in others names), operand e names)
any_paths paths others d m ts x (minus e us y s) = let i = any_paths paths others e zero us y s in (One unary.Minus i.0, minus e us i.0 i.1)
any_paths paths others d m ts x (negation e us y s) = let i = any_paths paths others e zero us y s in (One unary.Not i.0, negation e us i.0 i.1)
any_paths paths others d m ts x (parens e us y s) = let i = any_paths paths others e 6 us y s in (i.0, parens e us i.0 i.1)
any_paths paths others d m ts x (stronger e k us y s) = let i = any_paths paths others e k us y s in (i.0, stronger e k us i.0 i.1)
any_paths paths others d m ts x (group e k ls rs o sign y z sl i sr) =
    let a = any_paths paths others e (suc k) ls y sl in
    let b = any_paths paths others e k rs z sr in
    (Two sign a.0 b.0, group e k ls rs o sign a.0 b.0 a.1 i b.1)

-- the places of a tree are within the paths
pub spelled_within : (paths : List (List (List ℕ))) (d m : ℕ) (ts : List Token) (x : Tree) → Spells paths d m ts x → AllListed paths (paths_in ts) → is_within x (length paths) ≡ true
spelled_within paths d m ts x (constant e v) a = refl
spelled_within paths d m ts x (operand e names) a = (Decides-ltb (place_in paths names) (length paths)).1 (place_within paths names a.0)
spelled_within paths d m ts x (minus e us y s) a = spelled_within paths e zero us y s a
spelled_within paths d m ts x (negation e us y s) a = spelled_within paths e zero us y s a
spelled_within paths d m ts x (parens e us y s) a =
    spelled_within paths e 6 us y s (all_left paths (paths_in us) (paths_in (Closing ∷ [])) (subst (λ qs. AllListed paths qs) (paths_in-append us (Closing ∷ [])) a))
spelled_within paths d m ts x (stronger e k us y s) a = spelled_within paths e k us y s a
spelled_within paths d m ts x (group e k ls rs o sign y z sl i sr) a =
    let both = subst (λ qs. AllListed paths qs) (paths_in-append ls (o ∷ rs)) a in
    and_from (is_within y (length paths)) (is_within z (length paths))
    (spelled_within paths e (suc k) ls y sl (all_left paths (paths_in ls) (paths_in (o ∷ rs)) both))
    (spelled_within paths e k rs z sr (behind_sign paths o rs (suc k) sign i (all_right paths (paths_in ls) (paths_in (o ∷ rs)) both)))
  where
    behind_sign : (paths : List (List (List ℕ))) (o : Token) (rs : List Token) (m : ℕ) (sign : BinarySign) → operator_of m o ≡ Some sign → AllListed paths (paths_in (o ∷ rs)) → AllListed paths (paths_in rs)
    behind_sign paths (Binary s) rs m sign e a = a
    behind_sign paths (Constant v) rs m sign e a = a
    behind_sign paths (Path n) rs m sign e a = absurd (let no : None ≡ Some sign = e in cc)
    behind_sign paths Opening rs m sign e a = a
    behind_sign paths Closing rs m sign e a = a
    behind_sign paths Exclamation rs m sign e a = a
