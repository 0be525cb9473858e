-- The greatest is one of those that it is taken from, and none of them is above it.
use Rattle.std.proofs.Common.{◌≡◌, ◌⊎◌, Bool, true, false, cond, List, [], ◌∷◌, fold, Option, Some, None, refl, sym, ap, ◌∙◌, subst, inl, inr}
use Rattle.std.proofs.lemmas.Bool.{cases_Bool}
use Rattle.fx_css_types.specs.declared.sheets.Candidate.{Candidate}
use Rattle.fx_cascade.specs.declared.sources.Source.{Source}
use Rattle.fx_cascade.specs.Ranks.{greater, greater_of, greatest, is_below, key, precedes}
use Rattle.fx_cascade.proofs.KeyLemmas.{key_long, precedes-back, precedes-same, precedes-trans}

-- x is among these
abbrev pub In : {X : Type 0} → X → List X → Type 0
In x [] = ⊥
In x (y ∷ ys) = (x ≡ y) ⊎ In x ys

-- one isn't above another
abbrev pub IsAtMost : List Candidate → Source → Source → Type 0
IsAtMost matched one other = is_below matched other one ≡ false

at_most-trans : (matched : List Candidate) (a b c : Source) → IsAtMost matched a b → IsAtMost matched b c
    → IsAtMost matched a c
at_most-trans matched a b c p q =
    precedes-trans 8 (key matched a) (key matched b) (key matched c) (key_long matched a) (key_long matched b)
    (key_long matched c) p q

-- of two, the greater is below neither
greater-first : (matched : List Candidate) (best said : Source) → IsAtMost matched best (greater_of matched best said)
greater-first matched best said = elim (cases_Bool (is_below matched said best)) [
  | inl below ↦ ap (λ (t : Bool). is_below matched (cond t best said) best) below ∙ precedes-same (key matched best)
  | inr above ↦ ap (λ (t : Bool). is_below matched (cond t best said) best) above ∙ above
]

greater-second : (matched : List Candidate) (best said : Source) → IsAtMost matched said (greater_of matched best said)
greater-second matched best said = elim (cases_Bool (is_below matched said best)) [
  | inl below ↦ ap (λ (t : Bool). is_below matched (cond t best said) said) below
      ∙ precedes-back (key matched said) (key matched best) below
  | inr above ↦ ap (λ (t : Bool). is_below matched (cond t best said) said) above ∙ precedes-same (key matched said)
]

-- the greatest, beginning with one
from : List Candidate → Source → List Source → Source
from matched best [] = best
from matched best (s ∷ ss) = from matched (greater_of matched best s) ss

from-fold : (matched : List Candidate) (best : Source) (ss : List Source)
    → fold (greater matched) (Some best) ss ≡ Some (from matched best ss)
unfolding from greater
from-fold matched best [] = refl
from-fold matched best (s ∷ ss) = from-fold matched (greater_of matched best s) ss

from-least : (matched : List Candidate) (best low : Source) (ss : List Source) → IsAtMost matched low best
    → IsAtMost matched low (from matched best ss)
unfolding from
from-least matched best low [] p = p
from-least matched best low (s ∷ ss) p =
    from-least matched (greater_of matched best s) low ss
    (at_most-trans matched low best (greater_of matched best s) p (greater-first matched best s))

from-all : (matched : List Candidate) (best low : Source) (ss : List Source) → In low ss
    → IsAtMost matched low (from matched best ss)
unfolding from
from-all matched best low [] is = absurd is
from-all matched best low (s ∷ ss) (inl same) =
    from-least matched (greater_of matched best s) low ss
    (subst (λ (l : Source). IsAtMost matched l (greater_of matched best s)) (sym same) (greater-second matched best s))
from-all matched best low (s ∷ ss) (inr further) = from-all matched (greater_of matched best s) low ss further

from-in : (matched : List Candidate) (best : Source) (ss : List Source)
    → (from matched best ss ≡ best) ⊎ In (from matched best ss) ss
unfolding from
from-in matched best [] = inl refl
from-in matched best (s ∷ ss) = elim (from-in matched (greater_of matched best s) ss) [
  | inr further ↦ inr (inr further)
  | inl first ↦ elim (cases_Bool (is_below matched s best)) [
    | inl below ↦ inl (first ∙ ap (λ (t : Bool). cond t best s) below)
    | inr above ↦ inr (inl (first ∙ ap (λ (t : Bool). cond t best s) above))
  ]
]

the_first : (matched : List Candidate) (s best : Source) (ss : List Source) → greatest matched (s ∷ ss) ≡ Some best
    → from matched s ss ≡ best
unfolding greater
the_first matched s best ss e = let h : Some (from matched s ss) ≡ Some best = sym (from-fold matched s ss) ∙ e in cc

pub greatest-in : (matched : List Candidate) (ss : List Source) (best : Source) → greatest matched ss ≡ Some best
    → In best ss
greatest-in matched [] best e = absurd (cc)
greatest-in matched (s ∷ ss) best e =
    subst (λ (b : Source). In b (s ∷ ss)) (the_first matched s best ss e) (from-in matched s ss)

pub greatest-none_above : (matched : List Candidate) (ss : List Source) (best low : Source)
    → greatest matched ss ≡ Some best → In low ss → IsAtMost matched low best
greatest-none_above matched [] best low e is = absurd is
greatest-none_above matched (s ∷ ss) best low e (inl same) =
    subst (λ (b : Source). IsAtMost matched low b) (the_first matched s best ss e)
    (from-least matched s low ss
    (subst (λ (l : Source). IsAtMost matched low l) same (precedes-same (key matched low))))
greatest-none_above matched (s ∷ ss) best low e (inr further) =
    subst (λ (b : Source). IsAtMost matched low b) (the_first matched s best ss e) (from-all matched s low ss further)

-- there is a greatest of any
pub greatest-none : (matched : List Candidate) (ss : List Source) (low : Source) → greatest matched ss ≡ None
    → In low ss → ⊥
unfolding greater
greatest-none matched [] low e is = is
greatest-none matched (s ∷ ss) low e is =
    let h : Some (from matched s ss) ≡ None = sym (from-fold matched s ss) ∙ e in cc
