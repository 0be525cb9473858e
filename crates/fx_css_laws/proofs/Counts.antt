-- Where declarations and rules are first past a limit.
-- Cited by the laws of declarations and of rules.
use Rattle.std.proofs.Common.{◌≡◌, ℕ, zero, suc, ◌+◌, ◌<◌, ◌≤◌, true, false, cond, List, [], ◌∷◌, ◌++◌, Option, Some, None, refl, sym, ap, ◌∙◌, subst, arith, inl, inr}
use Rattle.std.specs.Prelude.{All, nat_le}
use Rattle.std.specs.Option.{option_to_list}
use Rattle.std.proofs.lemmas.Bool.Decides.{nat_tests}
use Rattle.std.proofs.lemmas.List.Elements.{All-nil, All-cons}
use Rattle.fx_css.specs.declared.declarations.Kept.{Kept}
use Rattle.fx_css.specs.Pieces.{past_declarations}
use Rattle.fx_css.specs.Rules.{Reading, past_rules}
use Rattle.fx_css.specs.Sheets.{IsFirstNumber}
use Rattle.fx_css_laws.specs.Counts.{IsPastDeclaration, IsPastRule}

reached : (n m : ℕ) → n ≤ m → nat_le n m ≡ true
reached n m h = grind (arith, nat_tests, h)

not_reached : (n m : ℕ) → m < n → nat_le n m ≡ false
not_reached n m h = grind (arith, nat_tests, h)

-- declarations

IsOpen : Kept → Type 0
IsOpen k = k.past ≡ None

no_declaration : All (λ (k : Kept). k.past ≡ None) []
no_declaration = All-nil (λ (k : Kept). k.past ≡ None)

one_more : (room : ℕ) (k : Kept) (ks : List Kept) (number : ℕ) → k.past ≡ None → IsPastDeclaration room ks number → IsPastDeclaration (suc room) (k ∷ ks) number
unfolding IsOpen
one_more room k ks number none p = record {
  before = k ∷ p.before;
  next = p.next;
  behind = p.behind;
  cut = ap (λ y. k ∷ y) p.cut;
  within = All-cons IsOpen k p.before none p.within;
  why = elim (p.why) [
    | inl w ↦ inl (ap suc w.0, w.1)
    | inr w ↦ inr (let few = w.0 in omega (arith, few), w.1)
  ];
}

by_layer : (n room : ℕ) (k : Kept) (ks : List Kept) (number : ℕ) (o : Option ℕ) → k.past ≡ o → (IsFirstNumber (past_declarations (suc n) ks) number → IsPastDeclaration room ks number)
    → IsFirstNumber (option_to_list o ++ past_declarations (suc n) ks) number → IsPastDeclaration (suc room) (k ∷ ks) number
by_layer n room k ks number None e more first = one_more room k ks number e (more first)
by_layer n room k ks number (Some m) e more first = record {
  before = [];
  next = k;
  behind = ks;
  cut = refl;
  within = no_declaration;
  why = inr (omega arith, e ∙ ap (λ y. Some y) first);
}

pub first_declaration : (n room : ℕ) (all : List Kept) (number : ℕ) → n + room ≡ 256 → IsFirstNumber (past_declarations n all) number → IsPastDeclaration room all number
first_declaration n room [] number sum first = absurd first
first_declaration n zero (k ∷ ks) number sum first =
    let here : k.start ≡ number =
    subst (λ b. IsFirstNumber (cond b (k.start ∷ []) [] ++ (option_to_list k.past ++ past_declarations (suc n) ks)) number) (reached 256 n (omega (arith, sum))) first in
    record { before = []; next = k; behind = ks; cut = refl; within = no_declaration; why = inl (refl, sym here) }
first_declaration n (suc room) (k ∷ ks) number sum first =
    by_layer n room k ks number k.past refl (λ later. first_declaration (suc n) room ks number (omega (arith, sum)) later)
    (subst (λ b. IsFirstNumber (cond b (k.start ∷ []) [] ++ (option_to_list k.past ++ past_declarations (suc n) ks)) number) (not_reached 256 n (omega (arith, sum))) first)

-- rules

IsClear : Reading → Type 0
IsClear r = r.past ≡ []

no_rule : All (λ (r : Reading). r.past ≡ []) []
no_rule = All-nil (λ (r : Reading). r.past ≡ [])

rule_more : (room : ℕ) (r : Reading) (rs : List Reading) (number : ℕ) → r.past ≡ [] → IsPastRule room rs number → IsPastRule (suc room) (r ∷ rs) number
unfolding IsClear
rule_more room r rs number none p = record {
  before = r ∷ p.before;
  next = p.next;
  behind = p.behind;
  cut = ap (λ y. r ∷ y) p.cut;
  within = All-cons IsClear r p.before none p.within;
  why = elim (p.why) [
    | inl w ↦ inl (ap suc w.0, w.1)
    | inr w ↦ inr (let few = w.0 in omega (arith, few), w.1)
  ];
}

by_inside : (n room : ℕ) (r : Reading) (rs : List Reading) (number : ℕ) (inside : List ℕ) → r.past ≡ inside → (IsFirstNumber (past_rules (suc n) rs) number → IsPastRule room rs number)
    → IsFirstNumber (inside ++ past_rules (suc n) rs) number → IsPastRule (suc room) (r ∷ rs) number
by_inside n room r rs number [] e more first = rule_more room r rs number e (more first)
by_inside n room r rs number (m ∷ ms) e more first = record {
  before = [];
  next = r;
  behind = rs;
  cut = refl;
  within = no_rule;
  why = inr (omega arith, subst (λ y. IsFirstNumber y number) (sym e) first);
}

pub first_rule : (n room : ℕ) (all : List Reading) (number : ℕ) → n + room ≡ 4096 → IsFirstNumber (past_rules n all) number → IsPastRule room all number
first_rule n room [] number sum first = absurd first
first_rule n zero (r ∷ rs) number sum first =
    let here : r.start ≡ number =
    subst (λ b. IsFirstNumber (cond b (r.start ∷ []) [] ++ (r.past ++ past_rules (suc n) rs)) number) (reached 4096 n (omega (arith, sum))) first in
    record { before = []; next = r; behind = rs; cut = refl; within = no_rule; why = inl (refl, sym here) }
first_rule n (suc room) (r ∷ rs) number sum first =
    by_inside n room r rs number r.past refl (λ later. first_rule (suc n) room rs number (omega (arith, sum)) later)
    (subst (λ b. IsFirstNumber (cond b (r.start ∷ []) [] ++ (r.past ++ past_rules (suc n) rs)) number) (not_reached 4096 n (omega (arith, sum))) first)
