-- The nodes of an update apart, one after another.
use Rattle.std.proofs.Common.{◌≡◌, ◌++◌, ◌∷◌, [], ◌<◌, ◌≤◌, ◌+◌, ℕ, Bool, true, false, ◌||◌, eqb, List, Option, Some, None, Result, Ok, Err, get_or, take, length, refl, sym, ◌∙◌, ap, subst, arith, inl, inr}
use Rattle.std.specs.Prelude.{slice_get, IfOk, IfSome, option_and_then}
use Rattle.std.specs.List.{list_any}
use Rattle.std.proofs.lemmas.Bool.{cases_eq, ne_eqb, true≢false}
use Rattle.std.proofs.lemmas.List.{take_more}
use Rattle.std.proofs.lemmas.Option.{slice_get_within}
use Rattle.fx_css_types.specs.declared.sheets.SheetAt.{SheetAt}
use Rattle.fx_kinds.specs.declared.facts.StyleFacts.{StyleFacts}
use Rattle.fx_select.specs.Chains.{ParentsStandBefore}
use Rattle.fx_style.specs.declared.kept.Rest.{Rest}
use Rattle.fx_style.specs.Kept.{Kept, is_among}
use Rattle.fx_style.specs.Lasts.{AreStylesOf}
use Rattle.fx_style.specs.Parting.{AreParts, IsPart, IsParted, is_under}
use Rattle.fx_style.specs.Places.{parent_at}
use Rattle.fx_style.proofs.PlaceLemmas.{places-none, places-some}

push_other : (places : List ℕ) (p k : ℕ) → (p ≡ k → ⊥) → is_among (places ++ p ∷ []) k ≡ is_among places k
push_other [] p k differ = ap (λ (b : Bool). b || false) (ne_eqb p k differ)
push_other (q ∷ qs) p k differ = ap (λ (b : Bool). eqb q k || b) (push_other qs p k differ)

or_true : (b : Bool) → (b || true) ≡ true
or_true true = refl
or_true false = refl

-- the nodes below a place are apart, and none from it on is left yet
pub record ArePartsBelow (last : Option (List StyleFacts)) (facts : List StyleFacts) (rest : List Rest)
    (marks : List Bool) (there : List Bool) (left : List ℕ) (at : ℕ) : Type 0 where
  pub long : length there ≡ length facts
  pub each : (k : ℕ) → k < at → IsPart last facts rest marks (get_or there k false) (is_among left k) k
  pub later : (k : ℕ) → at ≤ k → is_among left k ≡ false

-- ---- ancestors

-- one more of a list of places
pub each_more : (P : ℕ → Type 0) (places : List ℕ) (i x : ℕ) → i < length places → x ≡ get_or places i x
    → ((at : ℕ) → is_among (take i places) at ≡ true → P at) → P x
    → (at : ℕ) → is_among (take (i + 1) places) at ≡ true → P at
each_more P places i x within is before here at among = elim (cases_eq x at) [
  | inl same ↦ subst P same here
  | inr differ ↦ before at
      (sym (push_other (take i places) x at differ)
      ∙ ap (λ (n : ℕ). is_among (take i places ++ n ∷ []) at) is
      ∙ ap (λ (l : List ℕ). is_among l at) (sym (take_more places i x within))
      ∙ among)
]

-- the first place up isn't marked
pub under_up : (there : List Bool) (facts : List StyleFacts) → ParentsStandBefore facts → (at : ℕ) → at < length facts
    → get_or there at false ≡ false → is_under there facts (Some at) ≡ is_under there facts (parent_at facts at)
under_up there facts before at within off =
    ap (list_any (λ (p : ℕ). get_or there p false)) (places-some facts before at within)
    ∙ ap (λ (b : Bool). b || is_under there facts (parent_at facts at)) off

-- the first place up is marked
pub under_here : (there : List Bool) (facts : List StyleFacts) → ParentsStandBefore facts → (at : ℕ) → at < length facts
    → get_or there at false ≡ true → is_under there facts (Some at) ≡ true
under_here there facts before at within on =
    ap (list_any (λ (p : ℕ). get_or there p false)) (places-some facts before at within)
    ∙ ap (λ (b : Bool). b || is_under there facts (parent_at facts at)) on

pub under_none : (there : List Bool) (facts : List StyleFacts) → is_under there facts None ≡ false
under_none there facts = ap (list_any (λ (p : ℕ). get_or there p false)) (places-none facts)

pub parent_within : (facts : List StyleFacts) → ParentsStandBefore facts → (at p : ℕ) → parent_at facts at ≡ Some p
    → p < length facts
parent_within facts before at p e = found (slice_get facts at) refl e
  where
    found : (o : Option StyleFacts) → slice_get facts at ≡ o
        → option_and_then (λ (node : StyleFacts). node.parent) o ≡ Some p → p < length facts
    found None none up = absurd (cc)
    found (Some node) is up =
        let less : p < at = before at p node is up in
        let within : at < length facts = slice_get_within facts at node is in
        omega arith

-- ---- the whole

pub parted_of : (sheets : List SheetAt) (facts : List StyleFacts) (restyle : List ℕ) (marks : List Bool) (old : Kept)
    (last : Option (List StyleFacts)) (there : List Bool) (left : List ℕ)
    → IfSome last (AreStylesOf sheets facts restyle old.looks old.rest)
    → ((at : ℕ) → at < length facts → get_or marks at false ≡ is_among restyle at)
    → (length old.looks ≡ length facts) × (length old.rest ≡ length facts)
    → AreParts last facts old.rest marks there left → IsParted sheets facts restyle old there left
parted_of sheets facts restyle marks old None there left are marked long parts =
    absurd (true≢false (sym parts.given))
parted_of sheets facts restyle marks old (Some olds) there left are marked long parts = record {
  olds = olds;
  are = are;
  marks = marks;
  marked = marked;
  looks = long.0;
  rest = long.1;
  parts = parts;
}

pub if_found : {X E : Type 0} {P Q : X → Type 0} (r : Result (Option X) E) → ((x : X) → P x → Q x)
    → IfOk r (λ (o : Option X). IfSome o P) → IfOk r (λ (o : Option X). IfSome o Q)
if_found (Ok None) more p = tt
if_found (Ok (Some x)) more p = more x p
if_found (Err e) more p = tt
