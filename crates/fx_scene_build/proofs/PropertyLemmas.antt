-- The names of properties, one after another.
use Rattle.std.proofs.Common.{◌≡◌, ◌<◌, ◌≤◌, ℕ, ◌+◌, List, [], ◌∷◌, ◌++◌, length, get_or, drop, Result, Ok, Err, Vec, refl, sym, ◌∙◌, ap, subst, append_assoc}
use Rattle.std.proofs.lemmas.List.{append-nil, at_drop_all, drop_more}
use Rattle.std.specs.Global.{Global}
use Rattle.std.specs.Result.{IsErrAnd}
use Rattle.fx_base.specs.declared.keys.Name.{Name}
use Rattle.fx_stage_types.specs.declared.answers.StageError.{StageError}
use Rattle.fx_stage_types.specs.declared.answers.StageError.TheVariants.{Refused}
use Rattle.fx_stage_types.specs.declared.refusals.Refusal.{Refusal}
use Rattle.fx_stage_model.specs.Answers.{and_then}
use Rattle.fx_scene_plan.specs.declared.steps.PlannedProperty.{PlannedProperty}
use Rattle.fx_scene_plan.specs.Plans.{Says, Standing, properties_at, property_at}

-- names in front of those that are still looked up
abbrev pub behind : List Name → Result (List Name) Refusal → Result (List Name) Refusal
behind found (Ok names) = Ok (found ++ names)
behind found (Err word) = Err word

abbrev pub first_then : Name → Result (List Name) Refusal → Result (List Name) Refusal
first_then name others = and_then others (λ (names : List Name). Ok (name ∷ names))

pub none_left : (found : List Name) (standing : Standing) → behind found (properties_at standing []) ≡ Ok found
unfolding properties_at
none_left found standing = ap (λ (names : List Name). Ok names) (append-nil found)

pub next_found : (found : List Name) (standing : Standing) (one : PlannedProperty) (others : List PlannedProperty)
    (name : Name) → property_at standing one ≡ Ok name
    → behind found (properties_at standing (one ∷ others)) ≡ behind (found ++ (name ∷ [])) (properties_at standing others)
unfolding properties_at
next_found found standing one others name e =
    ap (λ (r : Result Name Refusal). behind found (and_then r (λ (n : Name). first_then n (properties_at standing others)))) e
    ∙ joined (properties_at standing others)
  where
    joined : (r : Result (List Name) Refusal) → behind found (first_then name r) ≡ behind (found ++ (name ∷ [])) r
    joined (Ok names) = ap (λ (all : List Name). Ok all) (sym (append_assoc found (name ∷ []) names))
    joined (Err word) = refl

pub next_missing : (found : List Name) (standing : Standing) (one : PlannedProperty) (others : List PlannedProperty)
    (word : Refusal) → property_at standing one ≡ Err word
    → behind found (properties_at standing (one ∷ others)) ≡ Err word
unfolding properties_at
next_missing found standing one others word e =
    ap (λ (r : Result Name Refusal). behind found (and_then r (λ (n : Name). first_then n (properties_at standing others)))) e

-- a turn of the loop over all of them

at : (standing : Standing) (all : List PlannedProperty) (i : ℕ) (one : PlannedProperty) → i < length all
    → one ≡ get_or all i one → properties_at standing (drop i all) ≡ properties_at standing (one ∷ drop (i + 1) all)
at standing all i one h is =
    ap (properties_at standing)
    (drop_more all i one h ∙ ap (λ (p : PlannedProperty). p ∷ drop (i + 1) all) (sym is))

pub turn_found : (found now : List Name) (standing : Standing) (all : List PlannedProperty) (i : ℕ)
    (one : PlannedProperty) (name : Name) → i < length all → one ≡ get_or all i one → Ok name ≡ property_at standing one
    → now ≡ found ++ (name ∷ [])
    → behind found (properties_at standing (drop i all)) ≡ properties_at standing all
    → behind now (properties_at standing (drop (i + 1) all)) ≡ properties_at standing all
turn_found found now standing all i one name h is e more so_far =
    ap (λ (names : List Name). behind names (properties_at standing (drop (i + 1) all))) more
    ∙ (sym (next_found found standing one (drop (i + 1) all) name (sym e))
    ∙ (ap (behind found) (sym (at standing all i one h is)) ∙ so_far))

pub turn_missing : (found : List Name) (standing : Standing) (all : List PlannedProperty) (i : ℕ)
    (one : PlannedProperty) (word : Refusal) (result : Result (Vec Name Global) StageError) → i < length all
    → one ≡ get_or all i one → Err word ≡ property_at standing one
    → behind found (properties_at standing (drop i all)) ≡ properties_at standing all
    → IsErrAnd result (λ error. error ≡ Refused word)
    → Says (λ names. names.items) (properties_at standing all) result
turn_missing found standing all i one word (Ok names) h is e so_far told = absurd told
turn_missing found standing all i one word (Err error) h is e so_far told =
    let IsTold : StageError → Type 0 =
    λ x. Says {A = Vec Name Global} (λ names. names.items) (properties_at standing all) (Err x) in
    let missing : properties_at standing all ≡ Err word =
    sym so_far ∙ (ap (behind found) (at standing all i one h is)
    ∙ next_missing found standing one (drop (i + 1) all) word (sym e)) in
    subst IsTold (sym told) missing

pub all_found : (found : List Name) (standing : Standing) (all : List PlannedProperty) (i : ℕ) → length all ≤ i
    → behind found (properties_at standing (drop i all)) ≡ properties_at standing all
    → properties_at standing all ≡ Ok found
all_found found standing all i h so_far =
    sym so_far ∙ (ap (behind found) (at_drop_all (properties_at standing) all i h) ∙ none_left found standing)
