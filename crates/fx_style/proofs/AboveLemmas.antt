-- What is taken of the styles of a node's ancestors, gathered from the nearest up.
use Rattle.std.proofs.Common.{◌≡◌, ◌++◌, ◌∷◌, [], ◌<◌, ℕ, suc, List, Option, Some, None, length, refl, sym, ◌∙◌, ap, subst, arith, append_assoc}
use Rattle.std.specs.Prelude.{option_to_list}
use Rattle.std.specs.List.{cons_option, filter_map}
use Rattle.std.specs.Option.{option_map_or}
use Rattle.std.proofs.lemmas.List.{append-nil}
use Rattle.fx_kinds.specs.declared.facts.StyleFacts.{StyleFacts}
use Rattle.fx_select.specs.Chains.{ParentsStandBefore}
use Rattle.fx_look.specs.declared.looks.Look.{Look}
use Rattle.fx_lookup.specs.declared.named.NamedPaint.{NamedPaint}
use Rattle.fx_node_style.specs.declared.node_styles.NodeStyle.{NodeStyle}
use Rattle.fx_node_style.specs.Styling.{look_above}
use Rattle.fx_style.specs.Above.{if_some, some_paints}
use Rattle.fx_style.specs.Places.{parent_at, places_up}
use Rattle.fx_style.proofs.PlaceLemmas.{parent_before, places-none, places-some}

-- the style that each place has by now
abbrev pub Now : Type 0
Now = ℕ → Option NodeStyle

-- what is made of a list's first element goes in front
pub made_first : {X Y : Type 0} (f : X → Option Y) (x : X) (y : Y) (xs : List X) → f x ≡ Some y
    → filter_map f (x ∷ xs) ≡ y ∷ filter_map f xs
made_first {X} {Y} f x y xs e = ap (λ (o : Option Y). cons_option o (filter_map f xs)) e

-- a place's styles are its own and those from its parent up
up_from : (now : Now) (facts : List StyleFacts) → ParentsStandBefore facts → (at : ℕ) (place : Option ℕ)
    (o : Option NodeStyle) → at < length facts → place ≡ Some at → now at ≡ o
    → cons_option o (filter_map now (places_up facts (parent_at facts at))) ≡ filter_map now (places_up facts place)
up_from now facts before at place o within is made =
    ap (λ (s : Option NodeStyle). cons_option s (filter_map now (places_up facts (parent_at facts at)))) (sym made)
    ∙ ap (filter_map now) (sym (places-some facts before at within))
    ∙ ap (λ (p : Option ℕ). filter_map now (places_up facts p)) (sym is)

up_none : (now : Now) (facts : List StyleFacts) (place : Option ℕ) → place ≡ None
    → [] ≡ filter_map now (places_up facts place)
up_none now facts place none = ap (filter_map now) (sym (ap (places_up facts) none ∙ places-none facts))

cons_some : (o : Option NodeStyle) (xs : List NodeStyle)
    → some_paints (cons_option o xs) ≡ some_paints (option_to_list o) ++ some_paints xs
cons_some None xs = refl
cons_some (Some s) xs = ap (λ (l : List (List NamedPaint)). l ++ some_paints xs) (sym (append-nil (if_some s.paints)))

-- one place further up
pub climbs : (now : Now) (facts : List StyleFacts) → ParentsStandBefore facts → (at : ℕ) (place : Option ℕ)
    (old new all : List (List NamedPaint)) → at < length facts → place ≡ Some at
    → new ≡ old ++ some_paints (option_to_list (now at))
    → old ++ some_paints (filter_map now (places_up facts place)) ≡ all
    → new ++ some_paints (filter_map now (places_up facts (parent_at facts at))) ≡ all
climbs now facts before at place old new all within is made so_far =
    let up = filter_map now (places_up facts (parent_at facts at)) in
    ap (λ (l : List (List NamedPaint)). l ++ some_paints up) made
    ∙ append_assoc old (some_paints (option_to_list (now at))) (some_paints up)
    ∙ ap (λ (l : List (List NamedPaint)). old ++ l) (sym (cons_some (now at) up))
    ∙ ap (λ (l : List NodeStyle). old ++ some_paints l) (up_from now facts before at place (now at) within is refl)
    ∙ so_far

pub climbed : (now : Now) (facts : List StyleFacts) (place : Option ℕ) (old all : List (List NamedPaint))
    → place ≡ None → old ++ some_paints (filter_map now (places_up facts place)) ≡ all → old ≡ all
climbed now facts place old all none so_far =
    sym (append-nil old)
    ∙ ap (λ (l : List NodeStyle). old ++ some_paints l) (up_none now facts place none)
    ∙ so_far

pub look_climbs : (now : Now) (facts : List StyleFacts) → ParentsStandBefore facts → (at : ℕ) (place : Option ℕ)
    (all : Option Look) → at < length facts → place ≡ Some at → now at ≡ None
    → look_above (filter_map now (places_up facts place)) ≡ all
    → look_above (filter_map now (places_up facts (parent_at facts at))) ≡ all
look_climbs now facts before at place all within is none so_far =
    ap look_above (up_from now facts before at place None within is none) ∙ so_far

pub look_found : (now : Now) (facts : List StyleFacts) → ParentsStandBefore facts → (at : ℕ) (place : Option ℕ)
    (all : Option Look) (style : NodeStyle) → at < length facts → place ≡ Some at → now at ≡ Some style
    → look_above (filter_map now (places_up facts place)) ≡ all → Some style.look ≡ all
look_found now facts before at place all style within is found so_far =
    ap look_above (up_from now facts before at place (Some style) within is found) ∙ so_far

pub look_none : (now : Now) (facts : List StyleFacts) (place : Option ℕ) (all : Option Look) → place ≡ None
    → look_above (filter_map now (places_up facts place)) ≡ all → None ≡ all
look_none now facts place all none so_far = ap look_above (up_none now facts place none) ∙ so_far

pub smaller : (facts : List StyleFacts) → ParentsStandBefore facts → (place next : Option ℕ) (at : ℕ)
    → place ≡ Some at → next ≡ parent_at facts at → option_map_or suc next 0 < option_map_or suc place 0
smaller facts before place next at is e =
    subst (λ (p : Option ℕ). option_map_or suc next 0 < option_map_or suc p 0) (sym is) (smaller_by next refl)
  where
    smaller_by : (o : Option ℕ) → next ≡ o → option_map_or suc o 0 < suc at
    smaller_by None none = omega arith
    smaller_by (Some p) some = let h : p < at = parent_before facts before at p (sym e ∙ some) in omega arith

pub there_next : (facts : List StyleFacts) → ParentsStandBefore facts → (place next : Option ℕ) (at n : ℕ)
    → place ≡ Some at → next ≡ parent_at facts at → ((x : ℕ) → place ≡ Some x → x < n)
    → (x : ℕ) → next ≡ Some x → x < n
there_next facts before place next at n is e there x some =
    let h : x < at = parent_before facts before at x (sym e ∙ some) in let k : at < n = there at is in omega arith
