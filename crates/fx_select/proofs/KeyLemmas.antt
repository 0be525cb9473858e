-- A selector that matches a node is listed under something that the node has.
use Rattle.std.proofs.Common.{◌≡◌, ℕ, Bool, true, false, ◌&&◌, List, [], ◌∷◌, map, reverse, Option, Some, None, inl, inr, refl, sym}
use Rattle.std.specs.List.{list_all}
use Rattle.std.specs.Str.{bytes_eq}
use Rattle.std.proofs.lemmas.Bool.{false≢true}
use Rattle.std.proofs.lemmas.Slice.Eq.{bytes_eq-Decides}
use Rattle.fx_css_types.specs.declared.selectors.Compound.{Compound}
use Rattle.fx_css_types.specs.declared.selectors.Selector.{Selector}
use Rattle.fx_kinds.specs.declared.facts.StyleFacts.{StyleFacts}
use Rattle.fx_kinds.specs.Classes.{name_of}
use Rattle.fx_select.specs.Hits.{keys_of}
use Rattle.fx_select.specs.Keys.{Key, ByClass, ById, ByKind, InRest, is_same_key, key_by, key_of, key_of_last}
use Rattle.fx_select.specs.Matching.{fits, fits_kind, has_text, matches_before, matches_chain, matches_up}
use Rattle.fx_select.proofs.MemberLemmas.{In, in-any, in-left, in-map, in-right}

and-true : (a b : Bool) → (a && b) ≡ true → (a ≡ true) × (b ≡ true)
and-true true b e = (refl, e)
and-true false b e = absurd (false≢true e)

pub turned : (one other : List ℕ) → bytes_eq one other ≡ true → bytes_eq other one ≡ true
turned one other e = (bytes_eq-Decides other one).1 (sym ((bytes_eq-Decides one other).0 e))

-- the node has a key that is the same as this one
HasKey : StyleFacts → Key → Type 0
HasKey node key = (own : Key) × In own (keys_of node) × (is_same_key own key ≡ true)

key-by-parts : (node : StyleFacts) (ids classes : List (List ℕ)) (kind : Option (List ℕ)) → fits_kind kind node.class ≡ true
    → list_all (has_text node.classes) classes ≡ true → list_all (λ (id : List ℕ). bytes_eq id node.id) ids ≡ true
    → HasKey node (key_by ids classes kind)
unfolding HasKey In
key-by-parts node (id ∷ ids) classes kind has_kind has_classes has_ids =
    (ById node.id, inl refl, turned id node.id (and-true (bytes_eq id node.id) (list_all (λ (i : List ℕ). bytes_eq i node.id) ids) has_ids).0)
key-by-parts node [] (class ∷ classes) kind has_kind has_classes has_ids =
    let found = in-any (λ (one : List ℕ). bytes_eq one class) node.classes
    (and-true (has_text node.classes class) (list_all (has_text node.classes) classes) has_classes).0 in (
      ByClass found.0,
      inr (in-left (ByClass found.0) (map ByClass node.classes) (ByKind (name_of node.class) ∷ InRest ∷ []) (in-map ByClass found.0 node.classes found.1)),
      found.2,
    )
key-by-parts node [] [] (Some kind) has_kind has_classes has_ids = (
  ByKind (name_of node.class),
  inr (in-right (ByKind (name_of node.class)) (map ByClass node.classes) (ByKind (name_of node.class) ∷ InRest ∷ []) (inl refl)),
  turned kind (name_of node.class) has_kind,
)
key-by-parts node [] [] None has_kind has_classes has_ids =
    (InRest, inr (in-right InRest (map ByClass node.classes) (ByKind (name_of node.class) ∷ InRest ∷ []) (inr (inl refl))), refl)

key-of-last : (node : StyleFacts) (above : List StyleFacts) (compounds : List Compound) → matches_up compounds (node ∷ above) ≡ true
    → HasKey node (key_of_last compounds)
unfolding matches_up fits
key-of-last node above [] matched = absurd (false≢true matched)
key-of-last node above (last ∷ before) matched =
    let kinds : Bool = fits_kind last.kind node.class in
    let classes : Bool = list_all (has_text node.classes) last.classes in
    let ids : Bool = list_all (λ (id : List ℕ). bytes_eq id node.id) last.ids in
    let pseudos : Bool = list_all (has_text node.pseudos) last.pseudos in
    let all : (((kinds && classes) && ids) && pseudos) ≡ true =
    (and-true (((kinds && classes) && ids) && pseudos) (matches_before last.combinator (matches_up before) above) matched).0 in
    let three : ((kinds && classes) && ids) ≡ true = (and-true ((kinds && classes) && ids) pseudos all).0 in
    let two : (kinds && classes) ≡ true = (and-true (kinds && classes) ids three).0 in
    key-by-parts node last.ids last.classes last.kind (and-true kinds classes two).0 (and-true kinds classes two).1 (and-true (kinds && classes) ids three).1

pub key-found : (selector : Selector) (node : StyleFacts) (above : List StyleFacts) → matches_chain selector (node ∷ above) ≡ true
    → (own : Key) × In own (keys_of node) × (is_same_key own (key_of selector) ≡ true)
unfolding HasKey
key-found selector node above matched = key-of-last node above (reverse selector.compounds) matched
