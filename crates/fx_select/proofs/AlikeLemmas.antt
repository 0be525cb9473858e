-- An id that no selector asks for changes no match.
use Rattle.std.proofs.Common.{◌≡◌, ◌∙◌, ℕ, Bool, true, false, ◌&&◌, ◌||◌, cond, List, [], ◌∷◌, reverse, Option, Some, None, inl, inr, refl, sym, ap, subst}
use Rattle.std.specs.Prelude.{◌==◌, slice_get}
use Rattle.std.specs.Option.{option_map, option_to_list}
use Rattle.std.specs.List.{cons_option, filter_map, list_all, list_any}
use Rattle.std.specs.Str.{bytes_eq}
use Rattle.std.proofs.lemmas.Bool.{cases_Bool}
use Rattle.fx_css_types.specs.Specificity.{specificity_of}
use Rattle.fx_css_types.specs.declared.selectors.Compound.{Compound}
use Rattle.fx_css_types.specs.declared.selectors.Selector.{Selector}
use Rattle.fx_css_types.specs.declared.sheets.Rule.{Rule}
use Rattle.fx_css_types.specs.declared.sheets.SheetAt.{SheetAt}
use Rattle.fx_kinds.specs.declared.classes.Class.{Class}
use Rattle.fx_kinds.specs.declared.facts.StyleFacts.{StyleFacts}
use Rattle.fx_select.specs.declared.lists.SelectorAt.{SelectorAt}
use Rattle.fx_select.specs.AllMatching.{matching_in, matching_rule, rule_weights}
use Rattle.fx_select.specs.Alike.{AreAlike, IsUnasked, MatchAlike}
use Rattle.fx_select.specs.Hits.{candidate, is_inline, is_own, is_place, is_visible, lists_sheet, selector_weight}
use Rattle.fx_select.specs.Keys.{ById, Key, is_same_key, key_by, key_of, key_of_last}
use Rattle.fx_select.specs.Listing.{IsListing, Listing, listed}
use Rattle.fx_select.specs.Matching.{fits, fits_kind, has_text, matches_before, matches_chain, matches_up}
use Rattle.fx_select.specs.Strongest.{greatest}
use Rattle.fx_select.proofs.KeyLemmas.{turned}
use Rattle.fx_select.proofs.LawLemmas.{entry-in, listed-in, place, selector-entry}
use Rattle.fx_select.proofs.MemberLemmas.{In, each-agree, get-in}

filter_map-agree : {X Y : Type 0} (f g : X → Option Y) (xs : List X) → ((x : X) → In x xs → f x ≡ g x)
    → filter_map f xs ≡ filter_map g xs
unfolding In
filter_map-agree f g [] same = refl
filter_map-agree {X} {Y} f g (x ∷ xs) same =
    ap (λ (o : Option Y). cons_option o (filter_map f xs)) (same x (inl refl))
    ∙ ap (cons_option (g x)) (filter_map-agree f g xs (λ y further. same y (inr further)))

-- none of these ids is the node's, if there are any
IsOther : List (List ℕ) → StyleFacts → Type 0
IsOther [] node = Unit {0}
IsOther (id ∷ ids) node = bytes_eq id node.id ≡ false

has_ids : StyleFacts → List (List ℕ) → Bool
has_ids node ids = list_all (λ (id : List ℕ). bytes_eq id node.id) ids

no-id : (node : StyleFacts) (id : List ℕ) (ids : List (List ℕ)) → bytes_eq id node.id ≡ false
    → has_ids node (id ∷ ids) ≡ false
unfolding has_ids
no-id node id ids other = ap (λ (b : Bool). b && list_all (λ (i : List ℕ). bytes_eq i node.id) ids) other

ids-same : (one other : StyleFacts) (ids : List (List ℕ)) → IsOther ids one → IsOther ids other
    → has_ids one ids ≡ has_ids other ids
unfolding IsOther has_ids
ids-same one other [] not_one not_other = refl
ids-same one other (id ∷ ids) not_one not_other = no-id one id ids not_one ∙ sym (no-id other id ids not_other)

fits-same : (one other : StyleFacts) → AreAlike one other → (last : Compound) → IsOther last.ids one
    → IsOther last.ids other → fits last one ≡ fits last other
unfolding fits has_ids
fits-same one other alike last not_one not_other =
    ap (λ (class : Class). ((fits_kind last.kind class && list_all (has_text one.classes) last.classes)
    && has_ids one last.ids) && list_all (has_text one.pseudos) last.pseudos) alike.class
    ∙ ap (λ (classes : List (List ℕ)). ((fits_kind last.kind other.class && list_all (has_text classes) last.classes)
    && has_ids one last.ids) && list_all (has_text one.pseudos) last.pseudos) alike.classes
    ∙ ap (λ (b : Bool). ((fits_kind last.kind other.class && list_all (has_text other.classes) last.classes)
    && b) && list_all (has_text one.pseudos) last.pseudos) (ids-same one other last.ids not_one not_other)
    ∙ ap (λ (pseudos : List (List ℕ)). ((fits_kind last.kind other.class
    && list_all (has_text other.classes) last.classes)
    && has_ids other last.ids) && list_all (has_text pseudos) last.pseudos) alike.pseudos

-- the ids of the compound that comes first here
ids_of : List Compound → List (List ℕ)
ids_of [] = []
ids_of (last ∷ before) = last.ids

matches-same : (one other : StyleFacts) (above : List StyleFacts) → AreAlike one other → (compounds : List Compound)
    → IsOther (ids_of compounds) one → IsOther (ids_of compounds) other
    → matches_up compounds (one ∷ above) ≡ matches_up compounds (other ∷ above)
unfolding matches_up ids_of
matches-same one other above alike [] not_one not_other = refl
matches-same one other above alike (last ∷ before) not_one not_other =
    ap (λ (b : Bool). b && matches_before last.combinator (matches_up before) above)
    (fits-same one other alike last not_one not_other)

visible-same : (one other : StyleFacts) (above : List StyleFacts) → AreAlike one other → (sheet : ℕ)
    → is_visible (one ∷ above) sheet ≡ is_visible (other ∷ above) sheet
visible-same one other above alike sheet =
    ap (λ (inline : Option ℕ). is_place inline sheet
    || (lists_sheet sheet one || list_any (lists_sheet sheet) above)) alike.inline
    ∙ ap (λ (sheets : List ℕ). is_place other.inline sheet
    || (list_any (λ (at : ℕ). at == sheet) sheets || list_any (lists_sheet sheet) above)) alike.sheets

weight-same : (one other : StyleFacts) (above : List StyleFacts) → AreAlike one other → (sheet : ℕ)
    → (selector : Selector) → IsOther (ids_of (reverse selector.compounds)) one
    → IsOther (ids_of (reverse selector.compounds)) other
    → selector_weight (one ∷ above) sheet selector ≡ selector_weight (other ∷ above) sheet selector
unfolding selector_weight
weight-same one other above alike sheet selector not_one not_other =
    ap (λ (b : Bool). cond (b && is_visible (one ∷ above) sheet) (Some (specificity_of selector)) None)
    (matches-same one other above alike (reverse selector.compounds) not_one not_other)
    ∙ ap (λ (b : Bool). cond (matches_chain selector (other ∷ above) && b) (Some (specificity_of selector)) None)
    (visible-same one other above alike sheet)

-- a selector of the sheets that asks for an id first is listed under that

asked-key : (compounds : List Compound) (node : StyleFacts) → (is_same_key (ById node.id) (key_of_last compounds) ≡ true → ⊥)
    → IsOther (ids_of compounds) node
unfolding IsOther ids_of
asked-key [] node never = tt
asked-key (last ∷ before) node never = by_ids last.ids never
  where
    by_ids : (ids : List (List ℕ)) → (is_same_key (ById node.id) (key_by ids last.classes last.kind) ≡ true → ⊥)
        → IsOther ids node
    by_ids [] not = tt
    by_ids (id ∷ ids) not = elim (cases_Bool (bytes_eq id node.id)) [
      | inl same ↦ absurd (not (turned id node.id same))
      | inr differ ↦ differ
    ]

nowhere : (at : SelectorAt) (all : List SelectorAt) → all ≡ [] → In at all → ⊥
unfolding In
nowhere at all none among = subst (In at) none among

module _ (sheets : List SheetAt) (listing : Listing) (is : IsListing sheets listing) where
  other-id : (node : StyleFacts) → IsUnasked listing node → (i j k : ℕ) (s : SheetAt) (r : Rule) (selector : Selector)
      → slice_get sheets i ≡ Some s → slice_get s.sheet.rules j ≡ Some r → slice_get r.selectors k ≡ Some selector
      → IsOther (ids_of (reverse selector.compounds)) node
  other-id node unasked i j k s r selector at_sheet at_rule at_selector =
      asked-key (reverse selector.compounds) node
      (λ same. nowhere (place i j (Some k)) (listed listing (ById node.id)) unasked
      (listed-in sheets listing is (key_of selector) (ById node.id) (place i j (Some k))
      (entry-in sheets i j s r at_sheet at_rule (key_of selector, place i j (Some k))
      (selector-entry i j r.selectors k selector at_selector)) same))

  module _ (one other : StyleFacts) (above : List StyleFacts) (alike : AreAlike one other)
      (no_one : IsUnasked listing one) (no_other : IsUnasked listing other) where
    weights-same : (i j : ℕ) (s : SheetAt) (r : Rule) → slice_get sheets i ≡ Some s
        → slice_get s.sheet.rules j ≡ Some r → (selectors : List Selector) → r.selectors ≡ selectors
        → rule_weights (one ∷ above) i selectors ≡ rule_weights (other ∷ above) i selectors
    weights-same i j s r at_sheet at_rule [] are =
        ap (λ (inline : Option ℕ). option_to_list (cond (is_place inline i) (Some (0, 0, 0)) None)) alike.inline
    weights-same i j s r at_sheet at_rule (first ∷ more) are =
        filter_map-agree (selector_weight (one ∷ above) i) (selector_weight (other ∷ above) i) (first ∷ more)
        (λ selector among.
        let at = get-in selector (first ∷ more) among in
        let there : slice_get r.selectors at.0 ≡ Some selector =
        ap (λ (ss : List Selector). slice_get ss at.0) are ∙ at.1 in
        weight-same one other above alike i selector
        (other-id one no_one i j at.0 s r selector at_sheet at_rule there)
        (other-id other no_other i j at.0 s r selector at_sheet at_rule there))

    pub match-alike : MatchAlike sheets one other above
    match-alike =
        each-agree (matching_in (one ∷ above)) (matching_in (other ∷ above)) sheets
        (λ i s at_sheet.
        each-agree (matching_rule (one ∷ above) i s) (matching_rule (other ∷ above) i s) s.sheet.rules
        (λ j r at_rule.
        ap (λ (weights : List (ℕ × ℕ × ℕ)). option_to_list (option_map (candidate i j s.origin) (greatest weights)))
        (weights-same i j s r at_sheet at_rule r.selectors refl)))
