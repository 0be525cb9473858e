-- Over the sheets that an index was built of, the rules that it gives are all that match.
use Rattle.std.proofs.Common.{◌≡◌, ℕ, ◌<◌, ◌⊎◌, inl, inr, Bool, true, false, ◌&&◌, cond, eqb, List, [], ◌∷◌, ◌++◌, length, Option, Some, None, refl, sym, ◌∙◌, ap, subst, arith}
use Rattle.std.specs.Prelude.{slice_get, option_and_then}
use Rattle.std.specs.Option.{option_map, option_to_list}
use Rattle.std.specs.List.{enumerate_from, filter_map, flat_map}
use Rattle.std.proofs.lemmas.Bool.{cases_Bool, eqb-true, false≢true}
use Rattle.std.proofs.lemmas.Option.{slice_get_cases}
use Rattle.std.proofs.lemmas.List.Elements.{filter_map-append}
use Rattle.fx_css_types.specs.declared.selectors.Selector.{Selector}
use Rattle.fx_css_types.specs.declared.sheets.Candidate.{Candidate}
use Rattle.fx_css_types.specs.declared.sheets.Rule.{Rule}
use Rattle.fx_css_types.specs.declared.sheets.SheetAt.{SheetAt}
use Rattle.fx_kinds.specs.declared.facts.StyleFacts.{StyleFacts}
use Rattle.fx_select.specs.declared.lists.SelectorAt.{SelectorAt}
use Rattle.fx_select.specs.AllMatching.{matching_in, matching_of, matching_rule, rule_weights}
use Rattle.fx_select.specs.Chains.{ParentsStandBefore, chain, upward}
use Rattle.fx_select.specs.Hits.{bare_weight, candidate, hit_in, hit_of, hits_of, is_visible, keys_of, selector_weight, weight_at}
use Rattle.fx_select.specs.Keys.{Key, is_same_key, key_of}
use Rattle.fx_select.specs.Listing.{IsListing, Listing, bare_at, bare_in, bare_of, each, entries, listed, selector_entries, sheet_entries, under_key}
use Rattle.fx_select.specs.Matching.{matches_chain}
use Rattle.fx_css_types.specs.Specificity.{specificity_of}
use Rattle.fx_select.specs.Strongest.{RuleAt, greatest, is_of_rule, matched_of, sheet_rules, strongest, strongest_of, weights_of}
use Rattle.fx_select.proofs.ChainLemmas.{upward-some}
use Rattle.fx_select.proofs.HitLemmas.{filter_map-one}
use Rattle.fx_select.proofs.KeyLemmas.{key-found}
use Rattle.fx_select.proofs.MemberLemmas.{In, each-agree, from-filter, from-filter_map, from-map, get-in, in-each, in-filter, in-filter_map, in-flat_map, in-get, in-left, in-map, in-right}
use Rattle.fx_select.proofs.OrderLemmas.{same-itself}
use Rattle.fx_select.proofs.WeightLemmas.{greatest-same}

option_cases : {A : Type 0} (o : Option A) → (o ≡ None) ⊎ ((x : A) × (o ≡ Some x))
option_cases None = inl refl
option_cases (Some x) = inr (x, refl)

and-true : (a b : Bool) → (a && b) ≡ true → (a ≡ true) × (b ≡ true)
and-true true b e = (refl, e)
and-true false b e = absurd (false≢true e)

pub place : ℕ → ℕ → Option ℕ → SelectorAt
place sheet rule selector = record { sheet = sheet; rule = rule; selector = selector }

-- each selector of the sheets is listed under each key that is the same as its own
pub listed-in : (sheets : List SheetAt) (listing : Listing) → IsListing sheets listing → (key own : Key) (at : SelectorAt)
    → In (key, at) (entries sheets) → is_same_key own key ≡ true → In at (listed listing own)
unfolding under_key
listed-in sheets listing is key own at among same =
    subst (In at) (sym (is own))
    (in-map (λ (e : Key × SelectorAt). e.1) (key, at) _ (in-filter (λ (e : Key × SelectorAt). is_same_key own e.0) (key, at) (entries sheets) among same))

pub selector-entry : (sheet rule : ℕ) (selectors : List Selector) (i : ℕ) (selector : Selector) → slice_get selectors i ≡ Some selector
    → In (key_of selector, place sheet rule (Some i)) (selector_entries sheet rule selectors)
unfolding In place
selector-entry sheet rule selectors i selector is =
    in-each (λ (n : ℕ) (s : Selector). (key_of s, place sheet rule (Some n)) ∷ []) selectors i selector is
    (key_of selector, place sheet rule (Some i)) (inl refl)

pub entry-in : (sheets : List SheetAt) (i j : ℕ) (s : SheetAt) (r : Rule) → slice_get sheets i ≡ Some s → slice_get s.sheet.rules j ≡ Some r
    → (e : Key × SelectorAt) → In e (selector_entries i j r.selectors) → In e (entries sheets)
entry-in sheets i j s r is there e among =
    in-each (λ (n : ℕ) (one : SheetAt). sheet_entries n one.sheet.rules) sheets i s is e
    (in-each (λ (n : ℕ) (one : Rule). selector_entries i n one.selectors) s.sheet.rules j r there e among)

hit-is : (sheets : List SheetAt) (nodes : List StyleFacts) (i j : ℕ) (s : SheetAt) (r : Rule) (o : Option ℕ) (w : ℕ × ℕ × ℕ)
    → slice_get sheets i ≡ Some s → slice_get s.sheet.rules j ≡ Some r → weight_at nodes i r.selectors o ≡ Some w
    → hit_of sheets nodes (place i j o) ≡ Some (candidate i j s.origin w)
unfolding hit_of hit_in place
hit-is sheets nodes i j s r o w is there weighed =
    ap (option_and_then (hit_in nodes (place i j o))) is
    ∙ ap (λ (x : Option Rule). option_map (candidate i j s.origin) (option_and_then (λ (rule : Rule). weight_at nodes i rule.selectors o) x)) there
    ∙ ap (option_map (candidate i j s.origin)) weighed

hit-found : (listing : Listing) (sheets : List SheetAt) (node : StyleFacts) (above : List StyleFacts) (own : Key) (at : SelectorAt) (hit : Candidate)
    → In own (keys_of node) → In at (listed listing own) → hit_of sheets (node ∷ above) at ≡ Some hit
    → In hit (hits_of listing sheets (node ∷ above))
unfolding hits_of
hit-found listing sheets node above own at hit has among is =
    in-filter_map (hit_of sheets (node ∷ above)) at hit (flat_map (listed listing) (keys_of node) ++ bare_of sheets)
    (in-left at (flat_map (listed listing) (keys_of node)) (bare_of sheets) (in-flat_map (listed listing) own at (keys_of node) has among)) is

-- a rule without selector is among those that are tried
bare-there : (sheets : List SheetAt) (i j : ℕ) (s : SheetAt) (r : Rule) → slice_get sheets i ≡ Some s → slice_get s.sheet.rules j ≡ Some r
    → r.selectors ≡ [] → In (place i j None) (bare_of sheets)
unfolding In place
bare-there sheets i j s r is there are =
    in-each (λ (n : ℕ) (one : SheetAt). bare_in n one.sheet.rules) sheets i s is (place i j None)
    (in-each (λ (n : ℕ) (one : Rule). bare_at i n one.selectors) s.sheet.rules j r there (place i j None)
    (subst (λ (ss : List Selector). In (place i j None) (bare_at i j ss)) (sym are) (inl refl)))

bare-hit-found : (listing : Listing) (sheets : List SheetAt) (node : StyleFacts) (above : List StyleFacts) (at : SelectorAt) (hit : Candidate)
    → In at (bare_of sheets) → hit_of sheets (node ∷ above) at ≡ Some hit → In hit (hits_of listing sheets (node ∷ above))
unfolding hits_of
bare-hit-found listing sheets node above at hit among is =
    in-filter_map (hit_of sheets (node ∷ above)) at hit (flat_map (listed listing) (keys_of node) ++ bare_of sheets)
    (in-right at (flat_map (listed listing) (keys_of node)) (bare_of sheets) among) is

weight-found : (hits : List Candidate) (rule : RuleAt) (hit : Candidate) → In hit hits → is_of_rule rule hit ≡ true
    → In hit.specificity (weights_of hits rule)
weight-found hits rule hit among of_rule =
    in-map (λ (h : Candidate). h.specificity) hit _ (in-filter (is_of_rule rule) hit hits among of_rule)

selector-matches : (nodes : List StyleFacts) (sheet : ℕ) (selector : Selector) (w : ℕ × ℕ × ℕ)
    → selector_weight nodes sheet selector ≡ Some w → matches_chain selector nodes ≡ true
unfolding selector_weight
selector-matches nodes sheet selector w is = elim (cases_Bool (matches_chain selector nodes && is_visible nodes sheet)) [
  | inl both ↦ (and-true (matches_chain selector nodes) (is_visible nodes sheet) both).0
  | inr not ↦
      let gone : None ≡ Some w =
      ap (λ (b : Bool). cond b (Some (specificity_of selector)) None) (sym not) ∙ is in cc
]

weight-selector : (nodes : List StyleFacts) (sheet : ℕ) (selectors : List Selector) (i : ℕ) → weight_at nodes sheet selectors (Some i)
    ≡ option_and_then (selector_weight nodes sheet) (slice_get selectors i)
unfolding weight_at
weight-selector nodes sheet selectors i = refl

weight-bare : (nodes : List StyleFacts) (sheet : ℕ) (selectors : List Selector) → weight_at nodes sheet selectors None ≡ bare_weight nodes sheet selectors
unfolding weight_at
weight-bare nodes sheet selectors = refl

-- a selector that matches is found by the index
selector-found : (sheets : List SheetAt) (listing : Listing) → IsListing sheets listing → (node : StyleFacts) (above : List StyleFacts) (i j : ℕ)
    (s : SheetAt) (r : Rule) → slice_get sheets i ≡ Some s → slice_get s.sheet.rules j ≡ Some r → (o : Option ℕ) (key own : Key) (w : ℕ × ℕ × ℕ)
    → In (key, place i j o) (selector_entries i j r.selectors) → In own (keys_of node) → is_same_key own key ≡ true
    → weight_at (node ∷ above) i r.selectors o ≡ Some w
    → In w (weights_of (hits_of listing sheets (node ∷ above)) (record { sheet = i; rule = j; origin = s.origin }))
selector-found sheets listing listing_is node above i j s r is there o key own w entry has same weighed =
    weight-found (hits_of listing sheets (node ∷ above)) (record { sheet = i; rule = j; origin = s.origin }) (candidate i j s.origin w)
    (hit-found listing sheets node above own (place i j o) (candidate i j s.origin w) has
    (listed-in sheets listing listing_is key own (place i j o) (entry-in sheets i j s r is there (key, place i j o) entry) same)
    (hit-is sheets (node ∷ above) i j s r o w is there weighed))
    (same-itself i j)

-- and so is a rule without selector
bare-found : (sheets : List SheetAt) (listing : Listing) (node : StyleFacts) (above : List StyleFacts) (i j : ℕ)
    (s : SheetAt) (r : Rule) → slice_get sheets i ≡ Some s → slice_get s.sheet.rules j ≡ Some r → r.selectors ≡ [] → (w : ℕ × ℕ × ℕ)
    → weight_at (node ∷ above) i r.selectors None ≡ Some w
    → In w (weights_of (hits_of listing sheets (node ∷ above)) (record { sheet = i; rule = j; origin = s.origin }))
bare-found sheets listing node above i j s r is there are w weighed =
    weight-found (hits_of listing sheets (node ∷ above)) (record { sheet = i; rule = j; origin = s.origin }) (candidate i j s.origin w)
    (bare-hit-found listing sheets node above (place i j None) (candidate i j s.origin w)
    (bare-there sheets i j s r is there are)
    (hit-is sheets (node ∷ above) i j s r None w is there weighed))
    (same-itself i j)

all-found : (sheets : List SheetAt) (listing : Listing) → IsListing sheets listing → (node : StyleFacts) (above : List StyleFacts) (i j : ℕ)
    (s : SheetAt) (r : Rule) → slice_get sheets i ≡ Some s → slice_get s.sheet.rules j ≡ Some r → (selectors : List Selector) → r.selectors ≡ selectors
    → (w : ℕ × ℕ × ℕ) → In w (rule_weights (node ∷ above) i selectors)
    → In w (weights_of (hits_of listing sheets (node ∷ above)) (record { sheet = i; rule = j; origin = s.origin }))
unfolding In place
all-found sheets listing listing_is node above i j s r is there [] are w among = elim (option_cases (bare_weight (node ∷ above) i [])) [
  | inl none ↦ absurd (subst (λ (o : Option (ℕ × ℕ × ℕ)). In w (option_to_list o)) none among)
  | inr (v, some) ↦ elim (subst (λ (o : Option (ℕ × ℕ × ℕ)). In w (option_to_list o)) some among) [
    | inl same ↦
        bare-found sheets listing node above i j s r is there are w
        (weight-bare (node ∷ above) i r.selectors ∙ ap (bare_weight (node ∷ above) i) are ∙ some ∙ ap (λ (x : ℕ × ℕ × ℕ). Some x) (sym same))
    | inr none ↦ absurd none
  ]
]
all-found sheets listing listing_is node above i j s r is there (first ∷ more) are w among =
    let found = from-filter_map (selector_weight (node ∷ above) i) w (first ∷ more) among in
    let selector : Selector = found.0 in
    let at = get-in selector (first ∷ more) found.1 in
    let own = key-found selector node above (selector-matches (node ∷ above) i selector w found.2) in
    let get : slice_get r.selectors at.0 ≡ Some selector = ap (λ (ss : List Selector). slice_get ss at.0) are ∙ at.1 in
    selector-found sheets listing listing_is node above i j s r is there (Some at.0) (key_of selector) own.0 w
    (selector-entry i j r.selectors at.0 selector get) own.1 own.2
    (weight-selector (node ∷ above) i r.selectors at.0 ∙ ap (option_and_then (selector_weight (node ∷ above) i)) get ∙ found.2)

-- what a listed selector weighs is among what its rule's selectors weigh
weight-in : (nodes : List StyleFacts) (sheet : ℕ) (selectors : List Selector) (o : Option ℕ) (w : ℕ × ℕ × ℕ)
    → weight_at nodes sheet selectors o ≡ Some w → In w (rule_weights nodes sheet selectors)
unfolding In
weight-in nodes sheet [] None w is =
    let bare : bare_weight nodes sheet [] ≡ Some w = sym (weight-bare nodes sheet []) ∙ is in
    subst (λ (x : Option (ℕ × ℕ × ℕ)). In w (option_to_list x)) (sym bare) (inl refl)
weight-in nodes sheet (first ∷ more) None w is =
    let gone : None ≡ Some w = sym (weight-bare nodes sheet (first ∷ more)) ∙ is in cc
weight-in nodes sheet [] (Some i) w is =
    let gone : None ≡ Some w = sym (weight-selector nodes sheet [] i) ∙ is in cc
weight-in nodes sheet (first ∷ more) (Some i) w is = elim (option_cases (slice_get (first ∷ more) i)) [
  | inl none ↦
      let gone : None ≡ Some w =
      ap (option_and_then (selector_weight nodes sheet)) (sym none) ∙ sym (weight-selector nodes sheet (first ∷ more) i) ∙ is in cc
  | inr (selector, some) ↦
      let weighed : selector_weight nodes sheet selector ≡ Some w =
      ap (option_and_then (selector_weight nodes sheet)) (sym some) ∙ sym (weight-selector nodes sheet (first ∷ more) i) ∙ is in
      in-filter_map (selector_weight nodes sheet) selector w (first ∷ more) (in-get selector (first ∷ more) i some) weighed
]

-- a hit says what its selector weighs in its rule
hit-weight : (sheets : List SheetAt) (nodes : List StyleFacts) (at : SelectorAt) (hit : Candidate) (s : SheetAt) (r : Rule)
    → hit_of sheets nodes at ≡ Some hit → slice_get sheets hit.sheet ≡ Some s → slice_get s.sheet.rules hit.rule ≡ Some r
    → weight_at nodes hit.sheet r.selectors at.selector ≡ Some hit.specificity
unfolding hit_of hit_in
hit-weight sheets nodes at hit s r is at_sheet at_rule = elim (option_cases (slice_get sheets at.sheet)) [
  | inl none ↦ let gone : None ≡ Some hit = ap (option_and_then (hit_in nodes at)) (sym none) ∙ is in cc
  | inr (t, some) ↦
      let found : hit_in nodes at t ≡ Some hit = ap (option_and_then (hit_in nodes at)) (sym some) ∙ is in
      let weigh : Rule → Option (ℕ × ℕ × ℕ) = λ q. weight_at nodes at.sheet q.selectors at.selector in
      let make : Option (ℕ × ℕ × ℕ) → Option Candidate = option_map (candidate at.sheet at.rule t.origin) in
      elim (option_cases (slice_get t.sheet.rules at.rule)) [
        | inl none ↦ let gone : None ≡ Some hit = ap (λ (o : Option Rule). make (option_and_then weigh o)) (sym none) ∙ found in cc
        | inr (q, there) ↦
            let weighed : make (weigh q) ≡ Some hit = ap (λ (o : Option Rule). make (option_and_then weigh o)) (sym there) ∙ found in
            elim (option_cases (weigh q)) [
              | inl none ↦ let gone : None ≡ Some hit = ap make (sym none) ∙ weighed in cc
              | inr (w, is_weight) ↦
                  let both : Some (candidate at.sheet at.rule t.origin w) ≡ Some hit = ap make (sym is_weight) ∙ weighed in
                  let one : candidate at.sheet at.rule t.origin w ≡ hit = cc in
                  let sheet : at.sheet ≡ hit.sheet = ap (λ (c : Candidate). c.sheet) one in
                  let rule : at.rule ≡ hit.rule = ap (λ (c : Candidate). c.rule) one in
                  let weight : w ≡ hit.specificity = ap (λ (c : Candidate). c.specificity) one in
                  let sheets_same : Some t ≡ Some s = sym some ∙ ap (slice_get sheets) sheet ∙ at_sheet in
                  let same_sheet : t ≡ s = cc in
                  let rules_same : Some q ≡ Some r =
                  sym there ∙ ap (λ (x : SheetAt). slice_get x.sheet.rules at.rule) same_sheet ∙ ap (slice_get s.sheet.rules) rule ∙ at_rule in
                  let same_rule : q ≡ r = cc in
                  ap (λ (n : ℕ). weight_at nodes n r.selectors at.selector) (sym sheet)
                  ∙ ap (λ (x : Rule). weight_at nodes at.sheet x.selectors at.selector) (sym same_rule)
                  ∙ is_weight
                  ∙ ap (λ (x : ℕ × ℕ × ℕ). Some x) weight
            ]
      ]
]

only-found : (listing : Listing) (sheets : List SheetAt) (node : StyleFacts) (above : List StyleFacts) (i j : ℕ) (s : SheetAt) (r : Rule)
    → slice_get sheets i ≡ Some s → slice_get s.sheet.rules j ≡ Some r → (w : ℕ × ℕ × ℕ)
    → In w (weights_of (hits_of listing sheets (node ∷ above)) (record { sheet = i; rule = j; origin = s.origin }))
    → In w (rule_weights (node ∷ above) i r.selectors)
unfolding hits_of
only-found listing sheets node above i j s r is there w among =
    let nodes : List StyleFacts = node ∷ above in
    let rule : RuleAt = record { sheet = i; rule = j; origin = s.origin } in
    let hits : List Candidate = hits_of listing sheets nodes in
    let from = from-map (λ (h : Candidate). h.specificity) w _ among in
    let hit : Candidate = from.0 in
    let kept = from-filter (is_of_rule rule) hit hits from.1 in
    let tests = and-true (eqb hit.sheet i) (eqb hit.rule j) kept.1 in
    let sheet : hit.sheet ≡ i = eqb-true hit.sheet i tests.0 in
    let number : hit.rule ≡ j = eqb-true hit.rule j tests.1 in
    let source = from-filter_map (hit_of sheets nodes) hit _ kept.0 in
    let weighed : weight_at nodes hit.sheet r.selectors source.0.selector ≡ Some hit.specificity =
    hit-weight sheets nodes source.0 hit s r source.2 (ap (slice_get sheets) sheet ∙ is) (ap (slice_get s.sheet.rules) number ∙ there) in
    weight-in nodes i r.selectors source.0.selector w
    (ap (λ (n : ℕ). weight_at nodes n r.selectors source.0.selector) (sym sheet) ∙ weighed ∙ ap (λ (x : ℕ × ℕ × ℕ). Some x) (sym from.2))

filter_map-flat : {X A B : Type 0} (f : A → Option B) (g : X → List A) (xs : List X)
    → filter_map f (flat_map g xs) ≡ flat_map (λ (x : X). filter_map f (g x)) xs
filter_map-flat f g [] = refl
filter_map-flat {X} {A} {B} f g (x ∷ xs) =
    filter_map-append f (g x) (flat_map g xs) ∙ ap (λ (l : List B). filter_map f (g x) ++ l) (filter_map-flat f g xs)

pub filter_map-each : {X A B : Type 0} (f : A → Option B) (give : ℕ → X → List A) (xs : List X)
    → filter_map f (each give xs) ≡ each (λ (n : ℕ) (x : X). filter_map f (give n x)) xs
unfolding each
filter_map-each {X} f give xs = filter_map-flat f (λ (e : ℕ × X). give e.0 e.1) (enumerate_from 0 xs)

rule-same : (sheets : List SheetAt) (listing : Listing) → IsListing sheets listing → (node : StyleFacts) (above : List StyleFacts) (i j : ℕ)
    (s : SheetAt) (r : Rule) → slice_get sheets i ≡ Some s → slice_get s.sheet.rules j ≡ Some r
    → filter_map (strongest (hits_of listing sheets (node ∷ above))) (record { sheet = i; rule = j; origin = s.origin } ∷ [])
    ≡ matching_rule (node ∷ above) i s j r
unfolding strongest
rule-same sheets listing listing_is node above i j s r is there =
    let rule : RuleAt = record { sheet = i; rule = j; origin = s.origin } in
    let hits : List Candidate = hits_of listing sheets (node ∷ above) in
    filter_map-one (strongest hits) rule (option_map (candidate i j s.origin) (greatest (rule_weights (node ∷ above) i r.selectors)))
    (ap (option_map (candidate i j s.origin))
    (greatest-same (weights_of hits rule) (rule_weights (node ∷ above) i r.selectors)
    (only-found listing sheets node above i j s r is there)
    (all-found sheets listing listing_is node above i j s r is there r.selectors refl)))

node-same : (sheets : List SheetAt) (listing : Listing) → IsListing sheets listing → (node : StyleFacts) (above : List StyleFacts)
    → strongest_of (hits_of listing sheets (node ∷ above)) sheets ≡ each (matching_in (node ∷ above)) sheets
node-same sheets listing listing_is node above =
    let f = strongest (hits_of listing sheets (node ∷ above)) in
    filter_map-each f sheet_rules sheets
    ∙ each-agree (λ (n : ℕ) (s : SheetAt). filter_map f (sheet_rules n s)) (matching_in (node ∷ above)) sheets
    (λ i s is.
    filter_map-each f (λ (n : ℕ) (r : Rule). (record { sheet = i; rule = n; origin = s.origin }) ∷ []) s.sheet.rules
    ∙ each-agree (λ (n : ℕ) (r : Rule). filter_map f ((record { sheet = i; rule = n; origin = s.origin }) ∷ [])) (matching_rule (node ∷ above) i s)
    s.sheet.rules (λ j r there. rule-same sheets listing listing_is node above i j s r is there))

pub all-matched : (sheets : List SheetAt) (listing : Listing) (facts : List StyleFacts) (at : ℕ) → ParentsStandBefore facts → at < length facts
    → IsListing sheets listing → matched_of listing sheets facts at ≡ matching_of sheets facts at
all-matched sheets listing facts at before there listing_is = elim (slice_get_cases facts at).1 [
  | inl (node, within, is, read) ↦
      let step : chain facts at ≡ node ∷ upward facts node.parent = upward-some facts before at node is in
      ap (λ (nodes : List StyleFacts). strongest_of (hits_of listing sheets nodes) sheets) step
      ∙ node-same sheets listing listing_is node (upward facts node.parent)
      ∙ ap (λ (nodes : List StyleFacts). each (matching_in nodes) sheets) (sym step)
  | inr (past, none) ↦ absurd (omega arith)
]
