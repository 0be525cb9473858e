-- The rules without selector that match a node are those of its own inline sheet.
use Rattle.std.proofs.Common.{◌≡◌, ℕ, zero, suc, ◌+◌, ◌<◌, Bool, true, false, cond, eqb, List, [], ◌∷◌, ◌++◌, Option, Some, None, refl, sym, ◌∙◌, ap, append_assoc, arith}
use Rattle.std.specs.Prelude.{slice_get, option_and_then}
use Rattle.std.specs.Option.{option_map, option_to_list}
use Rattle.std.specs.List.{enumerate_from, filter_map, flat_map}
use Rattle.std.proofs.lemmas.Bool.Decides.{nat_tests}
use Rattle.std.proofs.lemmas.List.{append-nil}
use Rattle.fx_css_types.specs.declared.selectors.Selector.{Selector}
use Rattle.fx_css_types.specs.declared.sheets.Candidate.{Candidate}
use Rattle.fx_css_types.specs.declared.sheets.Rule.{Rule}
use Rattle.fx_css_types.specs.declared.sheets.SheetAt.{SheetAt}
use Rattle.fx_kinds.specs.declared.facts.StyleFacts.{StyleFacts}
use Rattle.fx_select.specs.declared.lists.SelectorAt.{SelectorAt}
use Rattle.fx_select.specs.Hits.{bare_weight, candidate, hit_in, hit_of, is_place, own_hit, own_hits, own_hits_at, own_hits_in, weight_at}
use Rattle.fx_select.specs.Listing.{bare_at, bare_in, bare_of, each}
use Rattle.fx_select.proofs.HitLemmas.{filter_map-one}
use Rattle.fx_select.proofs.LawLemmas.{filter_map-each}
use Rattle.fx_select.proofs.MemberLemmas.{each-agree}

-- one part more, with what it is
pub joined-more : {A : Type 0} (start done old new part said all : List A) → new ≡ old ++ part → old ≡ start ++ done → part ≡ said → all ≡ done ++ said → new ≡ start ++ all
joined-more {A} start done old new part said all added before same joined =
    added
    ∙ ap (λ (l : List A). l ++ part) before
    ∙ append_assoc start done part
    ∙ ap (λ (l : List A). start ++ l) (ap (λ (l : List A). done ++ l) same ∙ sym joined)

-- a list of which no element gives anything
numbered-empty : {X A : Type 0} (n : ℕ) (xs : List X) → flat_map (λ (e : ℕ × X). let none : List A = [] in none) (enumerate_from n xs) ≡ []
numbered-empty n [] = refl
numbered-empty {X} {A} n (x ∷ xs) = numbered-empty {X = X} {A = A} (n + 1) xs

each-empty : {X A : Type 0} (xs : List X) → each (λ (n : ℕ) (x : X). let none : List A = [] in none) xs ≡ []
unfolding each
each-empty {X} {A} xs = numbered-empty {X = X} {A = A} 0 xs

each-when : {X A : Type 0} (b : Bool) (f : ℕ → X → List A) (xs : List X) → each (λ (n : ℕ) (x : X). cond b (f n x) []) xs ≡ cond b (each f xs) []
each-when true f xs = refl
each-when {X} {A} false f xs = each-empty {X = X} {A = A} xs

-- of a list of which only the element at a place gives something
abbrev given : {X A : Type 0} → (X → List A) → Option X → List A
given f None = []
given f (Some x) = f x

numbered-past : {X A : Type 0} (own n : ℕ) (f : ℕ → X → List A) (xs : List X) → own < n
    → flat_map (λ (e : ℕ × X). cond (eqb own e.0) (f e.0 e.1) []) (enumerate_from n xs) ≡ []
numbered-past own n f [] past = refl
numbered-past {X} {A} own n f (x ∷ xs) past =
    let other : eqb own n ≡ false = grind (arith, nat_tests, past) in
    ap (λ (b : Bool). cond b (f n x) [] ++ flat_map (λ (e : ℕ × X). cond (eqb own e.0) (f e.0 e.1) []) (enumerate_from (n + 1) xs)) other
    ∙ numbered-past own (n + 1) f xs (omega (arith, past))

numbered-given : {X A : Type 0} (own n k : ℕ) (f : ℕ → X → List A) (xs : List X) → own ≡ n + k
    → flat_map (λ (e : ℕ × X). cond (eqb own e.0) (f e.0 e.1) []) (enumerate_from n xs) ≡ given (f own) (slice_get xs k)
numbered-given own n k f [] is = refl
numbered-given {X} {A} own n zero f (x ∷ xs) is =
    let here : own ≡ n = omega (arith, is) in
    let same : eqb own n ≡ true = grind (arith, nat_tests, here) in
    let rest : List A = flat_map (λ (e : ℕ × X). cond (eqb own e.0) (f e.0 e.1) []) (enumerate_from (n + 1) xs) in
    ap (λ (b : Bool). cond b (f n x) [] ++ rest) same
    ∙ ap (λ (l : List A). f n x ++ l) (numbered-past own (n + 1) f xs (omega (arith, here)))
    ∙ append-nil (f n x)
    ∙ ap (λ (m : ℕ). f m x) (sym here)
numbered-given {X} {A} own n (suc k) f (x ∷ xs) is =
    let other : eqb own n ≡ false = (let apart : n < own = omega (arith, is) in grind (arith, nat_tests, apart)) in
    let rest : List A = flat_map (λ (e : ℕ × X). cond (eqb own e.0) (f e.0 e.1) []) (enumerate_from (n + 1) xs) in
    ap (λ (b : Bool). cond b (f n x) [] ++ rest) other
    ∙ numbered-given own (n + 1) k f xs (omega (arith, is))

each-given : {X A : Type 0} (own : ℕ) (f : ℕ → X → List A) (xs : List X) → each (λ (n : ℕ) (x : X). cond (eqb own n) (f n x) []) xs ≡ given (f own) (slice_get xs own)
unfolding each
each-given own f xs = numbered-given own 0 own f xs (omega arith)

-- a rule without selector is tried with what it weighs
hit-weighed : (sheets : List SheetAt) (nodes : List StyleFacts) (i j : ℕ) (s : SheetAt) (r : Rule) (at : SelectorAt)
    → at ≡ record { sheet = i; rule = j; selector = None } → slice_get sheets i ≡ Some s → slice_get s.sheet.rules j ≡ Some r
    → hit_of sheets nodes at ≡ option_map (candidate i j s.origin) (bare_weight nodes i r.selectors)
unfolding hit_of hit_in weight_at
hit-weighed sheets nodes i j s r at same is there =
    let bare : SelectorAt = record { sheet = i; rule = j; selector = None } in
    ap (hit_of sheets nodes) same
    ∙ ap (option_and_then (hit_in nodes bare)) is
    ∙ ap (λ (x : Option Rule). option_map (candidate i j s.origin) (option_and_then (λ (rule : Rule). weight_at nodes i rule.selectors None) x)) there

own-weight : (b : Bool) (c : ℕ × ℕ × ℕ → Candidate) → option_to_list (option_map c (cond b (Some (0, 0, 0)) None)) ≡ cond b (c (0, 0, 0) ∷ []) []
own-weight true c = refl
own-weight false c = refl

nothing-when : {A : Type 0} (b : Bool) → (let none : List A = [] in none) ≡ cond b [] []
nothing-when true = refl
nothing-when false = refl

rule-hits : (sheets : List SheetAt) (node : StyleFacts) (above : List StyleFacts) (i j : ℕ) (s : SheetAt) (r : Rule)
    → slice_get sheets i ≡ Some s → slice_get s.sheet.rules j ≡ Some r → (selectors : List Selector) → r.selectors ≡ selectors
    → filter_map (hit_of sheets (node ∷ above)) (bare_at i j selectors) ≡ cond (is_place node.inline i) (own_hit i s.origin j selectors) []
rule-hits sheets node above i j s r is there [] are =
    let nodes : List StyleFacts = node ∷ above in
    let bare : SelectorAt = record { sheet = i; rule = j; selector = None } in
    filter_map-one (hit_of sheets nodes) bare (option_map (candidate i j s.origin) (bare_weight nodes i []))
    (hit-weighed sheets nodes i j s r bare refl is there ∙ ap (λ (ss : List Selector). option_map (candidate i j s.origin) (bare_weight nodes i ss)) are)
    ∙ own-weight (is_place node.inline i) (candidate i j s.origin)
rule-hits sheets node above i j s r is there (first ∷ more) are = nothing-when {A = Candidate} (is_place node.inline i)

sheet-hits : (sheets : List SheetAt) (node : StyleFacts) (above : List StyleFacts) (i : ℕ) (s : SheetAt) → slice_get sheets i ≡ Some s
    → filter_map (hit_of sheets (node ∷ above)) (bare_in i s.sheet.rules) ≡ cond (is_place node.inline i) (own_hits_in i s.origin s.sheet.rules) []
sheet-hits sheets node above i s is =
    let h = hit_of sheets (node ∷ above) in
    let own : Bool = is_place node.inline i in
    filter_map-each h (λ (j : ℕ) (r : Rule). bare_at i j r.selectors) s.sheet.rules
    ∙ each-agree (λ (j : ℕ) (r : Rule). filter_map h (bare_at i j r.selectors)) (λ (j : ℕ) (r : Rule). cond own (own_hit i s.origin j r.selectors) []) s.sheet.rules
    (λ j r there. rule-hits sheets node above i j s r is there r.selectors refl)
    ∙ each-when own (λ (j : ℕ) (r : Rule). own_hit i s.origin j r.selectors) s.sheet.rules

given-own : (own : ℕ) (o : Option SheetAt) → given (λ (s : SheetAt). own_hits_in own s.origin s.sheet.rules) o ≡ own_hits_at own o
given-own own None = refl
given-own own (Some s) = refl

own-of : (o : Option ℕ) (sheets : List SheetAt)
    → each (λ (i : ℕ) (s : SheetAt). cond (is_place o i) (own_hits_in i s.origin s.sheet.rules) []) sheets ≡ own_hits o sheets
own-of None sheets = each-empty {X = SheetAt} {A = Candidate} sheets
own-of (Some own) sheets =
    each-given own (λ (i : ℕ) (s : SheetAt). own_hits_in i s.origin s.sheet.rules) sheets ∙ given-own own (slice_get sheets own)

pub own-hits : (sheets : List SheetAt) (nodes : List StyleFacts) (node : StyleFacts) (above : List StyleFacts) → nodes ≡ node ∷ above
    → filter_map (hit_of sheets nodes) (bare_of sheets) ≡ own_hits node.inline sheets
own-hits sheets nodes node above is =
    let h = hit_of sheets (node ∷ above) in
    ap (λ (ns : List StyleFacts). filter_map (hit_of sheets ns) (bare_of sheets)) is
    ∙ filter_map-each h (λ (i : ℕ) (s : SheetAt). bare_in i s.sheet.rules) sheets
    ∙ each-agree (λ (i : ℕ) (s : SheetAt). filter_map h (bare_in i s.sheet.rules)) (λ (i : ℕ) (s : SheetAt). cond (is_place node.inline i) (own_hits_in i s.origin s.sheet.rules) []) sheets
    (λ i s there. sheet-hits sheets node above i s there)
    ∙ own-of node.inline sheets
