-- The rules of a list of sheets rise, and each hit is of one of them.
use Rattle.std.proofs.Common.{◌≡◌, ℕ, zero, suc, ◌+◌, ◌≤◌, ◌⊎◌, inl, inr, List, [], ◌∷◌, ◌++◌, Option, Some, None, refl, sym, ◌∙◌, ap, subst, arith}
use Rattle.std.specs.Prelude.{slice_get, option_and_then}
use Rattle.std.specs.Option.{option_map}
use Rattle.std.specs.List.{enumerate_from, filter_map, flat_map}
use Rattle.fx_css_types.specs.declared.sheets.Candidate.{Candidate}
use Rattle.fx_css_types.specs.declared.sheets.Rule.{Rule}
use Rattle.fx_css_types.specs.declared.sheets.SheetAt.{SheetAt}
use Rattle.fx_css_types.specs.declared.sheets.SheetOrigin.{SheetOrigin}
use Rattle.fx_kinds.specs.declared.facts.StyleFacts.{StyleFacts}
use Rattle.fx_select.specs.declared.lists.SelectorAt.{SelectorAt}
use Rattle.fx_select.specs.Hits.{candidate, hit_in, hit_of, hits_of, weight_at}
use Rattle.fx_select.specs.Listing.{Listing, each}
use Rattle.fx_select.specs.Strongest.{RuleAt, rules_of, sheet_rules}
use Rattle.fx_select.proofs.StrongestLemmas.{AllAmong, Among, Follows, Rising, rule_at}

among-left : (rule : RuleAt) (some more : List RuleAt) → Among rule some → Among rule (some ++ more)
unfolding Among
among-left rule [] more among = absurd among
among-left rule (first ∷ rest) more (inl is) = inl is
among-left rule (first ∷ rest) more (inr further) = inr (among-left rule rest more further)

among-right : (rule : RuleAt) (some more : List RuleAt) → Among rule more → Among rule (some ++ more)
unfolding Among
among-right rule [] more among = among
among-right rule (first ∷ rest) more among = inr (among-right rule rest more among)

among-parts : (rule : RuleAt) (some more : List RuleAt) → Among rule (some ++ more) → Among rule some ⊎ Among rule more
unfolding Among
among-parts rule [] more among = inr among
among-parts rule (first ∷ rest) more (inl is) = inl (inl is)
among-parts rule (first ∷ rest) more (inr further) = elim (among-parts rule rest more further) [
  | inl there ↦ inl (inr there)
  | inr behind ↦ inr behind
]

rising-append : (some more : List RuleAt) → Rising some → Rising more
    → ((rule other : RuleAt) → Among rule some → Among other more → Follows rule other) → Rising (some ++ more)
unfolding Among Rising
rising-append [] more up further across = further
rising-append (first ∷ rest) more up further across = (
  λ rule among. elim (among-parts rule rest more among) [
    | inl there ↦ up.0 rule there
    | inr behind ↦ across first rule (inl refl) behind
  ],
  rising-append rest more up.1 further (λ rule other m n. across rule other (inr m) n),
)

-- the rules of one sheet from a number on
rules_from : ℕ → SheetOrigin → ℕ → List Rule → List RuleAt
rules_from sheet origin n rules =
    flat_map (λ (e : ℕ × Rule). (record { sheet = sheet; rule = e.0; origin = origin }) ∷ []) (enumerate_from n rules)

from-number : (sheet : ℕ) (origin : SheetOrigin) (n : ℕ) (rules : List Rule) (rule : RuleAt) → Among rule (rules_from sheet origin n rules)
    → (rule.sheet ≡ sheet) × (n ≤ rule.rule)
unfolding Among rules_from
from-number sheet origin n [] rule among = absurd among
from-number sheet origin n (first ∷ rest) rule (inl is) =
    (ap (λ (r : RuleAt). r.sheet) is, let same : rule.rule ≡ n = ap (λ (r : RuleAt). r.rule) is in omega arith)
from-number sheet origin n (first ∷ rest) rule (inr further) =
    let IH : (rule.sheet ≡ sheet) × (n + 1 ≤ rule.rule) = from-number sheet origin (n + 1) rest rule further in
    (IH.0, omega (arith, IH.1))

rising-rules : (sheet : ℕ) (origin : SheetOrigin) (n : ℕ) (rules : List Rule) → Rising (rules_from sheet origin n rules)
unfolding Rising Follows rules_from
rising-rules sheet origin n [] = tt
rising-rules sheet origin n (first ∷ rest) = (
  λ rule among.
      let where_ : (rule.sheet ≡ sheet) × (n + 1 ≤ rule.rule) = from-number sheet origin (n + 1) rest rule among in
      inr (sym where_.0, omega (arith, where_.1)),
  rising-rules sheet origin (n + 1) rest,
)

sheets_from : ℕ → List SheetAt → List RuleAt
sheets_from n sheets = flat_map (λ (e : ℕ × SheetAt). sheet_rules e.0 e.1) (enumerate_from n sheets)

sheet-is : (n : ℕ) (s : SheetAt) → sheet_rules n s ≡ rules_from n s.origin 0 s.sheet.rules
unfolding each rules_from
sheet-is n s = refl

from-sheet : (n : ℕ) (sheets : List SheetAt) (rule : RuleAt) → Among rule (sheets_from n sheets) → n ≤ rule.sheet
unfolding Among sheets_from
from-sheet n [] rule among = absurd among
from-sheet n (first ∷ rest) rule among = elim (among-parts rule (sheet_rules n first) (sheets_from (n + 1) rest) among) [
  | inl there ↦
      let same : rule.sheet ≡ n =
      (from-number n first.origin 0 first.sheet.rules rule (subst (Among rule) (sheet-is n first) there)).0 in omega arith
  | inr behind ↦ let above : n + 1 ≤ rule.sheet = from-sheet (n + 1) rest rule behind in omega arith
]

rising-sheets : (n : ℕ) (sheets : List SheetAt) → Rising (sheets_from n sheets)
unfolding Rising Follows sheets_from
rising-sheets n [] = tt
rising-sheets n (first ∷ rest) =
    rising-append (sheet_rules n first) (sheets_from (n + 1) rest)
    (subst Rising (sym (sheet-is n first)) (rising-rules n first.origin 0 first.sheet.rules))
    (rising-sheets (n + 1) rest)
    (λ rule other m k.
    let same : rule.sheet ≡ n =
    (from-number n first.origin 0 first.sheet.rules rule (subst (Among rule) (sheet-is n first) m)).0 in
    let above : n + 1 ≤ other.sheet = from-sheet (n + 1) rest other k in
    inl (omega arith))

pub rising-rules_of : (sheets : List SheetAt) → Rising (rules_of sheets)
unfolding each sheets_from
rising-rules_of sheets = rising-sheets 0 sheets

among-numbered : {X : Type 0} (give : ℕ → X → List RuleAt) (n : ℕ) (xs : List X) (i : ℕ) (x : X) → slice_get xs i ≡ Some x
    → (rule : RuleAt) → Among rule (give (n + i) x) → Among rule (flat_map (λ (e : ℕ × X). give e.0 e.1) (enumerate_from n xs))
among-numbered give n [] i x is rule among = cc
among-numbered {X} give n (y ∷ ys) zero x is rule among =
    let all : List RuleAt = flat_map (λ (e : ℕ × X). give e.0 e.1) (enumerate_from (n + 1) ys) in
    let same : x ≡ y = cc in
    let number : n + 0 ≡ n = omega arith in
    let here : Among rule (give n y) =
    subst (λ (z : X). Among rule (give n z)) same (subst (λ (m : ℕ). Among rule (give m x)) number among) in
    among-left rule (give n y) all here
among-numbered {X} give n (y ∷ ys) (suc i) x is rule among =
    let all : List RuleAt = flat_map (λ (e : ℕ × X). give e.0 e.1) (enumerate_from (n + 1) ys) in
    let number : n + suc i ≡ (n + 1) + i = omega arith in
    among-right rule (give n y) all
    (among-numbered give (n + 1) ys i x is rule (subst (λ (m : ℕ). Among rule (give m x)) number among))

pub among-each : {X : Type 0} (give : ℕ → X → List RuleAt) (xs : List X) (i : ℕ) (x : X) → slice_get xs i ≡ Some x
    → (rule : RuleAt) → Among rule (give i x) → Among rule (each give xs)
unfolding each
among-each give xs i x is rule among =
    let number : i ≡ 0 + i = omega arith in
    among-numbered give 0 xs i x is rule (subst (λ (m : ℕ). Among rule (give m x)) number among)

rule-there : (sheets : List SheetAt) (i j : ℕ) (s : SheetAt) (r : Rule) → slice_get sheets i ≡ Some s → slice_get s.sheet.rules j ≡ Some r
    → Among (record { sheet = i; rule = j; origin = s.origin }) (rules_of sheets)
unfolding Among
rule-there sheets i j s r is there =
    among-each sheet_rules sheets i s is (record { sheet = i; rule = j; origin = s.origin })
    (among-each (λ (at : ℕ) (rule : Rule). (record { sheet = i; rule = at; origin = s.origin }) ∷ []) s.sheet.rules j r there
    (record { sheet = i; rule = j; origin = s.origin }) (inl refl))

option_cases : {A : Type 0} (o : Option A) → (o ≡ None) ⊎ ((x : A) × (o ≡ Some x))
option_cases None = inl refl
option_cases (Some x) = inr (x, refl)

hit-among : (sheets : List SheetAt) (nodes : List StyleFacts) (at : SelectorAt) (hit : Candidate) → hit_of sheets nodes at ≡ Some hit
    → Among (rule_at hit) (rules_of sheets)
unfolding hit_of hit_in rule_at
hit-among sheets nodes at hit is = elim (option_cases (slice_get sheets at.sheet)) [
  | inl none ↦
      let gone : None ≡ Some hit = ap (option_and_then (hit_in nodes at)) (sym none) ∙ is in cc
  | inr (s, some) ↦
      let found : hit_in nodes at s ≡ Some hit = ap (option_and_then (hit_in nodes at)) (sym some) ∙ is in
      let weigh : Rule → Option (ℕ × ℕ × ℕ) = λ r. weight_at nodes at.sheet r.selectors at.selector in
      let make : Option (ℕ × ℕ × ℕ) → Option Candidate = option_map (candidate at.sheet at.rule s.origin) in
      elim (option_cases (slice_get s.sheet.rules at.rule)) [
        | inl none ↦
            let gone : None ≡ Some hit = ap (λ (o : Option Rule). make (option_and_then weigh o)) (sym none) ∙ found in cc
        | inr (r, there) ↦
            let weighed : make (weigh r) ≡ Some hit = ap (λ (o : Option Rule). make (option_and_then weigh o)) (sym there) ∙ found in
            elim (option_cases (weigh r)) [
              | inl none ↦ let gone : None ≡ Some hit = ap make (sym none) ∙ weighed in cc
              | inr (weight, is_weight) ↦
                  let same : Some (candidate at.sheet at.rule s.origin weight) ≡ Some hit = ap make (sym is_weight) ∙ weighed in
                  let one : candidate at.sheet at.rule s.origin weight ≡ hit = cc in
                  subst (λ (c : Candidate). Among (rule_at c) (rules_of sheets)) one (rule-there sheets at.sheet at.rule s r some there)
            ]
      ]
]

all-among : (f : SelectorAt → Option Candidate) (rules : List RuleAt)
    → ((at : SelectorAt) (hit : Candidate) → f at ≡ Some hit → Among (rule_at hit) rules) → (all : List SelectorAt)
    → AllAmong (filter_map f all) rules
unfolding AllAmong
all-among f rules each_one [] = tt
all-among f rules each_one (at ∷ rest) = elim (option_cases (f at)) [
  | inl none ↦ rw none (all-among f rules each_one rest)
  | inr (hit, some) ↦ rw some (each_one at hit some, all-among f rules each_one rest)
]

pub hits-among : (listing : Listing) (sheets : List SheetAt) (nodes : List StyleFacts) → AllAmong (hits_of listing sheets nodes) (rules_of sheets)
unfolding hits_of AllAmong
hits-among listing sheets [] = tt
hits-among listing sheets (node ∷ above) =
    all-among (hit_of sheets (node ∷ above)) (rules_of sheets) (hit-among sheets (node ∷ above)) _
