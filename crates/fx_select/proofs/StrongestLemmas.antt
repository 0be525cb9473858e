-- A hit is noted among the rules that were hit, at its rule's place in the order of all rules.
use Rattle.std.proofs.Common.{◌≡◌, ℕ, ◌⊎◌, inl, inr, Bool, true, false, cond, List, [], ◌∷◌, ◌++◌, map, filter, fold, Option, Some, None, refl, sym, ◌∙◌, ap, subst, append_assoc}
use Rattle.std.specs.Option.{option_map}
use Rattle.std.specs.List.{filter_map}
use Rattle.std.proofs.lemmas.List.{append-nil, map-append}
use Rattle.std.proofs.lemmas.List.Elements.{filter-append}
use Rattle.fx_css_types.specs.declared.sheets.Candidate.{Candidate}
use Rattle.fx_select.specs.Hits.{candidate}
use Rattle.fx_select.specs.Merged.{is_same_rule, raised}
use Rattle.fx_select.specs.Strongest.{RuleAt, greater, greater_of, greatest, is_of_rule, strongest, weights_of}
use Rattle.fx_select.proofs.NotedLemmas.{is_before, note_all, noted, noted-before, noted-none, noted-other, noted-same}
use Rattle.fx_select.proofs.OrderLemmas.{Precedes, before-false, before-itself, before-true, same-before, same-behind, same-itself}

Weight : Type 0
Weight = ℕ × ℕ × ℕ

-- the rule is one of these
unfoldable pub Among : RuleAt → List RuleAt → Type 0
Among rule [] = ⊥
Among rule (first ∷ rest) = (rule ≡ first) ⊎ Among rule rest

unfoldable pub Follows : RuleAt → RuleAt → Type 0
Follows first second = Precedes first.sheet first.rule second.sheet second.rule

-- each rule precedes those behind it
unfoldable pub Rising : List RuleAt → Type 0
Rising [] = Unit {0}
Rising (first ∷ rest) = ((rule : RuleAt) → Among rule rest → Follows first rule) × Rising rest

unfoldable pub rule_at : Candidate → RuleAt
rule_at hit = record { sheet = hit.sheet; rule = hit.rule; origin = hit.origin }

most : List Candidate → RuleAt → Option (ℕ × ℕ × ℕ)
most hits rule = greatest (weights_of hits rule)

fold-push : {A B : Type 0} (f : B → A → B) (a : B) (xs : List A) (x : A) → fold f a (xs ++ x ∷ []) ≡ f (fold f a xs) x
fold-push f a [] x = refl
fold-push f a (y ∷ xs) x = fold-push f (f a y) xs x

most-same : (hits : List Candidate) (hit : Candidate) (rule : RuleAt) → is_of_rule rule hit ≡ true
    → most (hits ++ hit ∷ []) rule ≡ greater_of (most hits rule) hit.specificity
unfolding most
most-same hits hit rule same =
    let weight : Candidate → ℕ × ℕ × ℕ = λ c. c.specificity in
    let kept : filter (is_of_rule rule) (hits ++ hit ∷ []) ≡ filter (is_of_rule rule) hits ++ hit ∷ [] =
    filter-append (is_of_rule rule) hits (hit ∷ []) ∙ ap (λ (b : Bool). filter (is_of_rule rule) hits ++ cond b (hit ∷ []) []) same in
    ap (λ (cs : List Candidate). greatest (map weight cs)) kept
    ∙ ap greatest (map-append weight (filter (is_of_rule rule) hits) (hit ∷ []))
    ∙ fold-push greater_of None (weights_of hits rule) hit.specificity

most-other : (hits : List Candidate) (hit : Candidate) (rule : RuleAt) → is_of_rule rule hit ≡ false
    → most (hits ++ hit ∷ []) rule ≡ most hits rule
unfolding most
most-other hits hit rule other =
    let weight : Candidate → ℕ × ℕ × ℕ = λ c. c.specificity in
    let kept : filter (is_of_rule rule) (hits ++ hit ∷ []) ≡ filter (is_of_rule rule) hits =
    filter-append (is_of_rule rule) hits (hit ∷ []) ∙ ap (λ (b : Bool). filter (is_of_rule rule) hits ++ cond b (hit ∷ []) []) other
    ∙ append-nil (filter (is_of_rule rule) hits) in
    ap (λ (cs : List Candidate). greatest (map weight cs)) kept

strongest-is : (hits : List Candidate) (rule : RuleAt) → strongest hits rule ≡ option_map (candidate rule.sheet rule.rule rule.origin) (most hits rule)
unfolding strongest most
strongest-is hits rule = refl

strongest-by : (hits : List Candidate) (rule : RuleAt) (o : Option (ℕ × ℕ × ℕ)) → most hits rule ≡ o
    → strongest hits rule ≡ option_map (candidate rule.sheet rule.rule rule.origin) o
strongest-by hits rule o is = strongest-is hits rule ∙ ap (option_map (candidate rule.sheet rule.rule rule.origin)) is

strongest-other : (hits : List Candidate) (hit : Candidate) (rule : RuleAt) → is_of_rule rule hit ≡ false
    → strongest (hits ++ hit ∷ []) rule ≡ strongest hits rule
strongest-other hits hit rule other =
    strongest-by (hits ++ hit ∷ []) rule (most hits rule) (most-other hits hit rule other) ∙ sym (strongest-is hits rule)

keep-none : (f : RuleAt → Option Candidate) (rule : RuleAt) (rest : List RuleAt) → f rule ≡ None → filter_map f (rule ∷ rest) ≡ filter_map f rest
keep-none f rule rest is = rw is refl

keep-some : (f : RuleAt → Option Candidate) (rule : RuleAt) (rest : List RuleAt) (c : Candidate) → f rule ≡ Some c
    → filter_map f (rule ∷ rest) ≡ c ∷ filter_map f rest
keep-some f rule rest c is = rw is refl

pub agree : (f g : RuleAt → Option Candidate) (rules : List RuleAt) → ((rule : RuleAt) → Among rule rules → f rule ≡ g rule)
    → filter_map f rules ≡ filter_map g rules
unfolding Among
agree f g [] same = refl
agree f g (first ∷ rest) same =
    let IH : filter_map f rest ≡ filter_map g rest = agree f g rest (λ rule m. same rule (inr m)) in
    rw (same first (inl refl), IH) refl

option_cases : {A : Type 0} (o : Option A) → (o ≡ None) ⊎ ((x : A) × (o ≡ Some x))
option_cases None = inl refl
option_cases (Some x) = inr (x, refl)

hit_at : RuleAt → ℕ × ℕ × ℕ → Candidate
hit_at rule weight = candidate rule.sheet rule.rule rule.origin weight

strongest-none : (hits : List Candidate) (rule : RuleAt) → most hits rule ≡ None → strongest hits rule ≡ None
strongest-none hits rule is = strongest-by hits rule None is

strongest-some : (hits : List Candidate) (rule : RuleAt) (weight : ℕ × ℕ × ℕ) → most hits rule ≡ Some weight
    → strongest hits rule ≡ Some (hit_at rule weight)
unfolding hit_at
strongest-some hits rule weight is = strongest-by hits rule (Some weight) is

-- a hit goes before the rules that follow its own
noted-first : (hits : List Candidate) (hit : Candidate) (rules : List RuleAt) → ((rule : RuleAt) → Among rule rules → Follows (rule_at hit) rule)
    → noted hit (filter_map (strongest hits) rules) ≡ hit ∷ filter_map (strongest hits) rules
unfolding Among Follows rule_at hit_at
noted-first hits hit [] follows = noted-none hit
noted-first hits hit (first ∷ rest) follows = elim (option_cases (most hits first)) [
  | inl none ↦
      let skip : filter_map (strongest hits) (first ∷ rest) ≡ filter_map (strongest hits) rest =
      keep-none (strongest hits) first rest (strongest-none hits first none) in
      ap (noted hit) skip
      ∙ noted-first hits hit rest (λ rule m. follows rule (inr m))
      ∙ ap (λ (l : List Candidate). hit ∷ l) (sym skip)
  | inr (weight, some) ↦
      let one : Candidate = hit_at first weight in
      let kept : filter_map (strongest hits) (first ∷ rest) ≡ one ∷ filter_map (strongest hits) rest =
      keep-some (strongest hits) first rest one (strongest-some hits first weight some) in
      let behind : Precedes hit.sheet hit.rule first.sheet first.rule = follows first (inl refl) in
      ap (noted hit) kept
      ∙ noted-other hit one (filter_map (strongest hits) rest)
      (before-false hit.sheet hit.rule first.sheet first.rule behind) (same-behind hit.sheet hit.rule first.sheet first.rule behind)
      ∙ ap (λ (l : List Candidate). hit ∷ l) (sym kept)
]

-- the hit's rule comes first
noted-here : (first : RuleAt) (rest : List RuleAt) → Rising (first ∷ rest) → (hits : List Candidate) (hit : Candidate) → rule_at hit ≡ first
    → filter_map (strongest (hits ++ hit ∷ [])) (first ∷ rest) ≡ noted hit (filter_map (strongest hits) (first ∷ rest))
unfolding Rising Follows rule_at hit_at
noted-here first rest rising hits hit is =
    let more : List Candidate = hits ++ hit ∷ [] in
    let follows : (rule : RuleAt) → Among rule rest → Follows (rule_at hit) rule =
    λ rule m. let P : RuleAt → Type 0 = λ r. Follows r rule in subst P (sym is) (rising.0 rule m) in
    let of_rule : is_of_rule first hit ≡ true = ap (λ (r : RuleAt). is_of_rule r hit) (sym is) ∙ same-itself hit.sheet hit.rule in
    let others : filter_map (strongest more) rest ≡ filter_map (strongest hits) rest =
    agree (strongest more) (strongest hits) rest
    (λ rule m. strongest-other hits hit rule (same-before hit.sheet hit.rule rule.sheet rule.rule (follows rule m))) in
    elim (option_cases (most hits first)) [
      | inl none ↦
          let now : strongest more first ≡ Some hit =
          strongest-some more first hit.specificity
          (most-same hits hit first of_rule ∙ ap (λ (o : Option (ℕ × ℕ × ℕ)). greater_of o hit.specificity) none)
          ∙ ap (λ (r : RuleAt). Some (hit_at r hit.specificity)) (sym is) in
          keep-some (strongest more) first rest hit now
          ∙ ap (λ (l : List Candidate). hit ∷ l) others
          ∙ sym (noted-first hits hit rest follows)
          ∙ ap (noted hit) (sym (keep-none (strongest hits) first rest (strongest-none hits first none)))
      | inr (weight, some) ↦
          let one : Candidate = hit_at first weight in
          let now : strongest more first ≡ Some (raised one hit) =
          strongest-some more first (greater weight hit.specificity)
          (most-same hits hit first of_rule ∙ ap (λ (o : Option (ℕ × ℕ × ℕ)). greater_of o hit.specificity) some) in
          let before : is_before one hit ≡ false =
          ap (λ (r : RuleAt). is_before (hit_at r weight) hit) (sym is) ∙ before-itself hit.sheet hit.rule in
          let same : is_same_rule one hit ≡ true =
          ap (λ (r : RuleAt). is_same_rule (hit_at r weight) hit) (sym is) ∙ same-itself hit.sheet hit.rule in
          keep-some (strongest more) first rest (raised one hit) now
          ∙ ap (λ (l : List Candidate). raised one hit ∷ l) others
          ∙ sym (noted-same hit one (filter_map (strongest hits) rest) before same)
          ∙ ap (noted hit) (sym (keep-some (strongest hits) first rest one (strongest-some hits first weight some)))
    ]

pub noted-strongest : (rules : List RuleAt) → Rising rules → (hits : List Candidate) (hit : Candidate) → Among (rule_at hit) rules
    → filter_map (strongest (hits ++ hit ∷ [])) rules ≡ noted hit (filter_map (strongest hits) rules)
unfolding Among Rising Follows rule_at hit_at
noted-strongest [] rising hits hit among = absurd among
noted-strongest (first ∷ rest) rising hits hit (inl is) = noted-here first rest rising hits hit is
noted-strongest (first ∷ rest) rising hits hit (inr further) =
    let more : List Candidate = hits ++ hit ∷ [] in
    let front : Precedes first.sheet first.rule hit.sheet hit.rule = rising.0 (rule_at hit) further in
    let still : strongest more first ≡ strongest hits first =
    strongest-other hits hit first (same-behind first.sheet first.rule hit.sheet hit.rule front) in
    let IH : filter_map (strongest more) rest ≡ noted hit (filter_map (strongest hits) rest) = noted-strongest rest rising.1 hits hit further in
    elim (option_cases (most hits first)) [
      | inl none ↦
          keep-none (strongest more) first rest (still ∙ strongest-none hits first none)
          ∙ IH
          ∙ ap (noted hit) (sym (keep-none (strongest hits) first rest (strongest-none hits first none)))
      | inr (weight, some) ↦
          let one : Candidate = hit_at first weight in
          keep-some (strongest more) first rest one (still ∙ strongest-some hits first weight some)
          ∙ ap (λ (l : List Candidate). one ∷ l) IH
          ∙ sym (noted-before hit one (filter_map (strongest hits) rest) (before-true first.sheet first.rule hit.sheet hit.rule front))
          ∙ ap (noted hit) (sym (keep-some (strongest hits) first rest one (strongest-some hits first weight some)))
    ]

-- each hit's rule is one of these
unfoldable pub AllAmong : List Candidate → List RuleAt → Type 0
AllAmong [] rules = Unit {0}
AllAmong (hit ∷ rest) rules = Among (rule_at hit) rules × AllAmong rest rules

none-hit : (rules : List RuleAt) → filter_map (strongest []) rules ≡ []
unfolding strongest
none-hit [] = refl
none-hit (first ∷ rest) = none-hit rest

noted-behind : (rules : List RuleAt) → Rising rules → (hits more : List Candidate) → AllAmong more rules
    → fold (λ (found : List Candidate) (hit : Candidate). noted hit found) (filter_map (strongest hits) rules) more
    ≡ filter_map (strongest (hits ++ more)) rules
unfolding AllAmong
noted-behind rules rising hits [] among = ap (λ (l : List Candidate). filter_map (strongest l) rules) (sym (append-nil hits))
noted-behind rules rising hits (hit ∷ more) among =
    ap (λ (l : List Candidate). fold (λ (found : List Candidate) (other : Candidate). noted other found) l more)
    (sym (noted-strongest rules rising hits hit among.0))
    ∙ noted-behind rules rising (hits ++ hit ∷ []) more among.1
    ∙ ap (λ (l : List Candidate). filter_map (strongest l) rules) (append_assoc hits (hit ∷ []) more)

-- all hits noted one after another are the rules that were hit, in their order
pub note_all-strongest : (rules : List RuleAt) → Rising rules → (hits : List Candidate) → AllAmong hits rules
    → note_all hits ≡ filter_map (strongest hits) rules
note_all-strongest rules rising hits among =
    ap (λ (l : List Candidate). fold (λ (found : List Candidate) (hit : Candidate). noted hit found) l hits) (sym (none-hit rules))
    ∙ noted-behind rules rising [] hits among
