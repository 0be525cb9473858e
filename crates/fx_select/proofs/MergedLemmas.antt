-- Hits in the order of their rules: where those of one rule are made one, all hits are noted.
-- A stable sort keeps, for each rule, the hits of that rule.
use Rattle.std.proofs.Common.{◌≡◌, ◌<◌, ℕ, zero, suc, ◌+◌, Bool, true, false, cond, ◌&&◌, ◌||◌, not, List, [], ◌∷◌, ◌++◌, map, fold, filter, length, get_or, ltb, eqb, inl, inr, refl, sym, ◌∙◌, ap, subst, append_assoc, arith}
use Rattle.std.specs.Prelude.{All}
use Rattle.std.specs.Option.{option_map}
use Rattle.std.specs.List.{filter_map}
use Rattle.std.specs.List.Sorted.{IsPermutation, IsSortedByKey, IsStableByKey, ties}
use Rattle.std.specs.Ordering.{is_lt, ordering_then}
use Rattle.std.specs.declared.cmp.Ordering.TheVariants.{Less, Equal, Greater}
use Rattle.std.proofs.lemmas.Bool.{cases_Bool}
use Rattle.std.proofs.lemmas.List.Elements.{filter_agree}
use Rattle.std.proofs.lemmas.List.Sorted.{All-permutation}
use Rattle.fx_css_types.specs.declared.sheets.Candidate.{Candidate}
use Rattle.fx_select.specs.Hits.{candidate}
use Rattle.fx_select.specs.Merged.{compare_places, is_same_rule, merged, merged_of, place_of, raised}
use Rattle.fx_select.specs.Strongest.{RuleAt, is_of_rule, strongest, greatest}
use Rattle.fx_select.proofs.NotedLemmas.{is_before, note_all, noted, noted-before, noted-none, noted-same}
use Rattle.fx_select.proofs.OrderLemmas.{before-same, before-later, before-other, before-none, behind-same, same-itself, same-ties}
use Rattle.fx_select.proofs.StrongestLemmas.{AllAmong, Among, Rising, agree, note_all-strongest, rule_at}

-- each of these rules stands before that of the hit
abbrev AllBefore : List Candidate → Candidate → Type 0
AllBefore [] hit = Unit {0}
AllBefore (one ∷ more) hit = (is_before one hit ≡ true) × AllBefore more hit

-- the rule of no hit stands before that of the one in front of it
abbrev Ascend : Candidate → List Candidate → Type 0
Ascend one [] = Unit {0}
Ascend one (hit ∷ more) = (is_before hit one ≡ false) × Ascend hit more

all_before-same : (front : List Candidate) (one hit : Candidate) → is_same_rule one hit ≡ true → AllBefore front one → AllBefore front hit
all_before-same [] one hit same before = tt
all_before-same (first ∷ front) one hit same before =
    (before-same first.sheet first.rule one.sheet one.rule hit.sheet hit.rule before.0 same, all_before-same front one hit same before.1)

all_before-push : (front : List Candidate) (one hit : Candidate) → is_before one hit ≡ true → AllBefore front one → AllBefore (front ++ one ∷ []) hit
all_before-push [] one hit test before = (test, tt)
all_before-push (first ∷ front) one hit test before =
    (before-later first.sheet first.rule one.sheet one.rule hit.sheet hit.rule before.0 test, all_before-push front one hit test before.1)

ascend-same : (one hit : Candidate) (more : List Candidate) → is_same_rule one hit ≡ true → Ascend hit more → Ascend (raised one hit) more
ascend-same one hit [] same up = tt
ascend-same one hit (next ∷ more) same up = (behind-same next.sheet next.rule hit.sheet hit.rule one.sheet one.rule up.0 same, up.1)

noted-raised : (front : List Candidate) (one hit : Candidate) → AllBefore front hit → is_same_rule one hit ≡ true
    → noted hit (front ++ one ∷ []) ≡ front ++ raised one hit ∷ []
noted-raised [] one hit before same = noted-same hit one [] (before-none one.sheet one.rule hit.sheet hit.rule same) same
noted-raised (first ∷ front) one hit before same =
    noted-before hit first (front ++ one ∷ []) before.0 ∙ ap (λ (l : List Candidate). first ∷ l) (noted-raised front one hit before.1 same)

noted-pushed : (found : List Candidate) (hit : Candidate) → AllBefore found hit → noted hit found ≡ found ++ hit ∷ []
noted-pushed [] hit before = noted-none hit
noted-pushed (first ∷ found) hit before =
    noted-before hit first found before.0 ∙ ap (λ (l : List Candidate). first ∷ l) (noted-pushed found hit before.1)

note_behind : List Candidate → List Candidate → List Candidate
note_behind found more = fold (λ (l : List Candidate) (hit : Candidate). noted hit l) found more

merged-noted : (more front : List Candidate) (one : Candidate) → AllBefore front one → Ascend one more
    → note_behind (front ++ one ∷ []) more ≡ front ++ merged one more
unfolding note_behind
merged-noted [] front one before up = refl
merged-noted (hit ∷ more) front one before up = elim (cases_Bool (is_same_rule one hit)) [
  | inl same ↦
      ap (λ (l : List Candidate). note_behind l more) (noted-raised front one hit (all_before-same front one hit same before) same)
      ∙ merged-noted more front (raised one hit) (all_before-same front one (raised one hit) (same-itself one.sheet one.rule) before) (ascend-same one hit more same up.1)
      ∙ ap (λ (b : Bool). front ++ cond b (merged (raised one hit) more) (one ∷ merged hit more)) (sym same)
  | inr other ↦
      let before_hit : AllBefore (front ++ one ∷ []) hit =
      all_before-push front one hit (before-other one.sheet one.rule hit.sheet hit.rule up.0 other) before in
      ap (λ (l : List Candidate). note_behind l more) (noted-pushed (front ++ one ∷ []) hit before_hit)
      ∙ merged-noted more (front ++ one ∷ []) hit before_hit up.1
      ∙ append_assoc front (one ∷ []) (merged hit more)
      ∙ ap (λ (b : Bool). front ++ cond b (merged (raised one hit) more) (one ∷ merged hit more)) (sym other)
]

lt_cases : (less same then next : Bool)
    → is_lt (ordering_then (cond less Less (cond same Equal Greater)) (cond then Less (cond next Equal Greater))) ≡ (less || (same && then))
lt_cases true same then next = refl
lt_cases false true true next = refl
lt_cases false true false true = refl
lt_cases false true false false = refl
lt_cases false false then next = refl

-- the order of the sort is that of rules
pub lt-before : (one other : Candidate) → is_lt (compare_places (place_of one) (place_of other)) ≡ is_before one other
lt-before one other = lt_cases (ltb one.sheet other.sheet) (eqb one.sheet other.sheet) (ltb one.rule other.rule) (eqb one.rule other.rule)

add_one : (k : ℕ) → k + 1 ≡ suc k
add_one k = omega arith

ascend-from : (hits : List Candidate) (one : Candidate)
    → ((k : ℕ) (d : Candidate) → suc k < length (one ∷ hits) → is_before (get_or (one ∷ hits) (suc k) d) (get_or (one ∷ hits) k d) ≡ false)
    → Ascend one hits
ascend-from [] one up = tt
ascend-from (hit ∷ more) one up =
    (up 0 one (omega arith), ascend-from more hit (λ k d within. up (suc k) d (omega (arith, within))))

ascend-sorted : (one : Candidate) (hits : List Candidate) → IsSortedByKey place_of compare_places (one ∷ hits) → Ascend one hits
ascend-sorted one hits sorted =
    ascend-from hits one
    (λ k d within.
    sym (lt-before (get_or (one ∷ hits) (suc k) d) (get_or (one ∷ hits) k d))
    ∙ subst (λ (n : ℕ). is_lt (compare_places (place_of (get_or (one ∷ hits) n d)) (place_of (get_or (one ∷ hits) k d))) ≡ false) (add_one k)
    (sorted k d (omega arith) (omega (arith, within))))

merged_of-note_all : (hits : List Candidate) → IsSortedByKey place_of compare_places hits → merged_of hits ≡ note_all hits
unfolding note_behind
merged_of-note_all [] sorted = refl
merged_of-note_all (first ∷ more) sorted =
    sym (merged-noted more [] first tt (ascend-sorted first more sorted)) ∙ ap (λ (l : List Candidate). note_behind l more) (sym (noted-none first))

among-at : (rules : List RuleAt) (hits : List Candidate) → AllAmong hits rules → (k : ℕ) (d : Candidate) → k < length hits
    → Among (rule_at (get_or hits k d)) rules
unfolding AllAmong
among-at rules [] among k d within = absurd (omega (arith, within))
among-at rules (hit ∷ more) among zero d within = among.0
among-at rules (hit ∷ more) among (suc k) d within = among-at rules more among.1 k d (omega (arith, within))

among-all : (rules : List RuleAt) (hits : List Candidate) → All (λ hit. Among (rule_at hit) rules) hits → AllAmong hits rules
unfolding AllAmong
among-all rules [] all = tt
among-all rules (hit ∷ more) all = (all 0 hit (omega arith), among-all rules more (λ k d within. all (suc k) d (omega (arith, within))))

all_among-permutation : (rules : List RuleAt) (hits sorted : List Candidate) → IsPermutation hits sorted → AllAmong hits rules → AllAmong sorted rules
all_among-permutation rules hits sorted moved among =
    among-all rules sorted (All-permutation (λ hit. Among (rule_at hit) rules) hits sorted moved (among-at rules hits among))

precedes : Candidate → Candidate → Bool
precedes one other = is_lt (compare_places (place_of one) (place_of other))

of_rule-ties : (rule : RuleAt) (hit : Candidate) → is_of_rule rule hit ≡ ties precedes (candidate rule.sheet rule.rule rule.origin (0, 0, 0)) hit
unfolding precedes
of_rule-ties rule hit =
    let one : Candidate = candidate rule.sheet rule.rule rule.origin (0, 0, 0) in
    sym (ap (λ (b : Bool). not b && not (precedes hit one)) (lt-before one hit)
    ∙ ap (λ (b : Bool). not (is_before one hit) && not b) (lt-before hit one)
    ∙ same-ties rule.sheet rule.rule hit.sheet hit.rule)

of_rule-stable : (hits sorted : List Candidate) → IsStableByKey place_of compare_places hits sorted → (rule : RuleAt)
    → filter (is_of_rule rule) sorted ≡ filter (is_of_rule rule) hits
unfolding precedes
of_rule-stable hits sorted stable rule =
    let one : Candidate = candidate rule.sheet rule.rule rule.origin (0, 0, 0) in
    filter_agree (is_of_rule rule) (ties precedes one) (of_rule-ties rule) sorted
    ∙ stable one
    ∙ sym (filter_agree (is_of_rule rule) (ties precedes one) (of_rule-ties rule) hits)

strongest-stable : (hits sorted : List Candidate) → IsStableByKey place_of compare_places hits sorted → (rule : RuleAt)
    → strongest sorted rule ≡ strongest hits rule
unfolding strongest
strongest-stable hits sorted stable rule =
    ap (λ (l : List Candidate). option_map (candidate rule.sheet rule.rule rule.origin) (greatest (map (λ (hit : Candidate). hit.specificity) l)))
    (of_rule-stable hits sorted stable rule)

-- sorted hits, with those of one rule made one, are the rules that were hit
pub merged_of-strongest : (rules : List RuleAt) → Rising rules → (hits sorted : List Candidate) → AllAmong hits rules
    → IsPermutation hits sorted → IsStableByKey place_of compare_places hits sorted → IsSortedByKey place_of compare_places sorted
    → merged_of sorted ≡ filter_map (strongest hits) rules
merged_of-strongest rules rising hits sorted among moved stable order =
    merged_of-note_all sorted order
    ∙ note_all-strongest rules rising sorted (all_among-permutation rules hits sorted moved among)
    ∙ agree (strongest sorted) (strongest hits) rules (λ rule m. strongest-stable hits sorted stable rule)
