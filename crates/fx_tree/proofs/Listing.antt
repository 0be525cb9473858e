-- The list of living nodes: what stands in a slot is listed, and a lookup in the list is one in the slots.
use Rattle.std.proofs.Common.{◌≡◌, ◌≢◌, ℕ, ◌<◌, Bool, true, false, cond, ◌==◌, List, [], ◌∷◌, length, get_or, map, filter, Option, Some, None, is_some, Contains, refl, sym, ◌∙◌, ap, subst, inl, inr, arith}
use Rattle.std.specs.Option.{option_map}
use Rattle.std.specs.List.{filter_map, cons_option, range_with_len, position, find}
use Rattle.std.proofs.lemmas.Bool.{cases_Bool, cases_lt, false≢true, both_ways, eqb-true, eq-eqb, false_from_ne_true}
use Rattle.std.proofs.lemmas.List.{get_or_past}
use Rattle.std.proofs.lemmas.List.Quantifiers.{position-Some}
use Rattle.std.proofs.lemmas.List.Sums.{fails_before_first}
use Rattle.std.proofs.lemmas.Option.{none-some, same_Some}
use Rattle.std.proofs.lemmas.Grind.{common_steps}
use Rattle.slab.proofs.SlabLemmas.{Contains-cons, Contains-cons_cases}
use Rattle.fx_base.specs.declared.keys.NodeKey.{NodeKey}
use Rattle.fx_tree.specs.declared.nodes.Stored.{Stored}
use Rattle.fx_tree.specs.Scene.{Node, is_same, has, children_of, parent_of}
use Rattle.fx_tree.specs.Slots.{of_birth, node_at, alive_at, up_at, below_at, children_in, parent_in, seen, seen_at, holds_birth, seen_in, node_born, nodes_in, IsForest, IsNumbered}
use Rattle.fx_tree.proofs.Given.{Contains-given, given_at}
use Rattle.fx_tree.proofs.Keys.{is_same-refl, is_same-true}

-- one slot

seen_slot : (slot : ℕ) (o : Option Stored) (node : Node) → seen slot o ≡ Some node → node.key.slot ≡ slot
seen_slot slot None node is = absurd (none-some node is)
seen_slot slot (Some stored) node is = sym (ap (λ (n : Node). n.key.slot) (same_Some _ _ is))

pub seen_at-slot : (slots : List (Option Stored)) (slot : ℕ) (node : Node) → seen_at slots slot ≡ Some node → node.key.slot ≡ slot
unfolding seen_at
seen_at-slot slots slot node is = seen_slot slot (get_or slots slot None) node is

pub seen_home : (slots : List (Option Stored)) (slot : ℕ) (node : Node) → seen_at slots slot ≡ Some node → seen_at slots node.key.slot ≡ Some node
seen_home slots slot node is =
    let P : ℕ → Type 0 = λ s. seen_at slots s ≡ Some node in
    subst P (sym (seen_at-slot slots slot node is)) is

seen_of : (key : NodeKey) (o : Option Stored) → is_some (of_birth key.birth o) ≡ true
    → seen key.slot o ≡ Some (record { key = key; children = children_in (of_birth key.birth o) })
seen_of key None alive = absurd (false≢true alive)
seen_of key (Some stored) alive =
    elim (cases_Bool (stored.birth == key.birth)) [
      | inl same ↦
          let node : ℕ → Option Node = λ b. Some (record { key = record { slot = key.slot; birth = b }; children = stored.children }) in
          let kept : Bool → Option Node = λ b. Some (record { key = key; children = children_in (cond b (Some stored) None) }) in
          ap node (eqb-true _ _ same) ∙ sym (ap kept same)
      | inr other ↦ absurd (false≢true (sym (ap (λ (b : Bool). is_some (cond b (Some stored) None)) other) ∙ alive))
    ]

pub seen_alive : (slots : List (Option Stored)) (key : NodeKey) → alive_at slots key ≡ true
    → seen_at slots key.slot ≡ Some (record { key = key; children = below_at slots key })
unfolding alive_at seen_at below_at node_at
seen_alive slots key alive = seen_of key (get_or slots key.slot None) alive

pub alive_seen : (slots : List (Option Stored)) (slot : ℕ) (node : Node) → seen_at slots slot ≡ Some node
    → (alive_at slots node.key ≡ true) × (below_at slots node.key ≡ node.children)
unfolding alive_at seen_at below_at node_at
alive_seen slots slot node is = by_slot (get_or slots slot None) refl is
  where
    by_slot : (o : Option Stored) → get_or slots slot None ≡ o → seen slot o ≡ Some node
        → (is_some (of_birth node.key.birth (get_or slots node.key.slot None)) ≡ true)
        × (children_in (of_birth node.key.birth (get_or slots node.key.slot None)) ≡ node.children)
    by_slot None held shows = absurd (none-some node shows)
    by_slot (Some stored) held shows =
        let P : Node → Type 0 = λ n.
        (is_some (of_birth n.key.birth (get_or slots n.key.slot None)) ≡ true)
        × (children_in (of_birth n.key.birth (get_or slots n.key.slot None)) ≡ n.children) in
        let there : of_birth stored.birth (get_or slots slot None) ≡ Some stored =
        ap (of_birth stored.birth) held ∙ ap (λ (b : Bool). cond b (Some stored) None) (eq-eqb stored.birth stored.birth refl) in
        subst P (same_Some _ _ shows) (ap is_some there, ap children_in there)

pub alive_up : (slots : List (Option Stored)) (key parent : NodeKey) → up_at slots key ≡ Some parent → alive_at slots key ≡ true
unfolding up_at alive_at
alive_up slots key parent is = by_node (node_at slots key) is
  where
    by_node : (o : Option Stored) → parent_in o ≡ Some parent → is_some o ≡ true
    by_node None has_parent = absurd (none-some parent has_parent)
    by_node (Some stored) has_parent = refl

pub alive_below : (slots : List (Option Stored)) (key parent : NodeKey) → has (below_at slots parent) key ≡ true → alive_at slots parent ≡ true
unfolding below_at alive_at has
alive_below slots key parent is = by_node (node_at slots parent) is
  where
    by_node : (o : Option Stored) → has (children_in o) key ≡ true → is_some o ≡ true
    by_node None there = absurd (false≢true there)
    by_node (Some stored) there = refl

-- the node of a birth number

holds_seen : (slot birth : ℕ) (o : Option Stored) → holds_birth birth o ≡ true → (node : Node) × (seen slot o ≡ Some node) × (node.key.birth ≡ birth)
holds_seen slot birth None holds = absurd (false≢true holds)
holds_seen slot birth (Some stored) holds =
    (record { key = record { slot = slot; birth = stored.birth }; children = stored.children }, refl, eqb-true _ _ holds)

seen_holds : (slot : ℕ) (o : Option Stored) (node : Node) → seen slot o ≡ Some node → holds_birth node.key.birth o ≡ true
seen_holds slot None node is = absurd (none-some node is)
seen_holds slot (Some stored) node is = eq-eqb stored.birth node.key.birth (ap (λ (n : Node). n.key.birth) (same_Some _ _ is))

position-None : (p : Option Stored → Bool) (slots : List (Option Stored)) (k : ℕ) (d : Option Stored)
    → position p slots ≡ None → k < length slots → p (get_or slots k d) ≡ false
position-None p slots k d none within =
    fails_before_first p slots k d (grind (arith, common_steps))

seen_within : (slots : List (Option Stored)) (slot : ℕ) (node : Node) → seen_at slots slot ≡ Some node → slot < length slots
unfolding seen_at
seen_within slots slot node is =
    elim (cases_lt slot (length slots)) [
      | inl within ↦ within
      | inr past ↦ absurd (none-some node (sym (ap (seen slot) (get_or_past slots slot None past)) ∙ is))
    ]

seen_of_holding : (slots : List (Option Stored)) (k birth : ℕ) → holds_birth birth (get_or slots k None) ≡ true
    → (node : Node) × (seen_at slots k ≡ Some node) × (node.key.birth ≡ birth)
unfolding seen_at
seen_of_holding slots k birth holds = holds_seen k birth (get_or slots k None) holds

holding_of_seen : (slots : List (Option Stored)) (k : ℕ) (node : Node) → seen_at slots k ≡ Some node
    → holds_birth node.key.birth (get_or slots k None) ≡ true
unfolding seen_at
holding_of_seen slots k node is = seen_holds k (get_or slots k None) node is

pub node_born-Some : (slots : List (Option Stored)) (birth : ℕ) (node : Node)
    → node_born slots birth ≡ Some node → (node.key.birth ≡ birth) × (seen_at slots node.key.slot ≡ Some node)
unfolding node_born
node_born-Some slots birth node found = by_place (position (holds_birth birth) slots) refl found
  where
    by_place : (place : Option ℕ) → position (holds_birth birth) slots ≡ place → seen_in slots place ≡ Some node
        → (node.key.birth ≡ birth) × (seen_at slots node.key.slot ≡ Some node)
    by_place None is shows = absurd (none-some node shows)
    by_place (Some k) is shows =
        let there = seen_of_holding slots k birth (position-Some (holds_birth birth) slots k None is).1 in
        (ap (λ (n : Node). n.key.birth) (same_Some _ _ (sym shows ∙ there.1)) ∙ there.2, seen_home slots k node shows)

-- a birth number stands in one slot at most
abbrev pub IsSingle : List (Option Stored) → Type 0
IsSingle slots =
    (one other : ℕ) (a b : Node) → seen_at slots one ≡ Some a → seen_at slots other ≡ Some b → a.key.birth ≡ b.key.birth → one ≡ other

pub node_born-there : (slots : List (Option Stored)) (slot : ℕ) (node : Node)
    → IsSingle slots → seen_at slots slot ≡ Some node → node_born slots node.key.birth ≡ Some node
unfolding node_born
node_born-there slots slot node single is = by_place (position (holds_birth node.key.birth) slots) refl
  where
    by_place : (place : Option ℕ) → position (holds_birth node.key.birth) slots ≡ place → seen_in slots place ≡ Some node
    by_place None none =
        absurd
        (both_ways _ (position-None (holds_birth node.key.birth) slots slot None none (seen_within slots slot node is))
        (holding_of_seen slots slot node is))
    by_place (Some k) found =
        let there = seen_of_holding slots k node.key.birth (position-Some (holds_birth node.key.birth) slots k None found).1 in
        ap (seen_at slots) (single k slot there.0 node there.1 is there.2) ∙ is

pub node_born-None : (slots : List (Option Stored)) (birth : ℕ)
    → ((slot : ℕ) (node : Node) → seen_at slots slot ≡ Some node → node.key.birth ≡ birth → ⊥) → node_born slots birth ≡ None
node_born-None slots birth nowhere = by_node (node_born slots birth) refl
  where
    by_node : (o : Option Node) → node_born slots birth ≡ o → o ≡ None
    by_node None is = refl
    by_node (Some node) is =
        let at = node_born-Some slots birth node is in
        absurd (nowhere node.key.slot node at.1 at.0)

-- what a change makes of a node, if there is one
abbrev pub through : (Node → Option Node) → Option Node → Option Node
through change None = None
through change (Some node) = change node

module _ (change : Node → Option Node) (old new : List (Option Stored)) (single_old : IsSingle old) (single_new : IsSingle new)
    (keeps : (node changed : Node) → change node ≡ Some changed → changed.key ≡ node.key)
    (changes : (slot : ℕ) → seen_at new slot ≡ through change (seen_at old slot)) where
  -- what is seen after the change was seen before
  changed_from : (slot : ℕ) (changed : Node) → seen_at new slot ≡ Some changed
      → (node : Node) × (seen_at old slot ≡ Some node) × (change node ≡ Some changed)
  changed_from slot changed is = by_old (seen_at old slot) refl (sym (changes slot) ∙ is)
    where
      by_old : (o : Option Node) → seen_at old slot ≡ o → through change o ≡ Some changed
          → (node : Node) × (seen_at old slot ≡ Some node) × (change node ≡ Some changed)
      by_old None was shows = absurd (none-some changed shows)
      by_old (Some node) was shows = (node, was, shows)

  pub node_born-changed : (birth : ℕ) → node_born new birth ≡ through change (node_born old birth)
  node_born-changed birth = by_old (node_born old birth) refl
    where
      by_new : (node : Node) → seen_at old node.key.slot ≡ Some node → node.key.birth ≡ birth → (o : Option Node) → change node ≡ o
          → node_born new birth ≡ o
      by_new node was of_birth None gives =
          node_born-None new birth
          (λ slot changed at e.
          let from = changed_from slot changed at in
          let same_key = keeps from.0 changed from.2 in
          let here : slot ≡ node.key.slot =
          single_old slot node.key.slot from.0 node from.1 was (sym (ap (λ (k : NodeKey). k.birth) same_key) ∙ e ∙ sym of_birth) in
          let same : from.0 ≡ node = same_Some _ _ (sym from.1 ∙ ap (seen_at old) here ∙ was) in
          none-some changed (sym gives ∙ sym (ap change same) ∙ from.2))
      by_new node was of_birth (Some changed) gives =
          let at : seen_at new node.key.slot ≡ Some changed = changes node.key.slot ∙ ap (through change) was ∙ gives in
          let e : changed.key.birth ≡ birth = ap (λ (k : NodeKey). k.birth) (keeps node changed gives) ∙ of_birth in
          let P : ℕ → Type 0 = λ b. node_born new b ≡ Some changed in
          subst P e (node_born-there new node.key.slot changed single_new at)

      by_old : (o : Option Node) → node_born old birth ≡ o → node_born new birth ≡ through change o
      by_old None is =
          node_born-None new birth
          (λ slot changed at e.
          let from = changed_from slot changed at in
          let found = node_born-there old slot from.0 single_old from.1 in
          let of_birth : from.0.key.birth ≡ birth = sym (ap (λ (k : NodeKey). k.birth) (keeps from.0 changed from.2)) ∙ e in
          none-some from.0 (sym is ∙ sym (ap (node_born old) of_birth) ∙ found))
      by_old (Some node) is =
          let at = node_born-Some old birth node is in
          by_new node at.1 at.0 (change node) refl

  pub nodes_in-changed : (born : ℕ) → nodes_in new born ≡ filter_map change (nodes_in old born)
  unfolding nodes_in
  nodes_in-changed born = filter_map-through (range_with_len 1 born)
    where
      by_head : (o : Option Node) (rest : List Node) → cons_option (through change o) (filter_map change rest) ≡ filter_map change (cons_option o rest)
      by_head None rest = refl
      by_head (Some node) rest = refl

      filter_map-through : (births : List ℕ) → filter_map (node_born new) births ≡ filter_map change (filter_map (node_born old) births)
      filter_map-through [] = refl
      filter_map-through (birth ∷ births) =
          ap (λ (o : Option Node). cons_option o (filter_map (node_born new) births)) (node_born-changed birth)
          ∙ ap (λ (l : List Node). cons_option (through change (node_born old birth)) l) (filter_map-through births)
          ∙ by_head (node_born old birth) (filter_map (node_born old) births)

pub filter_map-Some : (h : Node → Node) (nodes : List Node) → filter_map (λ node. Some (h node)) nodes ≡ map h nodes
filter_map-Some h [] = refl
filter_map-Some h (node ∷ nodes) = ap (λ (l : List Node). h node ∷ l) (filter_map-Some h nodes)

pub filter_map-test : (test : Node → Bool) (nodes : List Node) → filter_map (λ node. cond (test node) (Some node) None) nodes ≡ filter test nodes
filter_map-test test [] = refl
filter_map-test test (node ∷ nodes) =
    ap (λ (l : List Node). cons_option (cond (test node) (Some node) None) l) (filter_map-test test nodes) ∙ by_test (test node)
  where
    by_test : (b : Bool) → cons_option (cond b (Some node) None) (filter test nodes) ≡ cond b (node ∷ filter test nodes) (filter test nodes)
    by_test true = refl
    by_test false = refl

-- who is listed

pub Contains-nodes : (slots : List (Option Stored)) (born slot : ℕ) (node : Node) → IsSingle slots → IsNumbered slots born
    → seen_at slots slot ≡ Some node → Contains (nodes_in slots born) node
unfolding nodes_in
Contains-nodes slots born slot node single numbered is =
    let bounds = numbered.given slot node is in
    Contains-given (node_born slots) 1 born node.key.birth node (omega (arith, bounds.0)) (omega (arith, bounds.1))
    (node_born-there slots slot node single is)

pub node_seen : (slots : List (Option Stored)) (born : ℕ) (node : Node) → Contains (nodes_in slots born) node → seen_at slots node.key.slot ≡ Some node
unfolding nodes_in
node_seen slots born node there =
    let found = given_at (node_born slots) 1 born node there in
    (node_born-Some slots found.0 node found.2).1

find-there : (test : Node → Bool) (nodes : List Node) (node : Node) → Contains nodes node → test node ≡ true
    → ((other : Node) → Contains nodes other → test other ≡ true → other ≡ node) → find test nodes ≡ Some node
find-there test [] node there passes unique = absurd (omega (arith, there.1))
find-there test (first ∷ rest) node there passes unique =
    elim (cases_Bool (test first)) [
      | inl passing ↦
          ap (λ (b : Bool). cond b (Some first) (find test rest)) passing
          ∙ ap (λ (n : Node). Some n) (unique first (0, omega arith, refl) passing)
      | inr failing ↦
          ap (λ (b : Bool). cond b (Some first) (find test rest)) failing
          ∙ elim (Contains-cons_cases first node rest there) [
            | inl same ↦ absurd (both_ways _ failing (ap test same ∙ passes))
            | inr later ↦ find-there test rest node later passes (λ other at. unique other (Contains-cons first other rest at))
          ]
    ]

find-none : (test : Node → Bool) (nodes : List Node) → ((other : Node) → Contains nodes other → test other ≡ false) → find test nodes ≡ None
find-none test [] none = refl
find-none test (first ∷ rest) none =
    ap (λ (b : Bool). cond b (Some first) (find test rest)) (none first (0, omega arith, refl))
    ∙ find-none test rest (λ other at. none other (Contains-cons first other rest at))

module _ (slots : List (Option Stored)) (born : ℕ) (forest : IsForest slots) (numbered : IsNumbered slots born) where
  pub children_of-slots : (key : NodeKey) → children_of (nodes_in slots born) key ≡ cond (alive_at slots key) (Some (below_at slots key)) None
  unfolding children_of
  children_of-slots key = by_life (alive_at slots key) refl
    where
      by_life : (b : Bool) → alive_at slots key ≡ b
          → option_map (λ (node : Node). node.children) (find (λ (node : Node). is_same node.key key) (nodes_in slots born))
          ≡ cond b (Some (below_at slots key)) None
      by_life true alive =
          let there = seen_alive slots key alive in
          ap (option_map (λ (node : Node). node.children))
          (find-there (λ (node : Node). is_same node.key key) (nodes_in slots born) (record { key = key; children = below_at slots key })
          (Contains-nodes slots born key.slot _ forest.single numbered there) (is_same-refl key)
          (λ other at same.
          same_Some _ _ (sym (node_seen slots born other at) ∙ ap (λ (k : NodeKey). seen_at slots k.slot) (is_same-true other.key key same) ∙ there)))
      by_life false dead =
          ap (option_map (λ (node : Node). node.children))
          (find-none (λ (node : Node). is_same node.key key) (nodes_in slots born)
          (λ other at.
          false_from_ne_true _
          (λ same.
          both_ways _ dead
          (sym (ap (alive_at slots) (is_same-true other.key key same)) ∙ (alive_seen slots other.key.slot other (node_seen slots born other at)).0))))

  pub parent_of-slots : (key : NodeKey) → parent_of (nodes_in slots born) key ≡ up_at slots key
  unfolding parent_of
  parent_of-slots key = by_parent (up_at slots key) refl
    where
      by_parent : (o : Option NodeKey) → up_at slots key ≡ o
          → option_map (λ (node : Node). node.key) (find (λ (node : Node). has node.children key) (nodes_in slots born)) ≡ o
      by_parent (Some parent) is =
          let child = forest.up key parent is in
          let there = seen_alive slots parent (alive_below slots key parent child) in
          ap (option_map (λ (node : Node). node.key))
          (find-there (λ (node : Node). has node.children key) (nodes_in slots born) (record { key = parent; children = below_at slots parent })
          (Contains-nodes slots born parent.slot _ forest.single numbered there) child
          (λ other at has_child.
          let home = node_seen slots born other at in
          let listed : has (below_at slots other.key) key ≡ true = ap (λ (l : List NodeKey). has l key) (alive_seen slots other.key.slot other home).1 ∙ has_child in
          let same : other.key ≡ parent = same_Some _ _ (sym (forest.down key other.key listed) ∙ is) in
          same_Some _ _ (sym home ∙ ap (λ (k : NodeKey). seen_at slots k.slot) same ∙ there)))
      by_parent None is =
          ap (option_map (λ (node : Node). node.key))
          (find-none (λ (node : Node). has node.children key) (nodes_in slots born)
          (λ other at.
          false_from_ne_true _
          (λ has_child.
          let home = node_seen slots born other at in
          let listed : has (below_at slots other.key) key ≡ true = ap (λ (l : List NodeKey). has l key) (alive_seen slots other.key.slot other home).1 ∙ has_child in
          none-some other.key (sym is ∙ forest.down key other.key listed))))
