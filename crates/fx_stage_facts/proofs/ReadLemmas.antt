-- What a frame reads: each property is one of its node's, so it is known, and it isn't unread once it was read.
use Rattle.std.proofs.Common.{◌≡◌, ◌∙◌, ◌<◌, ◌≤◌, ◌+◌, ◌&&◌, ℕ, zero, suc, Bool, true, false, not, List, [], ◌∷◌, ◌++◌, All, Contains, arith, filter, get_or, length, Option, Some, None, refl, sym, ap, subst, inl, inr, true≢false}
use Rattle.std.specs.List.{flat_map}
use Rattle.std.proofs.lemmas.List.Elements.{All-append, All-contains_itself, All-cons, All-filter, All-head, All-nil, All-tail, All-weaker, Contains-append_cases, Contains-append_left, Contains-append_right, Contains-push_cases, filter-append}
use Rattle.std.proofs.lemmas.Bool.{false_from_ne_true}
use Rattle.std.proofs.lemmas.List.FromFn.{get_or-range_with_len, length-range_with_len}
use Rattle.fx_base.specs.Names.{numbers}
use Rattle.fx_base.specs.declared.keys.Name.{Name}
use Rattle.fx_base.specs.declared.keys.NodeKey.{NodeKey}
use Rattle.fx_graph_model.specs.declared.entries.Entry.{Entry}
use Rattle.fx_graph_model.specs.Changes.{AreKnown}
use Rattle.fx_graph_model.specs.Unread.{IsClosed, after_reads, evaluations_of, is_reached, marked}
use Rattle.fx_graph_model.specs.Uses.{leads, unknown_in}
use Rattle.fx_graph_model.proofs.Flags.{same_test}
use Rattle.fx_graph_model.proofs.ManyReads.{evaluations_more, length-reads, marked-reads, reached-at, reached-from, reached-more, reads_by}
use Rattle.fx_graph_model.proofs.Members.{contains_filter, filter_contains}
use Rattle.fx_graph_model.proofs.Walks.{leads-down, leads-refl}
use Rattle.fx_kinds.specs.Properties.{ListedProperty, properties_of}
use Rattle.fx_stage_types.specs.declared.node_data.NodeData.{NodeData}
use Rattle.fx_stage_types.specs.Tables.{NodeTable, data_of}
use Rattle.fx_stage_model.specs.Looking.{properties_in}
use Rattle.fx_stage_model.specs.Sound.{IsSound}
use Rattle.fx_stage_model.specs.World.{World}
use Rattle.fx_stage_facts.specs.Attached.{attached_keys, display_names, displayed_from, displayed_in, displayed_of, is_displayed, looked, one_if}
use Rattle.fx_stage_facts.specs.Reads.{AreRead, IsReadAt}
use Rattle.fx_stage_facts.specs.Unread.{unread_in, unread_of}

-- elements

pub single : {X : Type 0} (x y : X) → Contains (x ∷ []) y → x ≡ y
single x y there =
    elim (Contains-push_cases [] x y there) [
      | inl none ↦ absurd (omega (arith, none.1))
      | inr is ↦ is
    ]

pub in_one_of : {X A : Type 0} (f : X → List A) (xs : List X) (x : X) (a : A) → Contains xs x → Contains (f x) a
    → Contains (flat_map f xs) a
in_one_of f [] x a there has = absurd (omega (arith, there.1))
in_one_of f (first ∷ rest) x a there has =
    elim (Contains-append_cases (first ∷ []) rest x there) [
      | inl here ↦
          Contains-append_left (f first) (flat_map f rest) a
          (subst (λ y. Contains (f y) a) (sym (single first x here)) has)
      | inr later ↦ Contains-append_right (f first) (flat_map f rest) a (in_one_of f rest x a later has)
    ]

-- each name that is read is a node's

abbrev IsOneFrom : ℕ → List ListedProperty → ℕ → Type 0
IsOneFrom name properties n = (k : ℕ) × (k < length properties) × (name + k ≡ n)

one_later : (name : ℕ) (property : ListedProperty) (rest : List ListedProperty) (n : ℕ) → IsOneFrom (name + 1) rest n
    → IsOneFrom name (property ∷ rest) n
one_later name property rest n (k, small, is) = (k + 1, omega (arith, small), omega (arith, is))

one_from : (name : ℕ) (properties : List ListedProperty) (n : ℕ) → Contains (displayed_from name properties) n
    → IsOneFrom name properties n
one_from name [] n there = absurd (omega (arith, there.1))
one_from name (property ∷ rest) n there =
    by_test (is_displayed property.name) (λ later. one_later name property rest n (one_from (name + 1) rest n later)) there
  where
    by_test : (b : Bool) → (Contains (displayed_from (name + 1) rest) n → IsOneFrom name (property ∷ rest) n)
        → Contains (one_if b name ++ displayed_from (name + 1) rest) n → IsOneFrom name (property ∷ rest) n
    by_test false more there = more there
    by_test true more there =
        elim (Contains-append_cases (name ∷ []) (displayed_from (name + 1) rest) n there) [
          | inl here ↦ (0, omega arith, omega (arith, single name n here))
          | inr later ↦ more later
        ]

owned : (o : Option NodeData) (n : ℕ) → Contains (displayed_in o) n → Contains (properties_in o) n
owned None n there = there
owned (Some node) n there =
    let one = one_from node.first (properties_of node.class) n there in
    let long = length-range_with_len node.first (length (properties_of node.class)) in (
      one.0,
      omega (arith, one.1, long),
      get_or-range_with_len node.first (length (properties_of node.class)) one.0 n one.1 ∙ one.2,
    )

-- those that are unread

unread_is : (unread : List Bool) (table : NodeTable) (keys : List NodeKey)
    → unread_of unread table keys ≡ filter (marked unread) (displayed_of table keys)
unread_is unread table [] = refl
unread_is unread table (key ∷ keys) =
    ap (λ (ns : List ℕ). unread_in unread (data_of table key) ++ ns) (unread_is unread table keys)
    ∙ sym (filter-append (marked unread) (displayed_in (data_of table key)) (displayed_of table keys))

-- so all are known

module _ (entries : List Entry) (table : NodeTable) (free : List (List ℕ × Name)) (sound : IsSound entries table free) where
  pub known_at : (key : NodeKey) (n : ℕ) → Contains (displayed_in (data_of table key)) n → unknown_in entries n ≡ false
  known_at key n there = sound.owned key n (owned (data_of table key) n there)

  known_all : (keys : List NodeKey) → All (λ (n : ℕ). unknown_in entries n ≡ false) (displayed_of table keys)
  known_all [] = All-nil (λ (n : ℕ). unknown_in entries n ≡ false)
  known_all (key ∷ keys) =
      All-append (λ (n : ℕ). unknown_in entries n ≡ false) (displayed_in (data_of table key)) (displayed_of table keys)
      (All-weaker (Contains (displayed_in (data_of table key))) (λ (n : ℕ). unknown_in entries n ≡ false) (known_at key)
      (displayed_in (data_of table key)) (All-contains_itself (displayed_in (data_of table key))))
      (known_all keys)

  unnumbered : (names : List Name) → All (λ (n : ℕ). unknown_in entries n ≡ false) (numbers names) → AreKnown entries names
  unnumbered [] all = All-nil (λ (name : Name). unknown_in entries name.0 ≡ false)
  unnumbered (name ∷ names) all =
      All-cons (λ (name : Name). unknown_in entries name.0 ≡ false) name names
      (All-head (λ (n : ℕ). unknown_in entries n ≡ false) name.0 (numbers names) all)
      (unnumbered names (All-tail (λ (n : ℕ). unknown_in entries n ≡ false) name.0 (numbers names) all))

  pub unread_known : (unread : List Bool) (keys : List NodeKey) (names : List Name) → numbers names ≡ unread_of unread table keys
      → AreKnown entries names
  unread_known unread keys names are =
      unnumbered names
      (subst (λ (ns : List ℕ). All (λ (n : ℕ). unknown_in entries n ≡ false) ns) (sym (are ∙ unread_is unread table keys))
      (All-filter (marked unread) (λ (n : ℕ). unknown_in entries n ≡ false) (displayed_of table keys) (known_all keys)))

-- reads of those that are unread are reads of all

under_mark : (mark one other : Bool) → (mark ≡ true → one ≡ other) → (mark && not one) ≡ (mark && not other)
under_mark true one other same = ap not (same refl)
under_mark false one other same = refl

true_from_ne_false : (b : Bool) → (b ≡ false → ⊥) → b ≡ true
true_from_ne_false true not_false = refl
true_from_ne_false false not_false = absurd (not_false refl)

module _ (entries : List Entry) (unread : List Bool) (closed : IsClosed entries unread) (names : List ℕ) where
  -- who reaches an unread one is unread
  unread_up : (name other : ℕ) → leads entries name other ≡ true → marked unread other ≡ true → marked unread name ≡ true
  unread_up name other reaches on =
      true_from_ne_false (marked unread name)
      (λ off.
      true≢false
      (sym on
      ∙ leads-down entries (λ (k : ℕ). marked unread k ≡ false) name other off
      (λ a o uses fails. false_from_ne_true (marked unread o) (λ up. true≢false (sym (closed a o uses up) ∙ fails))) reaches))

  reached_left : (other : ℕ) → marked unread other ≡ true
      → is_reached entries (filter (marked unread) names) other ≡ is_reached entries names other
  reached_left other on =
      same_test (is_reached entries (filter (marked unread) names) other) (is_reached entries names other)
      (reached-more entries (filter (marked unread) names) names other (λ n there. (filter_contains (marked unread) names n there).0))
      (λ reached.
      let from = reached-from entries names other reached in
      reached-at entries (filter (marked unread) names) from.0 other
      (contains_filter (marked unread) names from.0 from.1 (unread_up from.0 other from.2 on)) from.2)

  reads_left : after_reads entries (filter (marked unread) names) unread ≡ after_reads entries names unread
  reads_left =
      reads_by entries names unread (after_reads entries (filter (marked unread) names) unread)
      (length-reads entries (filter (marked unread) names) unread)
      (λ other.
      marked-reads entries (filter (marked unread) names) unread other
      ∙ under_mark (marked unread other) (is_reached entries (filter (marked unread) names) other) (is_reached entries names other)
      (reached_left other))

module _ (entries : List Entry) (table : NodeTable) (unread : List Bool) where
  pub unread_reads : IsClosed entries unread → (keys : List NodeKey) (names : List ℕ) → names ≡ unread_of unread table keys
      → after_reads entries names unread ≡ after_reads entries (displayed_of table keys) unread
  unread_reads closed keys names are =
      ap (λ (ns : List ℕ). after_reads entries ns unread) (are ∙ unread_is unread table keys)
      ∙ reads_left entries unread closed (displayed_of table keys)

  pub unread_cost : (keys : List NodeKey) (names : List ℕ) → names ≡ unread_of unread table keys
      → evaluations_of entries names unread ≤ evaluations_of entries (displayed_of table keys) unread
  unread_cost keys names are =
      evaluations_more entries names (displayed_of table keys) unread
      (λ n there.
      (filter_contains (marked unread) (displayed_of table keys) n
      (subst (λ (ns : List ℕ). Contains ns n) (are ∙ unread_is unread table keys) there)).0)

-- and none is unread once it was read

read_once : (a b : Bool) → b ≡ true → (a && not b) ≡ false
read_once true true is = refl
read_once false true is = refl
read_once a false is = absurd (true≢false (sym is))

not_unread : (entries : List Entry) (names : List ℕ) (flags : List Bool) (n : ℕ) → Contains names n
    → marked (after_reads entries names flags) n ≡ false
not_unread entries names flags n there =
    marked-reads entries names flags n
    ∙ read_once (marked flags n) (is_reached entries names n) (reached-at entries names n n there (leads-refl entries n))

module _ (world : World) (sound : IsSound world.store.entries world.graph.table world.names.free) where
  read_at : (key : NodeKey) → Contains (attached_keys world) key → IsReadAt (looked world) key
  read_at key attached node had =
      let at : (n : ℕ) → Contains (displayed_in (Some node)) n → Contains (displayed_in (data_of world.graph.table key)) n =
      (λ n there. subst (λ (o : Option NodeData). Contains (displayed_in o) n) (sym had) there) in
      record {
        low = sound.low key node had;
        known = λ n there. known_at world.store.entries world.graph.table world.names.free sound key n (at n there);
        read = λ n there.
            not_unread world.store.entries (display_names world) world.store.unread n
            (in_one_of (λ (k : NodeKey). displayed_in (data_of world.graph.table k)) (attached_keys world) key n attached (at n there));
      }

  pub all_read : AreRead (looked world) (attached_keys world)
  all_read =
      All-weaker (Contains (attached_keys world)) (IsReadAt (looked world)) read_at (attached_keys world)
      (All-contains_itself (attached_keys world))

-- a property of a name that is read

pub displayed_place : (name : ℕ) (properties : List ListedProperty) (k : ℕ) (d : ListedProperty) → k < length properties
    → is_displayed (get_or properties k d).name ≡ true → Contains (displayed_from name properties) (name + k)
displayed_place name [] k d within is = absurd (omega (arith, within))
displayed_place name (property ∷ rest) zero d within is =
    subst (λ (b : Bool). Contains (one_if b name ++ displayed_from (name + 1) rest) (name + 0)) (sym is)
    (subst (λ (n : ℕ). Contains (name ∷ displayed_from (name + 1) rest) n) (omega arith)
    (Contains-append_left (name ∷ []) (displayed_from (name + 1) rest) name (0, omega arith, refl)))
displayed_place name (property ∷ rest) (suc k) d within is =
    by_test (is_displayed property.name)
    (subst (λ (n : ℕ). Contains (displayed_from (name + 1) rest) n) (omega arith)
    (displayed_place (name + 1) rest k d (omega (arith, within)) is))
  where
    by_test : (b : Bool) → Contains (displayed_from (name + 1) rest) (name + suc k)
        → Contains (one_if b name ++ displayed_from (name + 1) rest) (name + suc k)
    by_test true there = Contains-append_right (name ∷ []) (displayed_from (name + 1) rest) (name + suc k) there
    by_test false there = there
