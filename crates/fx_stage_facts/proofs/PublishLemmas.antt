-- Sizes that are published: each is a number of its own that only the player writes, so nothing is refused.
use Rattle.std.proofs.Common.{◌≡◌, ◌≢◌, ◌∙◌, ◌⊎◌, ◌<◌, ◌≤◌, ◌+◌, ◌-◌, ◌&&◌, ℕ, ℤ, suc, Bool, true, false, cond, not, List, [], ◌∷◌, ◌++◌, All, AllPairs, Contains, add-one, arith, get_or, length, take, Option, Some, None, Result, Ok, Err, refl, sym, ap, subst, inl, inr, true≢false}
use Rattle.std.specs.Prelude.{codes, option_and_then, option_to_list}
use Rattle.std.specs.Option.{option_map}
use Rattle.std.specs.Str.{bytes_eq}
use Rattle.std.proofs.lemmas.Bool.{cases_lt}
use Rattle.std.proofs.Math.Seq.{take-suc}
use Rattle.std.proofs.lemmas.Grind.{flat_map-append}
use Rattle.std.proofs.lemmas.List.{append-nil, append_assoc, get_or-append-add, get_or_append_left, length-append}
use Rattle.std.proofs.lemmas.List.Elements.{All-append, All-contains, All-cons, All-filter, All-head, All-nil, All-tail, All-weaker, Contains-get_or, filter-append}
use Rattle.std.proofs.lemmas.List.FromFn.{get_or-range_with_len, length-range_with_len}
use Rattle.std.proofs.lemmas.List.Quantifiers.{position-Some}
use Rattle.fx_base.specs.Names.{name_of}
use Rattle.fx_base.specs.Printing.{kind_of}
use Rattle.fx_base.specs.declared.keys.Name.{Name}
use Rattle.fx_base.specs.declared.keys.NodeKey.{NodeKey}
use Rattle.fx_base.specs.declared.kinds.Kind.{Kind}
use Rattle.fx_base.specs.declared.kinds.Kind.TheVariants as kind
use Rattle.fx_base.specs.declared.values.Value.{Value}
use Rattle.fx_graph_refusals.specs.Known.{known_kind}
use Rattle.fx_graph_model.specs.declared.entries.Entry.{Entry}
use Rattle.fx_graph_model.specs.declared.errors.GraphError.{GraphError}
use Rattle.fx_graph_model.specs.declared.errors.GraphError.TheVariants.{Unknown, WrongKind}
use Rattle.fx_graph_model.specs.Equality.{same_kind}
use Rattle.fx_graph_model.specs.Refusals.{kind_at, pair_names, publish_refusal, read_only_in, unknown_name, wrong_kind}
use Rattle.fx_graph_model.specs.Sound.{AreSound}
use Rattle.fx_graph_model.specs.Uses.{unknown_in}
use Rattle.fx_graph_model.proofs.Members.{contains_first, contains_later}
use Rattle.fx_kinds.specs.Properties.{properties_of}
use Rattle.fx_stage_types.specs.declared.node_data.NodeData.{NodeData}
use Rattle.fx_stage_types.specs.Tables.{data_of}
use Rattle.fx_stage_model.specs.Looking.{place_of, properties_in, property_in}
use Rattle.fx_stage_model.specs.Sound.{IsSound}
use Rattle.fx_stage_model.specs.World.{World}
use Rattle.fx_store_model.specs.declared.changes.Change.TheVariants.{Publish}
use Rattle.fx_store_model.specs.Refusals.{of_graph_refusal, refusal}
use Rattle.fx_store_model.specs.Step.{IsFit}
use Rattle.fx_store_model.specs.Stored.{Stored}
use Rattle.fx_base.specs.Answers.{or_else}
use Rattle.fx_store_model.specs.declared.errors.StoreError.{StoreError}
use Rattle.fx_stage_types.specs.declared.answers.Outcome.{Outcome}
use Rattle.fx_stage_types.specs.declared.answers.StageError.{StageError}
use Rattle.fx_stage_model.specs.Answers.{cost_of}
use Rattle.fx_stage_model.specs.Properties.{by_store, changed}
use Rattle.fx_stage_model.specs.Taking.{IsTaken, IsUnfinished}
use Rattle.fx_stage_facts.specs.Publishing.{AreOnce, Size, is_number, is_size, pair_of, pairs_at, pairs_in, pairs_of, published, size_if, size_named, sized, sized_by}
use Rattle.fx_stage_facts.specs.Staying.{differing, differs}
use Rattle.fx_stage_facts.proofs.StayingLemmas.{fewer_fit, same_published}
use Rattle.fx_stage_facts.proofs.ValueLemmas.{named, same_name, some_property}

abbrev Pair : Type 0
Pair = Name × Value

-- pairs of two lists

all_pairs_append : {X : Type 0} (R : X → X → Type 0) (xs ys : List X) → AllPairs R xs → AllPairs R ys
    → ((x y : X) → Contains xs x → Contains ys y → R x y) → AllPairs R (xs ++ ys)
all_pairs_append R xs ys left right across i j d below within =
    elim (cases_lt j (length xs)) [
      | inl low ↦
          rw (get_or_append_left xs ys d i (omega (arith, below, low)), get_or_append_left xs ys d j low) (left i j d below low)
      | inr high ↦ by_first high (cases_lt i (length xs))
    ]
  where
    long : length (xs ++ ys) ≡ length xs + length ys
    long = length-append xs ys

    at_right : (k : ℕ) → length xs ≤ k → get_or (xs ++ ys) k d ≡ get_or ys (k - length xs) d
    at_right k past =
        ap (λ (n : ℕ). get_or (xs ++ ys) n d) (omega (arith, past)) ∙ get_or-append-add xs ys (k - length xs) d

    by_first : length xs ≤ j → (i < length xs) ⊎ (length xs ≤ i) → R (get_or (xs ++ ys) i d) (get_or (xs ++ ys) j d)
    by_first high (inl low) =
        rw (get_or_append_left xs ys d i low, at_right j high)
        (across (get_or xs i d) (get_or ys (j - length xs) d) (Contains-get_or xs i d low)
        (Contains-get_or ys (j - length xs) d (omega (arith, high, within, long))))
    by_first high (inr past) =
        rw (at_right i past, at_right j high)
        (right (i - length xs) (j - length xs) d (omega (arith, below, past)) (omega (arith, high, within, long)))

-- each pair is a size of the node

module _ (entries : List Entry) (node : NodeData) where
  abbrev IsOwnSize : Pair → Type 0
  IsOwnSize pair =
      ((is_size entries pair.0.0 ≡ true) × (kind_of pair.1 ≡ kind.Int)) × Contains (properties_in (Some node)) pair.0.0

  owned_size : (property : List ℕ) (place : ℕ) → place_of node.class property ≡ Some place
      → Contains (properties_in (Some node)) (node.first + place)
  unfolding place_of
  owned_size property place is =
      let there = position-Some (named property) (properties_of node.class) place some_property is in
      let long = length-range_with_len node.first (length (properties_of node.class)) in
      (place, omega (arith, there.0, long), get_or-range_with_len node.first (length (properties_of node.class)) place (node.first + place) there.0)

  one_size : (length : ℤ) (n : ℕ) → Contains (properties_in (Some node)) n
      → All IsOwnSize (option_to_list (option_map (sized_by length) (size_if entries n)))
  one_size length n owned = by_test (is_size entries n) refl
    where
      by_test : (b : Bool) → is_size entries n ≡ b
          → All IsOwnSize (option_to_list (option_map (sized_by length) (cond b (Some (name_of n)) None)))
      by_test true is = All-cons IsOwnSize (sized_by length (name_of n)) [] ((is, refl), owned) (All-nil IsOwnSize)
      by_test false is = All-nil IsOwnSize

  pub own_sizes : (property : List ℕ) (length : ℤ) → All IsOwnSize (pair_of entries node property length)
  unfolding property_in
  own_sizes property length = by_place (place_of node.class property) refl
    where
      by_place : (o : Option ℕ) → place_of node.class property ≡ o
          → All IsOwnSize (option_to_list (option_map (sized_by length)
          (option_and_then (size_if entries) (option_map (λ (place : ℕ). node.first + place) o))))
      by_place None is = All-nil IsOwnSize
      by_place (Some place) is = one_size length (node.first + place) (owned_size property place is)

  -- the two properties differ

  abbrev IsAt : List ℕ → ℕ → Type 0
  IsAt property n = (place : ℕ) × (place_of node.class property ≡ Some place) × (node.first + place ≡ n)

  named_size : (property : List ℕ) (length : ℤ) (n : ℕ) → IsAt property n
      → All (λ (pair : Pair). IsAt property pair.0.0) (option_to_list (option_map (sized_by length) (size_if entries n)))
  named_size property length n at = by_test (is_size entries n)
    where
      by_test : (b : Bool)
          → All (λ (pair : Pair). IsAt property pair.0.0) (option_to_list (option_map (sized_by length) (cond b (Some (name_of n)) None)))
      by_test true =
          All-cons (λ (pair : Pair). IsAt property pair.0.0) (sized_by length (name_of n)) [] at
          (All-nil (λ (pair : Pair). IsAt property pair.0.0))
      by_test false = All-nil (λ (pair : Pair). IsAt property pair.0.0)

  all_named : (property : List ℕ) (length : ℤ) → All (λ (pair : Pair). IsAt property pair.0.0) (pair_of entries node property length)
  unfolding property_in
  all_named property length = by_place (place_of node.class property) refl
    where
      by_place : (o : Option ℕ) → place_of node.class property ≡ o
          → All (λ (pair : Pair). IsAt property pair.0.0) (option_to_list (option_map (sized_by length)
          (option_and_then (size_if entries) (option_map (λ (place : ℕ). node.first + place) o))))
      by_place None is = All-nil (λ (pair : Pair). IsAt property pair.0.0)
      by_place (Some place) is = named_size property length (node.first + place) (place, is, refl)

  one_name : (one other : List ℕ) (place : ℕ) → place_of node.class one ≡ Some place → place_of node.class other ≡ Some place
      → one ≡ other
  unfolding place_of
  one_name one other place is its =
      sym (same_name (get_or (properties_of node.class) place some_property).name one
      (position-Some (named one) (properties_of node.class) place some_property is).1)
      ∙ same_name (get_or (properties_of node.class) place some_property).name other
      (position-Some (named other) (properties_of node.class) place some_property its).1

  one_place : (one other : List ℕ) (n m : ℕ) → n ≡ m → IsAt one n → IsAt other m → one ≡ other
  one_place one other n m same (p, is, at) (q, its, there) =
      one_name one other p is (its ∙ ap Some (omega (arith, same, at, there)))

  few_pairs : (property : List ℕ) (length : ℤ) → AllPairs (λ (one other : Pair). one.0 ≢ other.0) (pair_of entries node property length)
  few_pairs property length = at_most_one (option_map (sized_by length) (size_named entries node property))
    where
      at_most_one : (o : Option Pair) → AllPairs (λ (one other : Pair). one.0 ≢ other.0) (option_to_list o)
      at_most_one None i j d below within = absurd (omega (arith, within))
      at_most_one (Some pair) i j d below within = absurd (omega (arith, below, within))

  pub two_pairs : (width height : ℤ) → AllPairs (λ (one other : Pair). one.0 ≢ other.0) (pairs_in entries width height (Some node))
  two_pairs width height =
      all_pairs_append (λ (one other : Pair). one.0 ≢ other.0) (pair_of entries node (codes "width") width)
      (pair_of entries node (codes "height") height) (few_pairs (codes "width") width) (few_pairs (codes "height") height)
      (λ one other first second same.
      differ
      (one_place (codes "width") (codes "height") one.0.0 other.0.0 (ap (λ (n : Name). n.0) same)
      (All-contains (λ (pair : Pair). IsAt (codes "width") pair.0.0) (pair_of entries node (codes "width") width) one
      (all_named (codes "width") width) first)
      (All-contains (λ (pair : Pair). IsAt (codes "height") pair.0.0) (pair_of entries node (codes "height") height) other
      (all_named (codes "height") height) second)))
    where
      differ : codes "width" ≡ codes "height" → ⊥
      differ same = absurd (true≢false (sym (ap (λ (name : List ℕ). bytes_eq (codes "width") name) (sym same))))

-- the pairs of all nodes

module _ (world : World) (sound : IsSound world.store.entries world.graph.table world.names.free) where
  abbrev IsSizeAt : NodeKey → Pair → Type 0
  IsSizeAt key pair =
      ((is_size world.store.entries pair.0.0 ≡ true) × (kind_of pair.1 ≡ kind.Int))
      × Contains (properties_in (data_of world.graph.table key)) pair.0.0

  sizes_in : (width height : ℤ) (key : NodeKey) (o : Option NodeData) → data_of world.graph.table key ≡ o
      → All (IsSizeAt key) (pairs_in world.store.entries width height o)
  sizes_in width height key None had = All-nil (IsSizeAt key)
  sizes_in width height key (Some node) had =
      All-weaker (IsOwnSize world.store.entries node) (IsSizeAt key)
      (λ pair own. (own.0, subst (λ (o : Option NodeData). Contains (properties_in o) pair.0.0) (sym had) own.1))
      (pairs_in world.store.entries width height (Some node))
      (All-append (IsOwnSize world.store.entries node) (pair_of world.store.entries node (codes "width") width)
      (pair_of world.store.entries node (codes "height") height)
      (own_sizes world.store.entries node (codes "width") width) (own_sizes world.store.entries node (codes "height") height))

  sizes_at : (size : Size) → All (IsSizeAt size.0) (pairs_at world size)
  sizes_at size = sizes_in size.1 size.2 size.0 (data_of world.graph.table size.0) refl

  apart_in : (width height : ℤ) (o : Option NodeData)
      → AllPairs (λ (one other : Pair). one.0 ≢ other.0) (pairs_in world.store.entries width height o)
  apart_in width height None = λ i j d below within. absurd (omega (arith, within))
  apart_in width height (Some node) = two_pairs world.store.entries node width height

  abbrev IsSizeOf : List Size → Pair → Type 0
  IsSizeOf sizes pair = (size : Size) × Contains sizes size × IsSizeAt size.0 pair

  all_sizes : (sizes : List Size) → All (IsSizeOf sizes) (pairs_of world sizes)
  all_sizes [] = All-nil (IsSizeOf [])
  all_sizes (size ∷ rest) =
      All-append (IsSizeOf (size ∷ rest)) (pairs_at world size) (pairs_of world rest)
      (All-weaker (IsSizeAt size.0) (IsSizeOf (size ∷ rest)) (λ pair is. (size, contains_first size rest, is)) (pairs_at world size)
      (sizes_at size))
      (All-weaker (IsSizeOf rest) (IsSizeOf (size ∷ rest))
      (λ pair is. (is.0, contains_later size rest is.0 is.1, is.2)) (pairs_of world rest) (all_sizes rest))

  once_later : (size : Size) (rest : List Size) → AreOnce (size ∷ rest) → AreOnce rest
  once_later size rest once i j d below within = once (suc i) (suc j) d (omega (arith, below)) (omega (arith, within))

  once_first : (size other : Size) (rest : List Size) → AreOnce (size ∷ rest) → Contains rest other → size.0 ≢ other.0
  once_first size other rest once (k, within, is) same =
      once 0 (suc k) other (omega arith) (omega (arith, within)) (same ∙ ap (λ (s : Size). s.0) (sym is))

  pub all_apart : (sizes : List Size) → AreOnce sizes → AllPairs (λ (one other : Pair). one.0 ≢ other.0) (pairs_of world sizes)
  all_apart [] once = λ i j d below within. absurd (omega (arith, within))
  all_apart (size ∷ rest) once =
      all_pairs_append (λ (one other : Pair). one.0 ≢ other.0) (pairs_at world size) (pairs_of world rest)
      (apart_in size.1 size.2 (data_of world.graph.table size.0))
      (all_apart rest (once_later size rest once))
      (λ one other first later same.
      let left = All-contains (IsSizeAt size.0) (pairs_at world size) one (sizes_at size) first in
      let right = All-contains (IsSizeOf rest) (pairs_of world rest) other (all_sizes rest) later in
      once_first size right.0 rest once right.1
      (sound.apart size.0 right.0.0 one.0.0 left.1
      (subst (λ (n : ℕ). Contains (properties_in (data_of world.graph.table right.0.0)) n) (sym (ap (λ (n : Name). n.0) same)) right.2.1)))

  -- a size is known, of its kind, and only the player writes it

  both_so : (a b : Bool) → (a && b) ≡ true → (a ≡ true) × (b ≡ true)
  both_so true true is = (refl, refl)
  both_so true false is = absurd (true≢false (sym is))
  both_so false b is = absurd (true≢false (sym is))

  known_number : (n : ℕ) → is_number (known_kind world.store.entries n) ≡ true
      → (unknown_in world.store.entries n ≡ false) × (kind_at world.store.entries n ≡ kind.Int)
  known_number n is = by_test (unknown_in world.store.entries n) (kind_at world.store.entries n) is
    where
      by_test : (b : Bool) (k : Kind) → is_number (cond b None (Some k)) ≡ true → (b ≡ false) × (k ≡ kind.Int)
      by_test true k is = absurd (true≢false (sym is))
      by_test false kind.Int is = (refl, refl)
      by_test false kind.Bool is = absurd (true≢false (sym is))
      by_test false kind.Text is = absurd (true≢false (sym is))
      by_test false (kind.Choice family) is = absurd (true≢false (sym is))
      by_test false kind.Color is = absurd (true≢false (sym is))
      by_test false kind.Sides is = absurd (true≢false (sym is))

  none_unknown : (pairs : List Pair) → All (λ (pair : Pair). is_size world.store.entries pair.0.0 ≡ true) pairs
      → unknown_name world.store.entries (pair_names pairs) ≡ None
  none_unknown [] all = refl
  none_unknown (pair ∷ pairs) all =
      let here = All-head (λ (p : Pair). is_size world.store.entries p.0.0 ≡ true) pair pairs all in
      let known = known_number pair.0.0 (both_so (read_only_in world.store.entries pair.0.0) (is_number (known_kind world.store.entries pair.0.0)) here).1 in
      ap (λ (b : Bool). cond b (Some (Unknown pair.0)) (unknown_name world.store.entries (pair_names pairs))) known.0
      ∙ none_unknown pairs (All-tail (λ (p : Pair). is_size world.store.entries p.0.0 ≡ true) pair pairs all)

  abbrev IsRight : Pair → Type 0
  IsRight pair = (is_size world.store.entries pair.0.0 ≡ true) × (kind_of pair.1 ≡ kind.Int)

  none_wrong : (pairs : List Pair) → All IsRight pairs → wrong_kind world.store.entries pairs ≡ None
  none_wrong [] all = refl
  none_wrong (pair ∷ pairs) all =
      let here = All-head IsRight pair pairs all in
      let known = known_number pair.0.0 (both_so (read_only_in world.store.entries pair.0.0) (is_number (known_kind world.store.entries pair.0.0)) here.0).1 in
      ap
      (λ (b : Bool). cond (not b) (Some (WrongKind pair.0)) (wrong_kind world.store.entries pairs))
      (ap (λ (k : Kind). same_kind k (kind_at world.store.entries pair.0.0)) here.1 ∙ ap (same_kind kind.Int) known.1)
      ∙ none_wrong pairs (All-tail IsRight pair pairs all)

  all_right : (sizes : List Size) → All IsRight (pairs_of world sizes)
  all_right sizes = All-weaker (IsSizeOf sizes) IsRight (λ pair is. is.2.0) (pairs_of world sizes) (all_sizes sizes)

  pub publish_fits : (sizes : List Size) → AreOnce sizes → IsFit (Publish (pairs_of world sizes)) world.store
  publish_fits sizes once = (
    all_apart sizes once,
    All-weaker IsRight
        (λ (pair : Pair). unknown_in world.store.entries pair.0.0 ≡ false → read_only_in world.store.entries pair.0.0 ≡ true)
        (λ pair right known. (both_so (read_only_in world.store.entries pair.0.0) (is_number (known_kind world.store.entries pair.0.0)) right.0).0)
        (pairs_of world sizes) (all_right sizes),
  )

  allowed : (pairs : List Pair) → All IsRight pairs → refusal (Publish pairs) world.store ≡ None
  unfolding refusal publish_refusal
  allowed pairs right =
      let unknown =
      none_unknown pairs
      (All-weaker IsRight (λ (pair : Pair). is_size world.store.entries pair.0.0 ≡ true) (λ pair is. is.0) pairs
      right) in
      ap (λ (o : Option GraphError). of_graph_refusal (or_else o (wrong_kind world.store.entries pairs))) unknown
      ∙ ap of_graph_refusal (none_wrong pairs right)

  pub publish_allowed : (sizes : List Size) → refusal (Publish (pairs_of world sizes)) world.store ≡ None
  publish_allowed sizes = allowed (pairs_of world sizes) (all_right sizes)

  -- and so it is without the sizes that stay

  pub differing_fits : (sizes : List Size) → AreOnce sizes
      → IsFit (Publish (differing world.store (pairs_of world sizes))) world.store
  differing_fits sizes once = fewer_fit world.store (pairs_of world sizes) (publish_fits sizes once)

  pub same_changed : (sizes : List Size) → AreOnce sizes → AreSound world.store.entries
      → changed (Publish (differing world.store (pairs_of world sizes))) world
      ≡ changed (Publish (pairs_of world sizes)) world
  unfolding changed
  same_changed sizes once right =
      ap (by_store (Publish (differing world.store (pairs_of world sizes))) world)
      (allowed (differing world.store (pairs_of world sizes))
      (All-filter (differs world.store) IsRight (pairs_of world sizes) (all_right sizes)))
      ∙ ap Ok (same_published world (pairs_of world sizes) right (publish_fits sizes once))
      ∙ sym (ap (by_store (Publish (pairs_of world sizes)) world) (publish_allowed sizes))

  -- so what the stage answers of that change is what is said of a publication

  abbrev IsSized : List Size → World → Result Outcome StageError → Type 0
  IsSized sizes now (Ok outcome) = (now ≡ (sized sizes world).world) × (outcome.notices ≡ (sized sizes world).notices)
  IsSized sizes now (Err error) = IsUnfinished (sized sizes world) world now

  by_taken : (sizes : List Size) (now : World) (answer : Result Outcome StageError)
      → IsTaken (Ok (sized sizes world)) world now answer → IsSized sizes now answer
  by_taken sizes now (Ok outcome) (is, told) = (is, ap (λ (o : Outcome). o.notices) told)
  by_taken sizes now (Err error) (memory, unfinished) = unfinished

  pub sized_so : (sizes : List Size) (now : World) (answer : Result Outcome StageError)
      → IsTaken (changed (Publish (pairs_of world sizes)) world) world now answer → IsSized sizes now answer
  unfolding changed
  sized_so sizes now answer taken =
      by_taken sizes now answer
      (subst (λ (o : Option StoreError). IsTaken (by_store (Publish (pairs_of world sizes)) world o) world now answer)
      (publish_allowed sizes) taken)

  pub sized_few : (sizes : List Size) (old new : ℕ)
      → new ≤ old + cost_of (changed (Publish (pairs_of world sizes)) world) → new ≤ old + (sized sizes world).cost
  unfolding changed
  sized_few sizes old new few =
      subst (λ (o : Option StoreError). new ≤ old + cost_of (by_store (Publish (pairs_of world sizes)) world o))
      (publish_allowed sizes) few

-- two parts one behind the other
pub two_pushed : (store : Stored) (before between first second : List Pair) → between ≡ before ++ differing store first
    → between ++ differing store second ≡ before ++ differing store (first ++ second)
two_pushed store before between first second pushed =
    ap (λ (ps : List Pair). ps ++ differing store second) pushed
    ∙ append_assoc before (differing store first) (differing store second)
    ∙ ap (λ (ps : List Pair). before ++ ps) (sym (filter-append (differs store) first second))

-- one node more
pub pairs_next : (world : World) (sizes : List Size) (place : ℕ) (d : Size) (before now : List Pair) → place < length sizes
    → now ≡ before ++ differing world.store (pairs_at world (get_or sizes place d))
    → before ≡ differing world.store (pairs_of world (take place sizes))
    → now ≡ differing world.store (pairs_of world (take (place + 1) sizes))
pairs_next world sizes place d before now within pushed before_is =
    let next : take (place + 1) sizes ≡ take place sizes ++ get_or sizes place d ∷ [] =
    ap (λ (n : ℕ). take n sizes) (add-one place) ∙ take-suc sizes place d within in
    let front = pairs_of world (take place sizes) in
    let here = pairs_at world (get_or sizes place d) in
    pushed
    ∙ ap (λ (ps : List Pair). ps ++ differing world.store here) before_is
    ∙ sym (filter-append (differs world.store) front here)
    ∙ ap (differing world.store)
    (ap (λ (ps : List Pair). front ++ ps) (sym (append-nil here))
    ∙ sym (flat_map-append (pairs_at world) (take place sizes) (get_or sizes place d ∷ []))
    ∙ ap (pairs_of world) (sym next))

-- a publication, by what the stage answers

pub published_ok : (world now kept : World) (window : ℕ × ℕ) (sizes : List Size) (answer : Result Outcome StageError)
    (outcome : Outcome) → IsSound world.store.entries world.graph.table world.names.free
    → IsTaken (changed (Publish (pairs_of world sizes)) world) world now answer → answer ≡ Ok outcome
    → kept ≡ record now { window = Some window }
    → (kept ≡ published window sizes world) × (outcome.notices ≡ (sized sizes world).notices)
published_ok world now kept window sizes answer outcome sound taken is keeps =
    let so = subst (λ (r : Result Outcome StageError). IsSized world sound sizes now r) is (sized_so world sound sizes now answer taken) in
    (keeps ∙ ap (λ (w : World). record w { window = Some window }) so.0, so.1)

pub published_err : (world now : World) (sizes : List Size) (answer : Result Outcome StageError) (error : StageError)
    → IsSound world.store.entries world.graph.table world.names.free
    → IsTaken (changed (Publish (pairs_of world sizes)) world) world now answer → answer ≡ Err error
    → IsUnfinished (sized sizes world) world now
published_err world now sizes answer error sound taken is =
    subst (λ (r : Result Outcome StageError). IsSized world sound sizes now r) is (sized_so world sound sizes now answer taken)
