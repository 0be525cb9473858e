-- What the list of living nodes says of a key, by its slot; when a child may be attached; what holds of every scene.
use Rattle.std.proofs.Common.{◌≡◌, ◌≢◌, ℕ, zero, suc, ◌+◌, ◌-◌, ◌<◌, ◌≤◌, Bool, true, false, not, cond, ltb, ◌&&◌, ◌||◌, List, [], ◌∷◌, length, Option, Some, None, is_some, unwrap_or, Contains, refl, sym, ◌∙◌, ap, subst, inl, inr, ◌⊎◌, arith}
use Rattle.std.specs.List.{list_any}
use Rattle.std.proofs.lemmas.Bool.{cases_Bool, both_ways, or_parts, and_right, true_from_ne_false, not-false, ltb-false, le-ltb}
use Rattle.std.proofs.lemmas.List.Elements.{All-contains_itself, All-weaker}
use Rattle.std.proofs.lemmas.Option.{none-some, same_Some}
use Rattle.slab.proofs.SlabLemmas.{Contains-cons, Contains-cons_cases}
use Rattle.fx_base.specs.declared.keys.NodeKey.{NodeKey}
use Rattle.fx_tree.specs.declared.nodes.Stored.{Stored}
use Rattle.fx_tree.specs.declared.TreeError.{TreeError}
use Rattle.fx_tree.specs.declared.TreeError.TheVariants.{StaleKey, WouldLoop, HasParent, Attached, Place, Depth}
use Rattle.fx_tree.specs.Scene.{Node, has, parent_of, is_alive, line, IsLine, is_too_deep, children_or_none, subtree_in, is_once, IsSound}
use Rattle.fx_tree.specs.Refusals.{refused, is_held, attach_refusal}
use Rattle.fx_tree.specs.Slots.{alive_at, up_at, below_at, line_at, children_in, node_at, fits_in, seen_at, node_born, nodes_in, scene_of, IsTree, attach_refused}
use Rattle.fx_tree.proofs.Given.{AllPairs-given}
use Rattle.fx_tree.proofs.Lines.{line_is, line_in-same, length-line_in, IsLine-same, Climb, climb_from_line, line_from_climb, climbs_within, fits_from_climbs, subtree_in-same}
use Rattle.fx_tree.proofs.Listing.{children_of-slots, parent_of-slots, Contains-nodes, node_seen, node_born-Some, seen_alive, alive_seen, alive_up}
use Rattle.fx_tree.proofs.Forest.{line_known}

below_dead : (slots : List (Option Stored)) (key : NodeKey) → alive_at slots key ≡ false → below_at slots key ≡ []
unfolding alive_at below_at
below_dead slots key dead = by_node (node_at slots key) dead
  where
    by_node : (o : Option Stored) → is_some o ≡ false → children_in o ≡ []
    by_node None is = refl
    by_node (Some stored) is = absurd (both_ways _ is refl)

pub none_from : {X : Type 0} (o : Option X) → is_some o ≡ false → o ≡ None
none_from None is = refl
none_from (Some x) is = absurd (both_ways _ is refl)

pub refused-None : (test : Bool) (error : TreeError) (others : Option TreeError) → refused test error others ≡ None → (test ≡ false) × (others ≡ None)
refused-None true error others is = absurd (none-some error (sym is))
refused-None false error others is = (refl, is)

refused-same : (one other : Bool) (error : TreeError) (x y : Option TreeError) → one ≡ other → (one ≡ false → x ≡ y) → refused one error x ≡ refused other error y
refused-same one other error x y same rest =
    ap (λ (b : Bool). refused b error x) same
    ∙ elim (cases_Bool other) [
      | inl holds ↦ ap (λ (b : Bool). refused b error x) holds ∙ sym (ap (λ (b : Bool). refused b error y) holds)
      | inr fails ↦ ap (λ (o : Option TreeError). refused other error o) (rest (same ∙ fails))
    ]

list_any-none : (test : Node → Bool) (nodes : List Node) → ((node : Node) → Contains nodes node → test node ≡ false) → list_any test nodes ≡ false
list_any-none test [] none = refl
list_any-none test (first ∷ rest) none =
    ap (λ (b : Bool). b || list_any test rest) (none first (0, omega arith, refl))
    ∙ list_any-none test rest (λ node at. none node (Contains-cons first node rest at))

list_any-each : (test : Node → Bool) (nodes : List Node) (node : Node) → list_any test nodes ≡ false → Contains nodes node → test node ≡ false
list_any-each test [] node none at = absurd (omega (arith, at.1))
list_any-each test (first ∷ rest) node none at =
    let parts = or_parts (test first) (list_any test rest) none in
    elim (Contains-cons_cases first node rest at) [
      | inl same ↦ sym (ap test same) ∙ parts.0
      | inr later ↦ list_any-each test rest node parts.1 later
    ]

module _ (slots : List (Option Stored)) (root : Option NodeKey) (born : ℕ) (tree : IsTree slots root born) where
  pub alive-slots : (key : NodeKey) → is_alive (nodes_in slots born) key ≡ alive_at slots key
  alive-slots key = ap is_some (children_of-slots slots born tree.forest tree.numbered key) ∙ by_life (alive_at slots key) (below_at slots key)
    where
      by_life : (b : Bool) (l : List NodeKey) → is_some (cond b (Some l) None) ≡ b
      by_life true l = refl
      by_life false l = refl

  pub children-slots : (key : NodeKey) → children_or_none (nodes_in slots born) key ≡ below_at slots key
  children-slots key =
      ap (λ (o : Option (List NodeKey)). unwrap_or o []) (children_of-slots slots born tree.forest tree.numbered key)
      ∙ by_life (alive_at slots key) refl
    where
      by_life : (b : Bool) → alive_at slots key ≡ b → unwrap_or (cond b (Some (below_at slots key)) None) [] ≡ below_at slots key
      by_life true alive = refl
      by_life false dead = sym (below_dead slots key dead)

  pub parent-slots : (key : NodeKey) → parent_of (nodes_in slots born) key ≡ up_at slots key
  parent-slots = parent_of-slots slots born tree.forest tree.numbered

  pub line-slots : (key : NodeKey) → line (nodes_in slots born) key ≡ line_at slots key
  unfolding line
  line-slots key = line_in-same 64 (parent_of (nodes_in slots born)) (up_at slots) (Some key) parent-slots

  pub subtree-slots : (key : NodeKey) → subtree_in 64 (children_or_none (nodes_in slots born)) key ≡ subtree_in 64 (below_at slots) key
  subtree-slots key = subtree_in-same 64 (children_or_none (nodes_in slots born)) (below_at slots) key children-slots

  -- a subtree that fits ends no line past the 64th node
  pub fits_lines : (parent child : NodeKey) → up_at slots child ≡ None → fits_in (64 - length (line_at slots parent)) (below_at slots) child ≡ true
      → (key : NodeKey) → has (line_at slots key) child ≡ true → length (line_at slots key) + length (line_at slots parent) ≤ 64
  fits_lines parent child topmost fits key within =
      let climb = climb_from_line (up_at slots) child topmost (line_at slots key) key (line_known slots tree.forest key) within in
      let less : climb.0 < 64 - length (line_at slots parent) =
      climbs_within (up_at slots) (below_at slots) tree.forest.up tree.forest.down (64 - length (line_at slots parent)) child fits climb.0 key climb.1 in
      let long : length (line_at slots key) ≡ climb.0 + 1 = climb.2 in
      omega (arith, less, long)

  climb_alive : (child : NodeKey) → alive_at slots child ≡ true → (m : ℕ) (from : NodeKey) → Climb (up_at slots) m from child → alive_at slots from ≡ true
  unfolding Climb
  climb_alive child alive zero from climb = ap (alive_at slots) climb ∙ alive
  climb_alive child alive (suc m) from climb = alive_up slots from climb.0 climb.1

  pub too_deep-slots : (parent child : NodeKey) → up_at slots child ≡ None → alive_at slots child ≡ true
      → not (fits_in (64 - length (line_at slots parent)) (below_at slots) child) ≡ is_too_deep (nodes_in slots born) parent child
  unfolding is_too_deep
  too_deep-slots parent child topmost alive = by_fit (cases_Bool (fits_in (64 - length (line_at slots parent)) (below_at slots) child))
    where
      by_fit : (fits_in (64 - length (line_at slots parent)) (below_at slots) child ≡ true) ⊎ (fits_in (64 - length (line_at slots parent)) (below_at slots) child ≡ false)
          → not (fits_in (64 - length (line_at slots parent)) (below_at slots) child)
          ≡ list_any (λ (node : Node). has (line (nodes_in slots born) node.key) child && ltb 64 (length (line (nodes_in slots born) parent) + length (line (nodes_in slots born) node.key))) (nodes_in slots born)
      by_fit (inl fits) =
          ap not fits
          ∙ sym
          (list_any-none _ (nodes_in slots born)
          (λ node at.
          elim (cases_Bool (has (line (nodes_in slots born) node.key) child)) [
            | inl within ↦
                let few : length (line_at slots node.key) + length (line_at slots parent) ≤ 64 =
                fits_lines parent child topmost fits node.key (sym (ap (λ (l : List NodeKey). has l child) (line-slots node.key)) ∙ within) in
                let e : length (line (nodes_in slots born) node.key) ≡ length (line_at slots node.key) = ap length (line-slots node.key) in
                let f : length (line (nodes_in slots born) parent) ≡ length (line_at slots parent) = ap length (line-slots parent) in
                and_right (has (line (nodes_in slots born) node.key) child) _ (le-ltb 64 _ (omega (arith, few, e, f)))
            | inr apart ↦ ap (λ (b : Bool). b && ltb 64 (length (line (nodes_in slots born) parent) + length (line (nodes_in slots born) node.key))) apart
          ]))
      by_fit (inr wide) =
          ap not wide
          ∙ sym
          (true_from_ne_false _
          (λ none.
          both_ways _ wide
          (fits_from_climbs (up_at slots) (below_at slots) tree.forest.up tree.forest.down (64 - length (line_at slots parent)) child
          (λ m from climb.
          let lives = climb_alive child alive m from climb in
          let ends = line_from_climb (up_at slots) child topmost m from (line_at slots from) climb (line_known slots tree.forest from) in
          let listed = Contains-nodes slots born from.slot _ tree.forest.single tree.numbered (seen_alive slots from lives) in
          let test = list_any-each _ (nodes_in slots born) _ none listed in
          let within : has (line (nodes_in slots born) from) child ≡ true = ap (λ (l : List NodeKey). has l child) (line-slots from) ∙ ends.0 in
          let short : ltb 64 (length (line (nodes_in slots born) parent) + length (line (nodes_in slots born) from)) ≡ false =
          sym (ap (λ (b : Bool). b && ltb 64 (length (line (nodes_in slots born) parent) + length (line (nodes_in slots born) from))) within) ∙ test in
          let few : length (line (nodes_in slots born) parent) + length (line (nodes_in slots born) from) ≤ 64 = ltb-false 64 _ short in
          let e : length (line (nodes_in slots born) from) ≡ length (line_at slots from) = ap length (line-slots from) in
          let f : length (line (nodes_in slots born) parent) ≡ length (line_at slots parent) = ap length (line-slots parent) in
          let long : length (line_at slots from) ≡ m + 1 = ends.1 in
          omega (arith, few, e, f, long)))))

  pub refusal-slots : (parent child : NodeKey) (place : ℕ) → attach_refused slots root parent child place ≡ attach_refusal (scene_of slots root born) parent child place
  unfolding attach_refused attach_refusal
  refusal-slots parent child place =
      refused-same _ _ StaleKey _ _
      (ap (λ (b : Bool). not b || not (alive_at slots child)) (sym (alive-slots parent))
      ∙ ap (λ (b : Bool). not (is_alive (nodes_in slots born) parent) || not b) (sym (alive-slots child)))
      (λ alive.
      refused-same _ _ WouldLoop _ _ (ap (λ (l : List NodeKey). has l child) (sym (line-slots parent)))
      (λ no_loop.
      refused-same _ _ HasParent _ _ (ap is_some (sym (parent-slots child)))
      (λ topmost.
      refused-same (is_held root child) (is_held root child) Attached
      (refused (ltb (length (below_at slots parent)) place) Place (refused (not (fits_in (64 - length (line_at slots parent)) (below_at slots) child)) Depth None))
      (refused (ltb (length (children_or_none (nodes_in slots born) parent)) place) Place (refused (is_too_deep (nodes_in slots born) parent child) Depth None))
      refl
      (λ free.
      refused-same (ltb (length (below_at slots parent)) place) (ltb (length (children_or_none (nodes_in slots born) parent)) place) Place
      (refused (not (fits_in (64 - length (line_at slots parent)) (below_at slots) child)) Depth None)
      (refused (is_too_deep (nodes_in slots born) parent child) Depth None)
      (ap (λ (l : List NodeKey). ltb (length l) place) (sym (children-slots parent)))
      (λ fitting.
      refused-same (not (fits_in (64 - length (line_at slots parent)) (below_at slots) child)) (is_too_deep (nodes_in slots born) parent child) Depth None None
      (too_deep-slots parent child (none_from (up_at slots child) topmost)
      (not-false (alive_at slots child) (or_parts (not (alive_at slots parent)) (not (alive_at slots child)) alive).1))
      (λ last. refl))))))

  pub IsSound-tree : IsSound (scene_of slots root born)
  unfolding nodes_in
  IsSound-tree =
      record {
        rising =
            AllPairs-given (λ (one other : Node). one.key.birth < other.key.birth) (node_born slots) 1 born
            (λ i j one other before first second.
            let e : one.key.birth ≡ i = (node_born-Some slots i one first).0 in
            let f : other.key.birth ≡ j = (node_born-Some slots j other second).0 in
            omega (arith, before, e, f));
        given =
            All-weaker (Contains (nodes_in slots born)) (λ (node : Node). node.key.birth ≤ born)
            (λ node there. (tree.numbered.given node.key.slot node (node_seen slots born node there)).1)
            (nodes_in slots born) (All-contains_itself (nodes_in slots born));
        born =
            All-weaker (Contains (nodes_in slots born)) (λ (node : Node). 0 < node.key.birth)
            (λ node there. (tree.numbered.given node.key.slot node (node_seen slots born node there)).0)
            (nodes_in slots born) (All-contains_itself (nodes_in slots born));
        apart =
            AllPairs-given (λ (one other : Node). one.key.slot ≢ other.key.slot) (node_born slots) 1 born
            (λ i j one other before first second same.
            let here = node_born-Some slots i one first in
            let there = node_born-Some slots j other second in
            let alike : one ≡ other = same_Some _ _ (sym here.1 ∙ ap (seen_at slots) same ∙ there.1) in
            let births : one.key.birth ≡ other.key.birth = ap (λ (n : Node). n.key.birth) alike in
            let e : one.key.birth ≡ i = here.0 in
            let f : other.key.birth ≡ j = there.0 in
            omega (arith, before, e, f, births));
        few = omega (arith, tree.numbered.counted, tree.few);
        alive = λ node key there child.
            alive-slots key ∙ tree.forest.held key node.key (listed node key there child);
        one_list = λ one other key first second has_one has_other.
            let e : one.key ≡ other.key =
            same_Some _ _ (sym (tree.forest.down key one.key (listed one key first has_one)) ∙ tree.forest.down key other.key (listed other key second has_other)) in
            same_Some _ _ (sym (node_seen slots born one first) ∙ ap (λ (k : NodeKey). seen_at slots k.slot) e ∙ node_seen slots born other second);
        once = λ node there.
            let known = alive_seen slots node.key.slot node (node_seen slots born node there) in
            ap is_once (sym known.1) ∙ tree.forest.once node.key;
        topmost = λ key is.
            let was = tree.topmost key is in
            (alive-slots key ∙ was.0, parent-slots key ∙ was.1);
        lines = λ key alive. whole key;
        shallow = λ key most alive enough.
            let e : length (line (nodes_in slots born) key) ≡ length (line_at slots key) = ap length (line-slots key) in
            line_is most (parent_of (nodes_in slots born)) (Some key) (line (nodes_in slots born) key) (whole key)
            (omega (arith, e, length-line_in 64 (up_at slots) (Some key), enough));
      }
    where
      whole : (key : NodeKey) → IsLine (parent_of (nodes_in slots born)) (Some key) (line (nodes_in slots born) key)
      whole key =
          let P : List NodeKey → Type 0 = λ keys. IsLine (parent_of (nodes_in slots born)) (Some key) keys in
          subst P (sym (line-slots key))
          (IsLine-same (up_at slots) (parent_of (nodes_in slots born)) (Some key) (line_at slots key) (λ n there. parent-slots n) (line_known slots tree.forest key))

      listed : (node : Node) (key : NodeKey) → Contains (nodes_in slots born) node → has node.children key ≡ true → has (below_at slots node.key) key ≡ true
      listed node key there child =
          ap (λ (l : List NodeKey). has l key) (alive_seen slots node.key.slot node (node_seen slots born node there)).1 ∙ child
