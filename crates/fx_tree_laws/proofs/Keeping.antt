-- A change that isn't refused leaves a sound scene.
use Rattle.std.proofs.Common.{◌≡◌, ◌≢◌, ℕ, suc, ◌+◌, ◌<◌, ◌≤◌, Bool, true, false, not, cond, ◌==◌, ◌||◌, List, [], ◌∷◌, ◌++◌, length, map, filter, get_or, Option, Some, None, is_some, All, Contains, refl, sym, ◌∙◌, ap, subst, inl, inr, ◌⊎◌, arith, length-append}
use Rattle.std.specs.List.{AllPairs, insert}
use Rattle.std.proofs.lemmas.Bool.{cases_Bool, both_ways, and_from, and_parts, eqb-false, not-false, not-true, or_cases, or_left, or_parts}
use Rattle.std.proofs.lemmas.List.{get_or-map, length-map}
use Rattle.std.proofs.lemmas.List.Elements.{All-filter, All-map, All-nil, All-push, All-weaker, Contains-push_cases}
use Rattle.std.proofs.lemmas.List.Filters.{length-filter_both}
use Rattle.std.proofs.lemmas.List.Kept.{AllPairs-cons, AllPairs-filter}
use Rattle.std.proofs.lemmas.Option.{same_Some}
use Rattle.fx_base.specs.declared.keys.NodeKey.{NodeKey}
use Rattle.fx_tree.specs.declared.TreeError.TheVariants.{Attached, Full, HasParent}
use Rattle.fx_tree.specs.Scene.{Node, Scene, IsLine, IsSound, after_attach, after_detach, after_drop, after_make, after_set_root, has, is_alive, is_once, is_same, is_within, line, line_in, parent_of, with_child, without_child}
use Rattle.fx_tree.specs.Refusals.{is_full, is_held, make_refusal, refused, root_refusal}
use Rattle.fx_tree.proofs.Keys.{has-cons, has-insert, has-nil, has-without, is_once-insert, is_once-without, is_same-true}
use Rattle.fx_tree.proofs.Lines.{IsLine-same, line_is}
use Rattle.fx_tree.proofs.Views.{none_from, refused-None}
use Rattle.fx_tree_laws.proofs.Known.{Contains-cons, Contains-cons_cases, line_alone, line_known, line_stays, one_node, parent_is, parent_nowhere, passed, short_line}
use Rattle.fx_tree_laws.proofs.Making.{alive_after_make, parent_after_make}
use Rattle.fx_tree_laws.proofs.Attaching.{IsFree, alive_attached, line_after_attach, parent_after_attach}
use Rattle.fx_tree_laws.proofs.Detaching.{alive_detached, line_after_detach, parent_after_detach}
use Rattle.fx_tree_laws.proofs.Dropping.{alive_after_drop, line_after_drop, parent_after_drop, with_parent}

-- a changed node was one of those before
from_map : {X : Type 0} (f : X → X) (xs : List X) (y : X) → Contains (map f xs) y → (x : X) × Contains xs x × (f x ≡ y)
from_map f [] y at = absurd (omega (arith, at.1))
from_map f (x ∷ xs) y at =
    elim (Contains-cons_cases (f x) y (map f xs) at) [
      | inl same ↦ (x, (0, omega arith, refl), same)
      | inr further ↦
          let rest = from_map f xs y further in
          (rest.0, Contains-cons x rest.0 xs rest.1, rest.2)
    ]

from_filter : {X : Type 0} (p : X → Bool) (xs : List X) (x : X) → Contains (filter p xs) x → (Contains xs x) × (p x ≡ true)
from_filter p [] x at = absurd (omega (arith, at.1))
from_filter p (y ∷ ys) x at =
    let C : Bool → Type 0 = λ b. Contains (cond b (y ∷ filter p ys) (filter p ys)) x in
    elim (cases_Bool (p y)) [
      | inl stays ↦
          elim (Contains-cons_cases y x (filter p ys) (subst C stays at)) [
            | inl same ↦ ((0, omega arith, same), sym (ap p same) ∙ stays)
            | inr further ↦
                let rest = from_filter p ys x further in
                (Contains-cons y x ys rest.0, rest.1)
          ]
      | inr goes ↦
          let rest = from_filter p ys x (subst C goes at) in
          (Contains-cons y x ys rest.0, rest.1)
    ]

fewer : {X : Type 0} (p : X → Bool) (xs : List X) → length (filter p xs) ≤ length xs
fewer p xs = let both : length (filter p xs) + length (filter (λ x. not (p x)) xs) ≡ length xs = length-filter_both p (λ x. not (p x)) (λ x. refl) xs in omega (arith, both)

pairs_mapped : {X : Type 0} (R : X → X → Type 0) (f : X → X) (xs : List X) → ((x y : X) → R x y → R (f x) (f y)) → AllPairs R xs
    → AllPairs R (map f xs)
pairs_mapped {X} R f xs keeps all i j d before within =
    let long : length (map f xs) ≡ length xs = length-map xs f in
    let there : j < length xs = omega (arith, within, long) in
    let here : i < length xs = omega (arith, before, there) in
    let P : X → Type 0 = λ x. R x (get_or (map f xs) j d) in
    let Q : X → Type 0 = λ y. R (f (get_or xs i d)) y in
    subst P (sym (get_or-map f xs i d d here))
    (subst Q (sym (get_or-map f xs j d d there)) (keeps (get_or xs i d) (get_or xs j d) (all i j d before there)))

pairs_pushed : {X : Type 0} (R : X → X → Type 0) (xs : List X) (y : X) → AllPairs R xs → All (λ x. R x y) xs → AllPairs R (xs ++ y ∷ [])
pairs_pushed R [] y all each = AllPairs-cons R y [] (All-nil (R y)) (λ i j d before within. absurd (omega (arith, within)))
pairs_pushed R (x ∷ xs) y all each =
    AllPairs-cons R x (xs ++ y ∷ [])
    (All-push (R x) xs y (λ k d within. all 0 (suc k) d (omega arith) (omega (arith, within))) (each 0 x (omega arith)))
    (pairs_pushed R xs y
    (λ i j d before within. all (suc i) (suc j) d (omega (arith, before)) (omega (arith, within)))
    (λ k d within. each (suc k) d (omega (arith, within))))

still_shallow : (nodes : List Node) (key : NodeKey) → IsLine (parent_of nodes) (Some key) (line nodes key) → (most : ℕ) → 64 ≤ most
    → line_in most (parent_of nodes) (Some key) ≡ line nodes key
still_shallow nodes key is most enough =
    line_is most (parent_of nodes) (Some key) (line nodes key) is (omega (arith, short_line nodes key, enough))

none_still : (b : Bool) (o : Option NodeKey) → o ≡ None → cond b None o ≡ None
none_still true o none = refl
none_still false o none = none

is_once-nil : is_once [] ≡ true
unfolding is_once
is_once-nil = refl

-- a node is made

module _ (scene : Scene) (new : NodeKey) (sound : IsSound scene) (next : new.birth ≡ scene.born + 1) where
  made_line : (key : NodeKey) → IsLine (parent_of (after_make scene new).nodes) (Some key) (line (after_make scene new).nodes key)
  made_line key =
      line_stays (after_make scene new).nodes key (line scene.nodes key)
      (IsLine-same (parent_of scene.nodes) (parent_of (after_make scene new).nodes) (Some key) (line scene.nodes key)
      (λ k there. parent_after_make scene new k) (line_known scene sound key))
      (short_line scene.nodes key)

  childless : (node : Node) (key : NodeKey) → record { key = new; children = [] } ≡ node → has node.children key ≡ true → ⊥
  childless node key is there =
      both_ways _ (has-nil key) (ap (λ (n : Node). has n.children key) is ∙ there)

  -- a node with a child was there before
  older : (node : Node) (key : NodeKey) → Contains (after_make scene new).nodes node → has node.children key ≡ true → Contains scene.nodes node
  older node key at there =
      elim (Contains-push_cases scene.nodes (record { key = new; children = [] }) node at) [
        | inl before ↦ before
        | inr newest ↦ absurd (childless node key newest there)
      ]

  pub sound_made : make_refusal scene ≡ None → All (λ (node : Node). node.key.slot ≢ new.slot) scene.nodes → IsSound (after_make scene new)
  sound_made room fresh =
      let full = refused-None (is_full scene) Full None room in
      let parts = or_parts (length scene.nodes == 4096) (scene.born == 4294967295) full.0 in
      let not_all : (length scene.nodes ≡ 4096) → ⊥ = eqb-false (length scene.nodes) 4096 parts.0 in
      let last : Node = record { key = new; children = [] } in
      record {
        rising =
            pairs_pushed (λ (one other : Node). one.key.birth < other.key.birth) scene.nodes last sound.rising
            (All-weaker (λ (node : Node). node.key.birth ≤ scene.born) (λ (node : Node). node.key.birth < new.birth)
            (λ node low. omega (arith, low, next)) scene.nodes sound.given);
        given =
            All-push (λ (node : Node). node.key.birth ≤ new.birth) scene.nodes last
            (All-weaker (λ (node : Node). node.key.birth ≤ scene.born) (λ (node : Node). node.key.birth ≤ new.birth)
            (λ node low. omega (arith, low, next)) scene.nodes sound.given)
            (omega arith);
        born = All-push (λ (node : Node). 0 < node.key.birth) scene.nodes last sound.born (omega (arith, next));
        apart = pairs_pushed (λ (one other : Node). one.key.slot ≢ other.key.slot) scene.nodes last sound.apart fresh;
        few =
            let long : length (after_make scene new).nodes ≡ length scene.nodes + 1 = length-append scene.nodes (last ∷ []) in
            omega (arith, long, sound.few, not_all);
        alive = λ node key at there.
            alive_after_make scene new sound next key
            ∙ or_left (is_alive scene.nodes key) (is_same key new) (sound.alive node key (older node key at there) there);
        one_list = λ one other key first second has_one has_other.
            sound.one_list one other key (older one key first has_one) (older other key second has_other) has_one has_other;
        once = λ node at.
            elim (Contains-push_cases scene.nodes last node at) [
              | inl before ↦ sound.once node before
              | inr newest ↦ sym (ap (λ (n : Node). is_once n.children) newest) ∙ is_once-nil
            ];
        topmost = λ key is.
            let was = sound.topmost key is in (
              alive_after_make scene new sound next key ∙ or_left (is_alive scene.nodes key) (is_same key new) was.0,
              parent_after_make scene new key ∙ was.1,
            );
        lines = λ key alive. made_line key;
        shallow = λ key most alive enough. still_shallow (after_make scene new).nodes key (made_line key) most enough;
      }

-- a node becomes the root

pub sound_rooted : (scene : Scene) (key : NodeKey) → IsSound scene → root_refusal scene key ≡ None → IsSound (after_set_root scene key)
unfolding root_refusal
sound_rooted scene key sound none =
    let one = refused-None _ _ _ none in
    let two = refused-None (is_some (parent_of scene.nodes key)) HasParent (refused (is_some scene.root) Attached None) one.1 in
    let alive : is_alive scene.nodes key ≡ true = not-false (is_alive scene.nodes key) one.0 in
    let alone : parent_of scene.nodes key ≡ None = none_from (parent_of scene.nodes key) two.0 in
    record {
      rising = sound.rising;
      given = sound.given;
      born = sound.born;
      apart = sound.apart;
      few = sound.few;
      alive = sound.alive;
      one_list = sound.one_list;
      once = sound.once;
      topmost = λ other is.
          let e : key ≡ other = same_Some key other is in
          (ap (is_alive scene.nodes) (sym e) ∙ alive, ap (parent_of scene.nodes) (sym e) ∙ alone);
      lines = sound.lines;
      shallow = sound.shallow;
    }

-- a child is attached

module _ (scene : Scene) (sound : IsSound scene) (parent child : NodeKey) (place : ℕ) (is : IsFree scene parent child) where
  -- a child of a node is the one that was attached to it, or was one before
  held_attached : (node : Node) (key : NodeKey) → has (with_child parent child place node).children key ≡ true
      → ((node.key ≡ parent) × (child ≡ key)) ⊎ (has node.children key ≡ true)
  held_attached node key there =
      elim (cases_Bool (is_same node.key parent)) [
        | inl same ↦
            elim (or_cases (is_same child key) (has node.children key)
            (sym (has-insert place node.children child key)
            ∙ sym (ap (λ (b : Bool). has (cond b (insert node.children place child) node.children) key) same)
            ∙ there)) [
              | inl newest ↦ inl (is_same-true node.key parent same, is_same-true child key newest)
              | inr before ↦ inr before
            ]
        | inr apart ↦
            inr
            (sym (ap (λ (b : Bool). has (cond b (insert node.children place child) node.children) key) apart) ∙ there)
      ]

  nobodys : (node : Node) (key : NodeKey) → Contains scene.nodes node → child ≡ key → has node.children key ≡ true → ⊥
  nobodys node key at same there =
      both_ways _ (parent_nowhere scene.nodes child is.topmost node at) (ap (has node.children) same ∙ there)

  one_list_attached : (one other : Node) (key : NodeKey) → Contains scene.nodes one → Contains scene.nodes other
      → has (with_child parent child place one).children key ≡ true → has (with_child parent child place other).children key ≡ true
      → one ≡ other
  one_list_attached one other key first second has_one has_other =
      elim (held_attached one key has_one) [
        | inl newest ↦
            elim (held_attached other key has_other) [
              | inl also ↦ one_node scene sound one other first second (newest.0 ∙ sym also.0)
              | inr before ↦ absurd (nobodys other key second newest.1 before)
            ]
        | inr before ↦
            elim (held_attached other key has_other) [
              | inl newest ↦ absurd (nobodys one key first newest.1 before)
              | inr too ↦ sound.one_list one other key first second before too
            ]
      ]

  once_attached : (node : Node) → Contains scene.nodes node → is_once (with_child parent child place node).children ≡ true
  once_attached node at =
      elim (cases_Bool (is_same node.key parent)) [
        | inl same ↦
            ap (λ (b : Bool). is_once (cond b (insert node.children place child) node.children)) same
            ∙ is_once-insert place node.children child (parent_nowhere scene.nodes child is.topmost node at) (sound.once node at)
        | inr apart ↦
            ap (λ (b : Bool). is_once (cond b (insert node.children place child) node.children)) apart
            ∙ sound.once node at
      ]

  pub sound_attached : IsSound (after_attach scene parent child place)
  sound_attached =
      record {
        rising =
            pairs_mapped (λ (one other : Node). one.key.birth < other.key.birth) (with_child parent child place) scene.nodes
            (λ x y less. less) sound.rising;
        given = All-map (λ (node : Node). node.key.birth ≤ scene.born) (with_child parent child place) scene.nodes sound.given;
        born = All-map (λ (node : Node). 0 < node.key.birth) (with_child parent child place) scene.nodes sound.born;
        apart =
            pairs_mapped (λ (one other : Node). one.key.slot ≢ other.key.slot) (with_child parent child place) scene.nodes
            (λ x y differ. differ) sound.apart;
        few =
            let long : length (after_attach scene parent child place).nodes ≡ length scene.nodes = length-map scene.nodes (with_child parent child place) in
            omega (arith, long, sound.few);
        alive = λ node key at there.
            let was = from_map (with_child parent child place) scene.nodes node at in
            alive_attached parent child place scene.nodes key
            ∙ elim (held_attached was.0 key (ap (λ (n : Node). has n.children key) was.2 ∙ there)) [
              | inl newest ↦ sym (ap (is_alive scene.nodes) newest.1) ∙ is.child_alive
              | inr before ↦ sound.alive was.0 key was.1 before
            ];
        one_list = λ one other key first second has_one has_other.
            let was = from_map (with_child parent child place) scene.nodes one first in
            let too = from_map (with_child parent child place) scene.nodes other second in
            sym was.2
            ∙ ap (with_child parent child place)
            (one_list_attached was.0 too.0 key was.1 too.1
            (ap (λ (n : Node). has n.children key) was.2 ∙ has_one)
            (ap (λ (n : Node). has n.children key) too.2 ∙ has_other))
            ∙ too.2;
        once = λ node at.
            let was = from_map (with_child parent child place) scene.nodes node at in
            sym (ap (λ (n : Node). is_once n.children) was.2) ∙ once_attached was.0 was.1;
        topmost = λ key root.
            let was = sound.topmost key root in
            let other : is_same key child ≡ false = sym (ap (λ (o : Option NodeKey). is_held o child) root) ∙ is.no_root in (
              alive_attached parent child place scene.nodes key ∙ was.0,
              parent_after_attach scene sound parent child place is key
                  ∙ passed _ (Some parent) (parent_of scene.nodes key) other
                  ∙ was.1,
            );
        lines = λ key alive. line_after_attach scene sound parent child place is key;
        shallow = λ key most alive enough.
            still_shallow (after_attach scene parent child place).nodes key (line_after_attach scene sound parent child place is key) most enough;
      }

-- a child is detached

module _ (scene : Scene) (sound : IsSound scene) (child : NodeKey) where
  held_detached : (node : Node) (key : NodeKey) → has (without_child child node).children key ≡ true → has node.children key ≡ true
  held_detached node key there =
      (and_parts (has node.children key) (not (is_same child key)) (sym (has-without child node.children key) ∙ there)).0

  pub sound_detached : IsSound (after_detach scene child)
  sound_detached =
      record {
        rising =
            pairs_mapped (λ (one other : Node). one.key.birth < other.key.birth) (without_child child) scene.nodes
            (λ x y less. less) sound.rising;
        given = All-map (λ (node : Node). node.key.birth ≤ scene.born) (without_child child) scene.nodes sound.given;
        born = All-map (λ (node : Node). 0 < node.key.birth) (without_child child) scene.nodes sound.born;
        apart =
            pairs_mapped (λ (one other : Node). one.key.slot ≢ other.key.slot) (without_child child) scene.nodes
            (λ x y differ. differ) sound.apart;
        few =
            let long : length (after_detach scene child).nodes ≡ length scene.nodes = length-map scene.nodes (without_child child) in
            omega (arith, long, sound.few);
        alive = λ node key at there.
            let was = from_map (without_child child) scene.nodes node at in
            alive_detached child scene.nodes key
            ∙ sound.alive was.0 key was.1 (held_detached was.0 key (ap (λ (n : Node). has n.children key) was.2 ∙ there));
        one_list = λ one other key first second has_one has_other.
            let was = from_map (without_child child) scene.nodes one first in
            let too = from_map (without_child child) scene.nodes other second in
            sym was.2
            ∙ ap (without_child child)
            (sound.one_list was.0 too.0 key was.1 too.1
            (held_detached was.0 key (ap (λ (n : Node). has n.children key) was.2 ∙ has_one))
            (held_detached too.0 key (ap (λ (n : Node). has n.children key) too.2 ∙ has_other)))
            ∙ too.2;
        once = λ node at.
            let was = from_map (without_child child) scene.nodes node at in
            sym (ap (λ (n : Node). is_once n.children) was.2) ∙ is_once-without child was.0.children (sound.once was.0 was.1);
        topmost = λ key root.
            let was = sound.topmost key root in (
              alive_detached child scene.nodes key ∙ was.0,
              parent_after_detach child scene.nodes key ∙ none_still (is_same key child) (parent_of scene.nodes key) was.1,
            );
        lines = λ key alive. line_after_detach scene sound child key;
        shallow = λ key most alive enough.
            still_shallow (after_detach scene child).nodes key (line_after_detach scene sound child key) most enough;
      }

-- a tree is dropped

module _ (scene : Scene) (top : NodeKey) (sound : IsSound scene) (topmost : parent_of scene.nodes top ≡ None)
    (no_root : is_held scene.root top ≡ false) where
  stayed : (node : Node) → Contains (after_drop scene top).nodes node
      → (Contains scene.nodes node) × (is_within scene.nodes top node.key ≡ false)
  stayed node at =
      let was = from_filter (λ (n : Node). not (is_within scene.nodes top n.key)) scene.nodes node at in
      (was.0, not-true (is_within scene.nodes top node.key) was.1)

  lives_on : (key : NodeKey) → is_alive scene.nodes key ≡ true → is_within scene.nodes top key ≡ false
      → is_alive (after_drop scene top).nodes key ≡ true
  lives_on key alive apart =
      alive_after_drop scene top key
      ∙ and_from (is_alive scene.nodes key) (not (is_within scene.nodes top key)) alive (ap not apart)

  dropped_line : (key : NodeKey) → is_alive (after_drop scene top).nodes key ≡ true
      → IsLine (parent_of (after_drop scene top).nodes) (Some key) (line (after_drop scene top).nodes key)
  dropped_line key alive =
      let parts = and_parts (is_alive scene.nodes key) (not (is_within scene.nodes top key)) (sym (alive_after_drop scene top key) ∙ alive) in
      line_after_drop scene top sound topmost key (not-true (is_within scene.nodes top key) parts.1)

  root_apart : (key : NodeKey) → scene.root ≡ Some key → is_within scene.nodes top key ≡ false
  root_apart key root =
      ap (λ (l : List NodeKey). has l top) (line_alone scene.nodes key (sound.topmost key root).1)
      ∙ has-cons key [] top
      ∙ ap (λ (b : Bool). b || has [] top) (sym (ap (λ (o : Option NodeKey). is_held o top) root) ∙ no_root)
      ∙ has-nil top

  pub sound_dropped : IsSound (after_drop scene top)
  sound_dropped =
      let test : Node → Bool = λ (n : Node). not (is_within scene.nodes top n.key) in
      record {
        rising = AllPairs-filter (λ (one other : Node). one.key.birth < other.key.birth) test scene.nodes sound.rising;
        given = All-filter test (λ (node : Node). node.key.birth ≤ scene.born) scene.nodes sound.given;
        born = All-filter test (λ (node : Node). 0 < node.key.birth) scene.nodes sound.born;
        apart = AllPairs-filter (λ (one other : Node). one.key.slot ≢ other.key.slot) test scene.nodes sound.apart;
        few =
            let less : length (after_drop scene top).nodes ≤ length scene.nodes = fewer test scene.nodes in
            omega (arith, less, sound.few);
        alive = λ node key at there.
            let was = stayed node at in
            lives_on key (sound.alive node key was.0 there)
            (sym (with_parent scene top sound topmost key node.key (parent_is scene sound key node was.0 there)) ∙ was.1);
        one_list = λ one other key first second has_one has_other.
            sound.one_list one other key (stayed one first).0 (stayed other second).0 has_one has_other;
        once = λ node at. sound.once node (stayed node at).0;
        topmost = λ key root.
            let was = sound.topmost key root in (
              lives_on key was.0 (root_apart key root),
              parent_after_drop scene top sound topmost key ∙ none_still (is_within scene.nodes top key) (parent_of scene.nodes key) was.1,
            );
        lines = dropped_line;
        shallow = λ key most alive enough.
            still_shallow (after_drop scene top).nodes key (dropped_line key alive) most enough;
      }
