-- A walk of the tree meets each node once.
use Rattle.std.proofs.Common.{◌≡◌, ℕ, zero, suc, ◌+◌, ◌≤◌, Bool, true, false, not, cond, ◌||◌, List, [], ◌∷◌, ◌++◌, length, reverse, Option, Some, None, Contains, unwrap_or, refl, sym, ◌∙◌, ap, subst, inl, inr, arith}
use Rattle.std.specs.Option.{option_map}
use Rattle.std.specs.List.{find, flat_map}
use Rattle.std.proofs.lemmas.Bool.{cases_Bool, and_parts, and_from, both_ways, false_from_ne_true, not-true, or_cases, or_right}
use Rattle.std.proofs.lemmas.List.{reverse-append}
use Rattle.std.proofs.lemmas.Option.{none-some, same_Some}
use Rattle.slab.proofs.SlabLemmas.{Contains-cons, Contains-cons_cases}
use Rattle.fx_base.specs.declared.keys.NodeKey.{NodeKey}
use Rattle.fx_tree.specs.Scene.{Node, Scene, IsLine, IsSound, children_of, children_or_none, has, is_alive, is_once, is_same, line, parent_of, subtree, subtree_in}
use Rattle.fx_tree.specs.History.{PathsMeetOnce, SubtreesMeetOnce}
use Rattle.fx_tree.proofs.Keys.{has-cons, has-nil, is_same-refl, is_same-true}
use Rattle.fx_tree.proofs.Lines.{line_is}

-- the keys from this one on
abbrev from : NodeKey → List NodeKey → List NodeKey
from key [] = []
from key (x ∷ xs) = cond (is_same x key) (x ∷ xs) (from key xs)

from_there : (x : NodeKey) (xs : List NodeKey) (key : NodeKey) → is_same x key ≡ true → from key (x ∷ xs) ≡ x ∷ xs
from_there x xs key same = ap (λ (b : Bool). cond b (x ∷ xs) (from key xs)) same

from_later : (x : NodeKey) (xs : List NodeKey) (key : NodeKey) → is_same x key ≡ false → from key (x ∷ xs) ≡ from key xs
from_later x xs key apart = ap (λ (b : Bool). cond b (x ∷ xs) (from key xs)) apart

later : (x : NodeKey) (xs : List NodeKey) (key : NodeKey) → has (x ∷ xs) key ≡ true → is_same x key ≡ false → has xs key ≡ true
later x xs key there apart = sym (has-cons x xs key ∙ ap (λ (b : Bool). b || has xs key) apart) ∙ there

from_shorter : (key : NodeKey) (keys : List NodeKey) → length (from key keys) ≤ length keys
from_shorter key [] = omega arith
from_shorter key (x ∷ xs) = by_test (is_same x key) (from_shorter key xs)
  where
    by_test : (b : Bool) → length (from key xs) ≤ length xs → length (cond b (x ∷ xs) (from key xs)) ≤ length (x ∷ xs)
    by_test true rest = omega arith
    by_test false rest = omega (arith, rest)

-- two keys that stand equally far from the end are one
from_same : (keys : List NodeKey) (one other : NodeKey) → has keys one ≡ true → has keys other ≡ true
    → length (from one keys) ≡ length (from other keys) → one ≡ other
from_same [] one other there too far = absurd (both_ways _ (has-nil one) there)
from_same (x ∷ xs) one other there too far =
    elim (cases_Bool (is_same x one)) [
      | inl same ↦
          elim (cases_Bool (is_same x other)) [
            | inl equal ↦ sym (is_same-true x one same) ∙ is_same-true x other equal
            | inr apart ↦
                let a : length (from one (x ∷ xs)) ≡ length (x ∷ xs) = ap length (from_there x xs one same) in
                let b : length (from other (x ∷ xs)) ≡ length (from other xs) = ap length (from_later x xs other apart) in
                absurd (omega (arith, a, b, far, from_shorter other xs))
          ]
      | inr apart ↦
          elim (cases_Bool (is_same x other)) [
            | inl equal ↦
                let a : length (from other (x ∷ xs)) ≡ length (x ∷ xs) = ap length (from_there x xs other equal) in
                let b : length (from one (x ∷ xs)) ≡ length (from one xs) = ap length (from_later x xs one apart) in
                absurd (omega (arith, a, b, far, from_shorter one xs))
            | inr different ↦
                from_same xs one other (later x xs one there apart) (later x xs other too different)
                (sym (ap length (from_later x xs one apart)) ∙ far ∙ ap length (from_later x xs other different))
          ]
    ]

has-append : (front back : List NodeKey) (key : NodeKey) → has (front ++ back) key ≡ (has front key || has back key)
unfolding has
has-append [] back key = refl
has-append (x ∷ xs) back key = ap (λ (b : Bool). is_same x key || b) (has-append xs back key) ∙ joined (is_same x key) (has xs key) (has back key)
  where
    joined : (a b c : Bool) → (a || (b || c)) ≡ ((a || b) || c)
    joined true b c = refl
    joined false b c = refl

is_once-append : (front back : List NodeKey) → is_once front ≡ true → is_once back ≡ true
    → ((key : NodeKey) → has front key ≡ true → has back key ≡ true → ⊥) → is_once (front ++ back) ≡ true
unfolding is_once
is_once-append [] back front_once back_once apart = back_once
is_once-append (x ∷ xs) back front_once back_once apart =
    let parts = and_parts (not (has xs x)) (is_once xs) front_once in
    let first : has (x ∷ xs) x ≡ true = has-cons x xs x ∙ ap (λ (b : Bool). b || has xs x) (is_same-refl x) in
    let alone : has (xs ++ back) x ≡ false =
    has-append xs back x
    ∙ ap (λ (b : Bool). b || has back x) (not-true (has xs x) parts.0)
    ∙ false_from_ne_true (has back x) (λ there. apart x first there) in
    and_from _ _ (ap not alone)
    (is_once-append xs back parts.1 back_once
    (λ key there too. apart key (has-cons x xs key ∙ or_right (is_same x key) (has xs key) there) too))

single_once : (key : NodeKey) → is_once (key ∷ []) ≡ true
unfolding is_once has
single_once key = refl

turned_last : (x : NodeKey) (xs : List NodeKey) → reverse (x ∷ xs) ≡ reverse xs ++ x ∷ []
turned_last x xs = reverse-append (x ∷ []) xs

has-reverse : (keys : List NodeKey) (key : NodeKey) → has (reverse keys) key ≡ true → has keys key ≡ true
has-reverse [] key there = there
has-reverse (x ∷ xs) key there =
    elim (or_cases (has (reverse xs) key) (has (x ∷ []) key) (sym (ap (λ (l : List NodeKey). has l key) (turned_last x xs) ∙ has-append (reverse xs) (x ∷ []) key) ∙ there)) [
      | inl inner ↦ has-cons x xs key ∙ or_right (is_same x key) (has xs key) (has-reverse xs key inner)
      | inr last ↦
          elim (or_cases (is_same x key) (has [] key) (sym (has-cons x [] key) ∙ last)) [
            | inl same ↦ has-cons x xs key ∙ ap (λ (b : Bool). b || has xs key) same
            | inr none ↦ absurd (both_ways _ (has-nil key) none)
          ]
    ]

is_once-reverse : (keys : List NodeKey) → is_once keys ≡ true → is_once (reverse keys) ≡ true
unfolding is_once
is_once-reverse [] once = once
is_once-reverse (x ∷ xs) once =
    let parts = and_parts (not (has xs x)) (is_once xs) once in
    ap is_once (turned_last x xs)
    ∙ is_once-append (reverse xs) (x ∷ []) (is_once-reverse xs parts.1) (single_once x)
    (λ key there last.
    elim (or_cases (is_same x key) (has [] key) (sym (has-cons x [] key) ∙ last)) [
      | inl same ↦
          both_ways _ (not-true (has xs x) parts.0) (ap (has xs) (is_same-true x key same) ∙ has-reverse xs key there)
      | inr none ↦ both_ways _ (has-nil key) none
    ])

-- a key of lists in a row is in one of them
in_some : (f : NodeKey → List NodeKey) (keys : List NodeKey) (key : NodeKey) → has (flat_map f keys) key ≡ true
    → (k : NodeKey) × (has keys k ≡ true) × (has (f k) key ≡ true)
in_some f [] key there = absurd (both_ways _ (has-nil key) there)
in_some f (x ∷ xs) key there =
    elim (or_cases (has (f x) key) (has (flat_map f xs) key) (sym (has-append (f x) (flat_map f xs) key) ∙ there)) [
      | inl here ↦ (x, has-cons x xs x ∙ ap (λ (b : Bool). b || has xs x) (is_same-refl x), here)
      | inr further ↦
          let rest = in_some f xs key further in
          (rest.0, has-cons x xs rest.0 ∙ or_right (is_same x rest.0) (has xs rest.0) rest.1, rest.2)
    ]

module _ (up : NodeKey → Option NodeKey) where
  -- a node has one line
  one_line : (o : Option NodeKey) (keys others : List NodeKey) → IsLine up o keys → IsLine up o others → keys ≡ others
  unfolding IsLine
  one_line None [] [] a b = refl
  one_line None [] (y ∷ ys) a b = absurd b
  one_line None (x ∷ xs) others a b = absurd a
  one_line (Some key) [] others a b = absurd a
  one_line (Some key) (x ∷ xs) [] a b = absurd b
  one_line (Some key) (x ∷ xs) (y ∷ ys) a b =
      let same : x ≡ y = a.0 ∙ sym b.0 in
      let P : NodeKey → Type 0 = λ k. IsLine up (up k) xs in
      ap (λ (k : NodeKey). k ∷ xs) same ∙ ap (λ (tail : List NodeKey). y ∷ tail) (one_line (up y) xs ys (subst P same a.1) b.1)

  first_of : (key : NodeKey) (keys : List NodeKey) → IsLine up (Some key) keys → has keys key ≡ true
  unfolding IsLine
  first_of key [] line = absurd line
  first_of key (x ∷ xs) line =
      has-cons x xs key ∙ ap (λ (b : Bool). b || has xs key) (ap (λ (k : NodeKey). is_same k key) line.0 ∙ is_same-refl key)

  line_from : (o : Option NodeKey) (keys : List NodeKey) (key : NodeKey) → IsLine up o keys → has keys key ≡ true → IsLine up (Some key) (from key keys)
  unfolding IsLine
  line_from o [] key line there = absurd (both_ways _ (has-nil key) there)
  line_from None (x ∷ xs) key line there = absurd line
  line_from (Some k) (x ∷ xs) key line there =
      elim (cases_Bool (is_same x key)) [
        | inl same ↦
            let P : List NodeKey → Type 0 = λ l. IsLine up (Some key) l in
            subst P (sym (from_there x xs key same)) (is_same-true x key same, line.1)
        | inr apart ↦
            let P : List NodeKey → Type 0 = λ l. IsLine up (Some key) l in
            subst P (sym (from_later x xs key apart)) (line_from (up x) xs key line.1 (later x xs key there apart))
      ]

  -- the parent of a node of a line is in it
  above : (o : Option NodeKey) (keys : List NodeKey) (key parent : NodeKey) → IsLine up o keys → has keys key ≡ true → up key ≡ Some parent
      → has keys parent ≡ true
  unfolding IsLine
  above o [] key parent line there is = absurd (both_ways _ (has-nil key) there)
  above None (x ∷ xs) key parent line there is = absurd line
  above (Some k) (x ∷ xs) key parent line there is =
      has-cons x xs parent
      ∙ or_right (is_same x parent) (has xs parent)
      (elim (cases_Bool (is_same x key)) [
        | inl same ↦
            let P : Option NodeKey → Type 0 = λ o. IsLine up o xs in
            first_of parent xs (subst P (ap up (is_same-true x key same) ∙ is) line.1)
        | inr apart ↦ above (up x) xs key parent line.1 (later x xs key there apart) is
      ])

  longer : (key parent : NodeKey) (keys above_keys : List NodeKey) → IsLine up (Some key) keys → up key ≡ Some parent
      → IsLine up (Some parent) above_keys → length keys ≡ suc (length above_keys)
  unfolding IsLine
  longer key parent [] above_keys line is higher = absurd line
  longer key parent (x ∷ xs) above_keys line is higher =
      let P : Option NodeKey → Type 0 = λ o. IsLine up o xs in
      ap (λ (l : List NodeKey). suc (length l))
      (one_line (Some parent) xs above_keys (subst P (ap up line.0 ∙ is) line.1) higher)

  -- what stands above a node of a line is in it
  pub deep : (at top : NodeKey) (line : List NodeKey) → IsLine up (Some at) line → has line top ≡ true
      → (o : Option NodeKey) (keys : List NodeKey) → IsLine up o keys → has keys at ≡ true → has keys top ≡ true
  unfolding IsLine
  deep at top line is there o [] further among = absurd (both_ways _ (has-nil at) among)
  deep at top line is there None (x ∷ xs) further among = absurd further
  deep at top line is there (Some key) (x ∷ xs) further among =
      elim (cases_Bool (is_same x at)) [
        | inl same ↦
            let whole : IsLine up (Some at) (x ∷ xs) = (is_same-true x at same, further.1) in
            ap (λ (l : List NodeKey). has l top) (one_line (Some at) (x ∷ xs) line whole is) ∙ there
        | inr apart ↦
            has-cons x xs top
            ∙ or_right (is_same x top) (has xs top) (deep at top line is there (up x) xs further.1 (later x xs at among apart))
      ]

  line_once : (o : Option NodeKey) (keys : List NodeKey) → IsLine up o keys → is_once keys ≡ true
  unfolding IsLine is_once
  line_once o [] line = refl
  line_once None (x ∷ xs) line = absurd line
  line_once (Some key) (x ∷ xs) line =
      let itself : IsLine up (Some x) (x ∷ xs) = (refl, line.1) in
      let alone : has xs x ≡ false =
      false_from_ne_true (has xs x)
      (λ there.
      let e : length (x ∷ xs) ≡ length (from x xs) = ap length (one_line (Some x) (x ∷ xs) (from x xs) itself (line_from (up x) xs x line.1 there)) in
      omega (arith, e, from_shorter x xs)) in
      and_from _ _ (ap not alone) (line_once (up x) xs line.1)

module _ (up : NodeKey → Option NodeKey) (below : NodeKey → List NodeKey)
    (down : (key parent : NodeKey) → has (below parent) key ≡ true → up key ≡ Some parent)
    (once : (key : NodeKey) → is_once (below key) ≡ true)
    (lines : (key : NodeKey) → (keys : List NodeKey) × IsLine up (Some key) keys) where
  -- who stands in a subtree has its top in the line
  within : (n : ℕ) (top key : NodeKey) → has (subtree_in n below top) key ≡ true → (keys : List NodeKey) → IsLine up (Some key) keys
      → has keys top ≡ true
  unfolding subtree_in
  within zero top key there keys line = absurd (both_ways _ (has-nil key) there)
  within (suc n) top key there keys line =
      elim (or_cases (is_same top key) (has (flat_map (subtree_in n below) (below top)) key) (sym (has-cons top _ key) ∙ there)) [
        | inl same ↦ ap (has keys) (is_same-true top key same) ∙ first_of up key keys line
        | inr deeper ↦
            let child = in_some (subtree_in n below) (below top) key deeper in
            above up (Some key) keys child.0 top line (within n child.0 key child.2 keys line) (down child.0 top child.1)
      ]

  children_apart : (n : ℕ) (parent one other key : NodeKey) → up one ≡ Some parent → up other ≡ Some parent
      → has (subtree_in n below one) key ≡ true → has (subtree_in n below other) key ≡ true → one ≡ other
  children_apart n parent one other key of_one of_other there too =
      let keys = (lines key).0 in
      let line_is_one = (lines key).1 in
      let has_one = within n one key there keys line_is_one in
      let has_other = within n other key too keys line_is_one in
      from_same keys one other has_one has_other
      (longer up one parent (from one keys) (lines parent).0 (line_from up (Some key) keys one line_is_one has_one) of_one (lines parent).1
      ∙ sym (longer up other parent (from other keys) (lines parent).0 (line_from up (Some key) keys other line_is_one has_other) of_other (lines parent).1))

  children_once : (n : ℕ) (parent : NodeKey) (keys : List NodeKey) → is_once keys ≡ true
      → ((key : NodeKey) → has keys key ≡ true → up key ≡ Some parent)
      → ((key : NodeKey) → is_once (subtree_in n below key) ≡ true)
      → is_once (flat_map (subtree_in n below) keys) ≡ true
  unfolding is_once
  children_once n parent [] single of each = refl
  children_once n parent (x ∷ xs) single of each =
      let parts = and_parts (not (has xs x)) (is_once xs) single in
      is_once-append (subtree_in n below x) (flat_map (subtree_in n below) xs) (each x)
      (children_once n parent xs parts.1 (λ key there. of key (has-cons x xs key ∙ or_right (is_same x key) (has xs key) there)) each)
      (λ key there too.
      let other = in_some (subtree_in n below) xs key too in
      let first : has (x ∷ xs) x ≡ true = has-cons x xs x ∙ ap (λ (b : Bool). b || has xs x) (is_same-refl x) in
      let second : has (x ∷ xs) other.0 ≡ true = has-cons x xs other.0 ∙ or_right (is_same x other.0) (has xs other.0) other.1 in
      let same = children_apart n parent x other.0 key (of x first) (of other.0 second) there other.2 in
      both_ways _ (not-true (has xs x) parts.0) (ap (has xs) same ∙ other.1))

  pub subtree_once : (n : ℕ) (top : NodeKey) → is_once (subtree_in n below top) ≡ true
  unfolding subtree_in is_once
  subtree_once zero top = refl
  subtree_once (suc n) top =
      let keys = (lines top).0 in
      let alone : has (flat_map (subtree_in n below) (below top)) top ≡ false =
      false_from_ne_true _
      (λ there.
      let child = in_some (subtree_in n below) (below top) top there in
      let is = down child.0 top child.1 in
      let inside = within n child.0 top child.2 keys (lines top).1 in
      let e = longer up child.0 top (from child.0 keys) keys (line_from up (Some top) keys child.0 (lines top).1 inside) is (lines top).1 in
      omega (arith, e, from_shorter child.0 keys)) in
      and_from _ _ (ap not alone) (children_once n top (below top) (once top) (λ key there. down key top there) (subtree_once n))

-- what `find` answers
found : {X : Type 0} (test : X → Bool) (xs : List X) (x : X) → find test xs ≡ Some x → (Contains xs x) × (test x ≡ true)
found test [] x is = absurd (none-some x is)
found test (y ∷ ys) x is =
    elim (cases_Bool (test y)) [
      | inl passes ↦
          let same : y ≡ x = same_Some y x (sym (ap (λ (b : Bool). cond b (Some y) (find test ys)) passes) ∙ is) in
          ((0, omega arith, same), ap test (sym same) ∙ passes)
      | inr fails ↦
          let rest = found test ys x (sym (ap (λ (b : Bool). cond b (Some y) (find test ys)) fails) ∙ is) in
          (Contains-cons y x ys rest.0, rest.1)
    ]

passed_over : {X : Type 0} (test : X → Bool) (xs : List X) (x : X) → find test xs ≡ None → Contains xs x → test x ≡ true → ⊥
passed_over test [] x is there passes = omega (arith, there.1)
passed_over test (y ∷ ys) x is there passes =
    elim (cases_Bool (test y)) [
      | inl hit ↦ none-some y (sym (sym (ap (λ (b : Bool). cond b (Some y) (find test ys)) hit) ∙ is))
      | inr fails ↦
          elim (Contains-cons_cases y x ys there) [
            | inl same ↦ both_ways _ fails (ap test same ∙ passes)
            | inr further ↦ passed_over test ys x (sym (ap (λ (b : Bool). cond b (Some y) (find test ys)) fails) ∙ is) further passes
          ]
    ]

children_found : (nodes : List Node) (parent : NodeKey) (o : Option Node) → find (λ (n : Node). is_same n.key parent) nodes ≡ o
    → children_or_none nodes parent ≡ unwrap_or (option_map (λ (n : Node). n.children) o) []
unfolding children_of
children_found nodes parent o is = ap (λ (f : Option Node). unwrap_or (option_map (λ (n : Node). n.children) f) []) is

parent_found : (nodes : List Node) (key : NodeKey) (o : Option Node) → find (λ (n : Node). has n.children key) nodes ≡ o
    → parent_of nodes key ≡ option_map (λ (n : Node). n.key) o
unfolding parent_of
parent_found nodes key o is = ap (option_map (λ (n : Node). n.key)) is

none_once : is_once [] ≡ true
unfolding is_once
none_once = refl

alone : (up : NodeKey → Option NodeKey) (key : NodeKey) → up key ≡ None → IsLine up (Some key) (key ∷ [])
unfolding IsLine
alone up key none = let P : Option NodeKey → Type 0 = λ o. IsLine up o [] in (refl, subst P (sym none) tt)

alone_line : (nodes : List Node) (key : NodeKey) → parent_of nodes key ≡ None → line nodes key ≡ key ∷ []
unfolding line
alone_line nodes key none = line_is 64 (parent_of nodes) (Some key) (key ∷ []) (alone (parent_of nodes) key none) (omega arith)

module _ (scene : Scene) (sound : IsSound scene) where
  child_of : (key parent : NodeKey) (node : Node) → Contains scene.nodes node → node.key ≡ parent → has node.children key ≡ true
      → (o : Option Node) → find (λ (n : Node). has n.children key) scene.nodes ≡ o → parent_of scene.nodes key ≡ Some parent
  child_of key parent node among same there None is =
      absurd (passed_over (λ (n : Node). has n.children key) scene.nodes node is among there)
  child_of key parent node among same there (Some other) is =
      let f = found (λ (n : Node). has n.children key) scene.nodes other is in
      let e : other ≡ node = sound.one_list other node key f.0 among f.1 there in
      parent_found scene.nodes key (Some other) is ∙ ap Some (ap (λ (n : Node). n.key) e ∙ same)

  down : (key parent : NodeKey) → has (children_or_none scene.nodes parent) key ≡ true → parent_of scene.nodes key ≡ Some parent
  down key parent there = by_node (find (λ (n : Node). is_same n.key parent) scene.nodes) refl
    where
      by_node : (o : Option Node) → find (λ (n : Node). is_same n.key parent) scene.nodes ≡ o → parent_of scene.nodes key ≡ Some parent
      by_node None is = absurd (both_ways _ (has-nil key) (sym (ap (λ (l : List NodeKey). has l key) (children_found scene.nodes parent None is)) ∙ there))
      by_node (Some node) is =
          let f = found (λ (n : Node). is_same n.key parent) scene.nodes node is in
          child_of key parent node f.0 (is_same-true node.key parent f.1)
          (sym (ap (λ (l : List NodeKey). has l key) (children_found scene.nodes parent (Some node) is)) ∙ there)
          (find (λ (n : Node). has n.children key) scene.nodes) refl

  once_below : (key : NodeKey) → is_once (children_or_none scene.nodes key) ≡ true
  once_below key = by_node (find (λ (n : Node). is_same n.key key) scene.nodes) refl
    where
      by_node : (o : Option Node) → find (λ (n : Node). is_same n.key key) scene.nodes ≡ o → is_once (children_or_none scene.nodes key) ≡ true
      by_node None is = ap is_once (children_found scene.nodes key None is) ∙ none_once
      by_node (Some node) is =
          ap is_once (children_found scene.nodes key (Some node) is)
          ∙ sound.once node (found (λ (n : Node). is_same n.key key) scene.nodes node is).0

  orphan : (key : NodeKey) → is_alive scene.nodes key ≡ false → parent_of scene.nodes key ≡ None
  orphan key dead = by_node (find (λ (n : Node). has n.children key) scene.nodes) refl
    where
      by_node : (o : Option Node) → find (λ (n : Node). has n.children key) scene.nodes ≡ o → parent_of scene.nodes key ≡ None
      by_node None is = parent_found scene.nodes key None is
      by_node (Some node) is =
          let f = found (λ (n : Node). has n.children key) scene.nodes node is in
          absurd (both_ways _ dead (sound.alive node key f.0 f.1))

  line_of : (key : NodeKey) → IsLine (parent_of scene.nodes) (Some key) (line scene.nodes key)
  line_of key =
      elim (cases_Bool (is_alive scene.nodes key)) [
        | inl alive ↦ sound.lines key alive
        | inr dead ↦
            let P : List NodeKey → Type 0 = λ l. IsLine (parent_of scene.nodes) (Some key) l in
            subst P (sym (alone_line scene.nodes key (orphan key dead))) (alone (parent_of scene.nodes) key (orphan key dead))
      ]

pub paths_meet_once : PathsMeetOnce
paths_meet_once scene key sound =
    is_once-reverse (line scene.nodes key) (line_once (parent_of scene.nodes) (Some key) (line scene.nodes key) (line_of scene sound key))

pub subtrees_meet_once : SubtreesMeetOnce
subtrees_meet_once scene key sound =
    subtree_once (parent_of scene.nodes) (children_or_none scene.nodes) (down scene sound) (once_below scene sound)
    (λ (k : NodeKey). (line scene.nodes k, line_of scene sound k)) 64 key
