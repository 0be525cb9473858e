-- What a write to one slot changes, for every key.
use Rattle.std.proofs.Common.{◌≡◌, ◌≢◌, ℕ, ◌≤◌, Bool, true, false, not, cond, ◌==◌, ◌&&◌, List, [], length, get_or, arith, Option, Some, None, is_some, refl, sym, ◌∙◌, ap, subst, inl, inr, ◌⊎◌}
use Rattle.std.specs.Option.{option_map}
use Rattle.std.specs.List.{insert}
use Rattle.std.proofs.lemmas.Bool.{cases_Bool, cases_eq, false≢true, both_ways, eqb-true, false_from_ne_true}
use Rattle.std.proofs.lemmas.Option.{none-some, same_Some}
use Rattle.fx_base.specs.declared.keys.NodeKey.{NodeKey}
use Rattle.fx_tree.specs.declared.nodes.Stored.{Stored}
use Rattle.fx_tree.specs.Scene.{Node, is_same, without}
use Rattle.fx_tree.specs.Slots.{of_birth, node_at, alive_at, up_at, below_at, children_in, parent_in, seen_at, IsForest, IsLinked, IsUnlinked, IsFreed}
use Rattle.fx_tree.proofs.Keys.{is_same-refl, is_same-true, is_same-false, without-absent}
use Rattle.fx_tree.proofs.Listing.{seen_at-slot, seen_alive, alive_seen}

birth_of_held : (birth : ℕ) (stored : Stored) → is_some (of_birth birth (Some stored)) ≡ true → stored.birth ≡ birth
birth_of_held birth stored alive =
    elim (cases_Bool (stored.birth == birth)) [
      | inl same ↦ eqb-true _ _ same
      | inr other ↦ absurd (false≢true (sym (ap (λ (b : Bool). is_some (cond b (Some stored) None)) other) ∙ alive))
    ]

-- the edit where the test holds
abbrev pub edited : Bool → (Stored → Stored) → Option Stored → Option Stored
edited test edit None = None
edited test edit (Some stored) = Some (cond test (edit stored) stored)

edited-false : (test : Bool) (edit : Stored → Stored) (o : Option Stored) → test ≡ false → edited test edit o ≡ o
edited-false test edit None failing = refl
edited-false test edit (Some stored) failing = ap (λ (b : Bool). Some (cond b (edit stored) stored)) failing

same_key : (one other : NodeKey) → one.slot ≡ other.slot → one.birth ≡ other.birth → is_same one other ≡ true
same_key one other slot birth =
    let by_slot : ℕ → NodeKey = λ s. record { slot = s; birth = one.birth } in
    let by_birth : ℕ → NodeKey = λ b. record { slot = other.slot; birth = b } in
    let e : one ≡ other = ap by_slot slot ∙ ap by_birth birth in
    sym (ap (λ (k : NodeKey). is_same k other) (sym e)) ∙ is_same-refl other

module _ (edit : Stored → Stored) (keeps : (stored : Stored) → (edit stored).birth ≡ stored.birth) (key k : NodeKey) (here : k.slot ≡ key.slot) where
  edit_held : (o : Option Stored) → is_some (of_birth key.birth o) ≡ true
      → of_birth k.birth (option_map edit o) ≡ edited (is_same k key) edit (of_birth k.birth o)
  edit_held None alive = absurd (false≢true alive)
  edit_held (Some stored) alive =
      elim (cases_Bool (stored.birth == k.birth)) [
        | inl same ↦
            let key_same : is_same k key ≡ true = same_key k key here (sym (eqb-true _ _ same) ∙ birth_of_held key.birth stored alive) in
            let l : ℕ → Option Stored = λ b. cond (b == k.birth) (Some (edit stored)) None in
            let m : Bool → Option Stored = λ b. cond b (Some (edit stored)) None in
            let r : Bool → Option Stored = λ b. edited b edit (Some stored) in
            let t : Bool → Option Stored = λ b. edited (is_same k key) edit (cond b (Some stored) None) in
            ap l (keeps stored) ∙ ap m same ∙ sym (ap r key_same) ∙ sym (ap t same)
        | inr other ↦
            let l : ℕ → Option Stored = λ b. cond (b == k.birth) (Some (edit stored)) None in
            let m : Bool → Option Stored = λ b. cond b (Some (edit stored)) None in
            let t : Bool → Option Stored = λ b. edited (is_same k key) edit (cond b (Some stored) None) in
            ap l (keeps stored) ∙ ap m other ∙ sym (ap t other)
      ]

module _ (old new : List (Option Stored)) (key : NodeKey) (edit : Stored → Stored)
    (keeps : (stored : Stored) → (edit stored).birth ≡ stored.birth)
    (alive : alive_at old key ≡ true)
    (changed : get_or new key.slot None ≡ option_map edit (get_or old key.slot None))
    (others : (other : ℕ) → other ≢ key.slot → get_or new other None ≡ get_or old other None) where
  node_at-edited : (k : NodeKey) → node_at new k ≡ edited (is_same k key) edit (node_at old k)
  unfolding node_at alive_at
  node_at-edited k =
      elim (cases_eq k.slot key.slot) [
        | inl here ↦
            let at : ℕ → Option Stored = λ s. get_or old s None in
            let P : ℕ → Type 0 = λ s. of_birth k.birth (get_or new s None) ≡ edited (is_same k key) edit (of_birth k.birth (get_or old s None)) in
            subst P (sym here)
            (ap (of_birth k.birth) changed ∙ edit_held edit keeps key k here (get_or old key.slot None) alive)
        | inr elsewhere ↦
            let apart : is_same k key ≡ false = is_same-false k key (λ e. elsewhere (ap (λ (n : NodeKey). n.slot) e)) in
            ap (of_birth k.birth) (others k.slot elsewhere) ∙ sym (edited-false (is_same k key) edit (node_at old k) apart)
      ]

  pub alive-edited : (k : NodeKey) → alive_at new k ≡ alive_at old k
  unfolding alive_at
  alive-edited k = ap is_some (node_at-edited k) ∙ same (is_same k key) (node_at old k)
    where
      same : (test : Bool) (o : Option Stored) → is_some (edited test edit o) ≡ is_some o
      same test None = refl
      same test (Some stored) = refl

  pub up-edited : (parent : NodeKey → Option NodeKey → Option NodeKey) → ((k : NodeKey) (stored : Stored) → is_same k key ≡ true → (edit stored).parent ≡ parent k stored.parent)
      → ((k : NodeKey) (o : Option NodeKey) → is_same k key ≡ false → parent k o ≡ o)
      → (k : NodeKey) → up_at new k ≡ parent k (up_at old k)
  unfolding up_at alive_at
  up-edited parent here elsewhere k =
      ap parent_in (node_at-edited k) ∙ by_key (cases_Bool (is_same k key)) (node_at old k) (λ same. ap (λ (n : NodeKey). is_some (node_at old n)) (is_same-true k key same) ∙ alive)
    where
      by_key : (is_same k key ≡ true) ⊎ (is_same k key ≡ false) → (o : Option Stored) → (is_same k key ≡ true → is_some o ≡ true)
          → parent_in (edited (is_same k key) edit o) ≡ parent k (parent_in o)
      by_key (inl same) None lives = absurd (false≢true (lives same))
      by_key (inl same) (Some stored) lives =
          ap (λ (b : Bool). parent_in (edited b edit (Some stored))) same ∙ here k stored same
      by_key (inr apart) o lives =
          ap parent_in (edited-false (is_same k key) edit o apart) ∙ sym (elsewhere k (parent_in o) apart)

  pub below-edited : (children : NodeKey → List NodeKey → List NodeKey) → ((k : NodeKey) (stored : Stored) → is_same k key ≡ true → (edit stored).children ≡ children k stored.children)
      → ((k : NodeKey) (l : List NodeKey) → is_same k key ≡ false → children k l ≡ l)
      → (k : NodeKey) → below_at new k ≡ children k (below_at old k)
  unfolding below_at alive_at
  below-edited children here elsewhere k =
      ap children_in (node_at-edited k) ∙ by_key (cases_Bool (is_same k key)) (node_at old k) (λ same. ap (λ (n : NodeKey). is_some (node_at old n)) (is_same-true k key same) ∙ alive)
    where
      by_key : (is_same k key ≡ true) ⊎ (is_same k key ≡ false) → (o : Option Stored) → (is_same k key ≡ true → is_some o ≡ true)
          → children_in (edited (is_same k key) edit o) ≡ children k (children_in o)
      by_key (inl same) None lives = absurd (false≢true (lives same))
      by_key (inl same) (Some stored) lives =
          ap (λ (b : Bool). children_in (edited b edit (Some stored))) same ∙ here k stored same
      by_key (inr apart) o lives =
          ap children_in (edited-false (is_same k key) edit o apart) ∙ sym (elsewhere k (children_in o) apart)

-- the three edits of the code

abbrev pub with_parent : Option NodeKey → Stored → Stored
with_parent parent stored = record { birth = stored.birth; parent = parent; children = stored.children }

abbrev pub inserted : ℕ → NodeKey → Stored → Stored
inserted place child stored = record { birth = stored.birth; parent = stored.parent; children = insert stored.children place child }

abbrev pub removed : NodeKey → Stored → Stored
removed child stored = record { birth = stored.birth; parent = stored.parent; children = without child stored.children }

choice-true : {X : Type 0} (b : Bool) (x y : X) → b ≡ true → cond b x y ≡ x
choice-true {X} b x y passing = ap (λ (t : Bool). cond t x y) passing

choice-false : {X : Type 0} (b : Bool) (x y : X) → b ≡ false → cond b x y ≡ y
choice-false {X} b x y failing = ap (λ (t : Bool). cond t x y) failing

module _ (old mid new : List (Option Stored)) (parent child : NodeKey) where
  pub IsLinked-made : (place : ℕ) → alive_at old parent ≡ true → alive_at old child ≡ true
      → get_or mid parent.slot None ≡ option_map (inserted place child) (get_or old parent.slot None)
      → ((other : ℕ) → other ≢ parent.slot → get_or mid other None ≡ get_or old other None)
      → get_or new child.slot None ≡ option_map (with_parent (Some parent)) (get_or mid child.slot None)
      → ((other : ℕ) → other ≢ child.slot → get_or new other None ≡ get_or mid other None)
      → IsLinked old new parent child place
  IsLinked-made place parent_alive child_alive changed others changed_child others_child =
      let alive_mid : (k : NodeKey) → alive_at mid k ≡ alive_at old k = alive-edited old mid parent (inserted place child) (λ s. refl) parent_alive changed others in
      let child_mid : alive_at mid child ≡ true = alive_mid child ∙ child_alive in
      record {
        up = λ k.
            up-edited mid new child (with_parent (Some parent)) (λ s. refl) child_mid changed_child others_child
            (λ n o. cond (is_same n child) (Some parent) o)
            (λ n s same. sym (choice-true (is_same n child) (Some parent) s.parent same))
            (λ n o apart. choice-false (is_same n child) (Some parent) o apart) k
            ∙ ap (λ (o : Option NodeKey). cond (is_same k child) (Some parent) o)
            (up-edited old mid parent (inserted place child) (λ s. refl) parent_alive changed others
            (λ n o. o) (λ n s same. refl) (λ n o apart. refl) k);
        below = λ k.
            below-edited mid new child (with_parent (Some parent)) (λ s. refl) child_mid changed_child others_child
            (λ n l. l) (λ n s same. refl) (λ n l apart. refl) k
            ∙ below-edited old mid parent (inserted place child) (λ s. refl) parent_alive changed others
            (λ n l. cond (is_same n parent) (insert l place child) l)
            (λ n s same. sym (choice-true (is_same n parent) (insert s.children place child) s.children same))
            (λ n l apart. choice-false (is_same n parent) (insert l place child) l apart) k;
        alive = λ k. alive-edited mid new child (with_parent (Some parent)) (λ s. refl) child_mid changed_child others_child k ∙ alive_mid k;
      }

  pub IsUnlinked-made : IsForest old → up_at old child ≡ Some parent → alive_at old parent ≡ true → alive_at old child ≡ true
      → get_or mid parent.slot None ≡ option_map (removed child) (get_or old parent.slot None)
      → ((other : ℕ) → other ≢ parent.slot → get_or mid other None ≡ get_or old other None)
      → get_or new child.slot None ≡ option_map (with_parent None) (get_or mid child.slot None)
      → ((other : ℕ) → other ≢ child.slot → get_or new other None ≡ get_or mid other None)
      → IsUnlinked old new child
  IsUnlinked-made forest is_parent parent_alive child_alive changed others changed_child others_child =
      let alive_mid : (k : NodeKey) → alive_at mid k ≡ alive_at old k = alive-edited old mid parent (removed child) (λ s. refl) parent_alive changed others in
      let child_mid : alive_at mid child ≡ true = alive_mid child ∙ child_alive in
      record {
        up = λ k.
            up-edited mid new child (with_parent None) (λ s. refl) child_mid changed_child others_child
            (λ n o. cond (is_same n child) None o)
            (λ n s same. sym (choice-true (is_same n child) None s.parent same))
            (λ n o apart. choice-false (is_same n child) None o apart) k
            ∙ ap (λ (o : Option NodeKey). cond (is_same k child) None o)
            (up-edited old mid parent (removed child) (λ s. refl) parent_alive changed others
            (λ n o. o) (λ n s same. refl) (λ n o apart. refl) k);
        below = λ k.
            below-edited mid new child (with_parent None) (λ s. refl) child_mid changed_child others_child
            (λ n l. l) (λ n s same. refl) (λ n l apart. refl) k
            ∙ below-edited old mid parent (removed child) (λ s. refl) parent_alive changed others
            (λ n l. cond (is_same n parent) (without child l) l)
            (λ n s same. sym (choice-true (is_same n parent) (without child s.children) s.children same))
            (λ n l apart. choice-false (is_same n parent) (without child l) l apart) k
            ∙ everywhere k (cases_Bool (is_same k parent));
        alive = λ k. alive-edited mid new child (with_parent None) (λ s. refl) child_mid changed_child others_child k ∙ alive_mid k;
      }
    where
      everywhere : (k : NodeKey) → (is_same k parent ≡ true) ⊎ (is_same k parent ≡ false)
          → cond (is_same k parent) (without child (below_at old k)) (below_at old k) ≡ without child (below_at old k)
      everywhere k (inl same) = choice-true (is_same k parent) (without child (below_at old k)) (below_at old k) same
      everywhere k (inr apart) =
          choice-false (is_same k parent) (without child (below_at old k)) (below_at old k) apart
          ∙ sym (without-absent child (below_at old k)
          (false_from_ne_true _
          (λ there.
          let e : parent ≡ k = same_Some _ _ (sym is_parent ∙ forest.down child k there) in
          both_ways _ apart (ap (λ (n : NodeKey). is_same n parent) (sym e) ∙ is_same-refl parent))))

-- a topmost node is in no list
pub IsUnlinked-topmost : (old : List (Option Stored)) (child : NodeKey) → IsForest old → up_at old child ≡ None → IsUnlinked old old child
IsUnlinked-topmost old child forest topmost =
    record {
      up = λ k. sym (by_key k (cases_Bool (is_same k child)));
      below = λ k. sym (without-absent child (below_at old k) (false_from_ne_true _ (λ there. none-some k (sym topmost ∙ forest.down child k there))));
      alive = λ k. refl;
    }
  where
    by_key : (k : NodeKey) → (is_same k child ≡ true) ⊎ (is_same k child ≡ false) → cond (is_same k child) None (up_at old k) ≡ up_at old k
    by_key k (inl same) = choice-true (is_same k child) None (up_at old k) same ∙ sym topmost ∙ ap (up_at old) (sym (is_same-true k child same))
    by_key k (inr apart) = choice-false (is_same k child) None (up_at old k) apart

-- a slot is emptied
module _ (old new : List (Option Stored)) (key : NodeKey) (alive : alive_at old key ≡ true)
    (emptied : get_or new key.slot None ≡ None)
    (others : (other : ℕ) → other ≢ key.slot → get_or new other None ≡ get_or old other None) where
  held_birth : (o : Option Stored) (k : NodeKey) → is_some (of_birth key.birth o) ≡ true → k.slot ≡ key.slot → is_same k key ≡ false → of_birth k.birth o ≡ None
  held_birth None k lives here apart = refl
  held_birth (Some stored) k lives here apart =
      elim (cases_Bool (stored.birth == k.birth)) [
        | inl same ↦
            absurd (both_ways _ apart (same_key k key here (sym (eqb-true _ _ same) ∙ birth_of_held key.birth stored lives)))
        | inr other ↦ ap (λ (b : Bool). cond b (Some stored) None) other
      ]

  node_at-freed : (k : NodeKey) → node_at new k ≡ cond (is_same k key) None (node_at old k)
  unfolding node_at alive_at
  node_at-freed k =
      elim (cases_eq k.slot key.slot) [
        | inl here ↦
            ap (λ (s : ℕ). of_birth k.birth (get_or new s None)) here ∙ ap (of_birth k.birth) emptied
            ∙ elim (cases_Bool (is_same k key)) [
              | inl same ↦ sym (choice-true (is_same k key) None (node_at old k) same)
              | inr apart ↦
                  sym
                  (choice-false (is_same k key) None (node_at old k) apart
                  ∙ ap (λ (s : ℕ). of_birth k.birth (get_or old s None)) here
                  ∙ held_birth (get_or old key.slot None) k alive here apart)
            ]
        | inr elsewhere ↦
            let apart : is_same k key ≡ false = is_same-false k key (λ e. elsewhere (ap (λ (n : NodeKey). n.slot) e)) in
            ap (of_birth k.birth) (others k.slot elsewhere) ∙ sym (choice-false (is_same k key) None (node_at old k) apart)
      ]

  pub IsFreed-made : IsFreed old new key
  unfolding up_at below_at alive_at seen_at
  IsFreed-made =
      record {
        up = λ k. ap parent_in (node_at-freed k) ∙ up_of (is_same k key) (node_at old k);
        below = λ k. ap children_in (node_at-freed k) ∙ below_of (is_same k key) (node_at old k);
        alive = λ k. ap is_some (node_at-freed k) ∙ alive_of (is_same k key) (node_at old k);
      }
    where
      up_of : (b : Bool) (o : Option Stored) → parent_in (cond b None o) ≡ cond b None (parent_in o)
      up_of true o = refl
      up_of false o = refl

      below_of : (b : Bool) (o : Option Stored) → children_in (cond b None o) ≡ cond b [] (children_in o)
      below_of true o = refl
      below_of false o = refl

      alive_of : (b : Bool) (o : Option Stored) → is_some (cond b None o) ≡ (is_some o && not b)
      alive_of true None = refl
      alive_of true (Some stored) = refl
      alive_of false None = refl
      alive_of false (Some stored) = refl

-- what is seen in the slots, from who is alive and what stands below
pub seen-changed : (old new : List (Option Stored)) (children : NodeKey → List NodeKey → List NodeKey)
    → ((k : NodeKey) → alive_at new k ≡ alive_at old k) → ((k : NodeKey) → below_at new k ≡ children k (below_at old k))
    → (slot : ℕ) → seen_at new slot ≡ option_map (λ (node : Node). record { key = node.key; children = children node.key node.children }) (seen_at old slot)
seen-changed old new children alive below slot = by_old (seen_at old slot) refl
  where
    by_new : (o : Option Node) → seen_at new slot ≡ o → seen_at old slot ≡ None → o ≡ None
    by_new None is was = refl
    by_new (Some node) is was =
        let lives = (alive_seen new slot node is).0 in
        let there = seen_alive old node.key (sym (alive node.key) ∙ lives) in
        absurd (none-some _ (sym was ∙ ap (seen_at old) (sym (seen_at-slot new slot node is)) ∙ there))

    by_old : (o : Option Node) → seen_at old slot ≡ o
        → seen_at new slot ≡ option_map (λ (node : Node). record { key = node.key; children = children node.key node.children }) o
    by_old None was = by_new (seen_at new slot) refl was
    by_old (Some node) was =
        let known = alive_seen old slot node was in
        let there = seen_alive new node.key (alive node.key ∙ known.0) in
        let kids : below_at new node.key ≡ children node.key node.children = below node.key ∙ ap (children node.key) known.1 in
        let at : List NodeKey → Option Node = λ l. Some (record { key = node.key; children = l }) in
        ap (seen_at new) (sym (seen_at-slot old slot node was)) ∙ there ∙ ap at kids

-- a living node stands in its slot

held_of : (birth : ℕ) (o : Option Stored) → is_some (of_birth birth o) ≡ true → (stored : Stored) × (o ≡ Some stored)
held_of birth None alive = absurd (false≢true alive)
held_of birth (Some stored) alive = (stored, refl)

pub alive_held : (slots : List (Option Stored)) (key : NodeKey) → alive_at slots key ≡ true
    → (stored : Stored) × (get_or slots key.slot None ≡ Some stored)
unfolding alive_at node_at
alive_held slots key alive = held_of key.birth (get_or slots key.slot None) alive

-- a key has no more children than its slot
pub length-below_at : (slots : List (Option Stored)) (key : NodeKey) (stored : Stored) → get_or slots key.slot None ≡ Some stored
    → length (below_at slots key) ≤ length stored.children
unfolding below_at node_at
length-below_at slots key stored held =
    let P : Option Stored → Type 0 = λ o. length (children_in (of_birth key.birth o)) ≤ length stored.children in
    subst P (sym held) (by_birth (stored.birth == key.birth))
  where
    by_birth : (b : Bool) → length (children_in (cond b (Some stored) None)) ≤ length stored.children
    by_birth true = omega arith
    by_birth false = omega arith
