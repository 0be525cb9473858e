-- A subtree is freed leaf by leaf: what holds from leaf to leaf, and what is left at the end.
use Rattle.std.proofs.Common.{◌≡◌, ◌≢◌, ℕ, ◌+◌, ◌<◌, ◌≤◌, Bool, true, false, cond, ◌||◌, List, [], ◌∷◌, length, Option, Some, None, is_some, unwrap_or, count_by, refl, sym, ◌∙◌, ap, subst, inl, inr, arith}
use Rattle.std.proofs.lemmas.Bool.{cases_Bool, false≢true, both_ways, or_cases, or_right, false_from_ne_true}
use Rattle.std.proofs.lemmas.Option.{none-some, same_Some}
use Rattle.fx_base.specs.declared.keys.NodeKey.{NodeKey}
use Rattle.fx_tree.specs.declared.nodes.Stored.{Stored}
use Rattle.fx_tree.specs.Scene.{Node, is_same, has, without, line_in, IsLine}
use Rattle.fx_tree.specs.Refusals.{is_held}
use Rattle.fx_tree.specs.Slots.{alive_at, up_at, below_at, line_at, seen_at, IsForest, IsNumbered, IsTopmost, IsUnlinked, IsFreed, IsPruned}
use Rattle.fx_tree.proofs.Keys.{is_same-refl, is_same-true, is_same-false, is_same-sym, has-cons, has-nil, without-absent}
use Rattle.fx_tree.proofs.Lines.{line_is, line_in-more}
use Rattle.fx_tree.proofs.Walks.{deep}
use Rattle.fx_tree.proofs.Listing.{seen_at-slot, seen_alive, alive_seen, alive_below}
use Rattle.fx_tree.proofs.Forest.{line_known, IsForest-unlinked, IsTopmost-unlinked, IsForest-freed, IsTopmost-freed, IsNumbered-edited, IsNumbered-freed, lives_still, lived_before}

pub record IsPruning (old now : List (Option Stored)) (top : NodeKey) : Type 0 where
  pub forest : IsForest now
  pub ups : (key : NodeKey) → alive_at now key ≡ true → up_at now key ≡ up_at old key
  pub before : (key : NodeKey) → alive_at now key ≡ true → alive_at old key ≡ true
  pub outside : (key : NodeKey) → alive_at old key ≡ true → has (line_at old key) top ≡ false
      → (alive_at now key ≡ true) × (below_at now key ≡ below_at old key)
  pub topmost : (root : Option NodeKey) → is_held root top ≡ false → IsTopmost old root → IsTopmost now root
  pub numbered : (born : ℕ) → IsNumbered old born → IsNumbered now born
  pub fewer : count_by is_some now ≤ count_by is_some old

pub IsPruning-start : (slots : List (Option Stored)) (top : NodeKey) → IsForest slots → IsPruning slots slots top
IsPruning-start slots top forest =
    record {
      forest = forest;
      ups = λ key alive. refl;
      before = λ key alive. alive;
      outside = λ key alive apart. (alive, refl);
      topmost = λ root other is. is;
      numbered = λ born is. is;
      fewer = omega arith;
    }

module _ (old now : List (Option Stored)) (forest : IsForest now)
    (ups : (key : NodeKey) → alive_at now key ≡ true → up_at now key ≡ up_at old key) where
  -- the line of a living node is the one that it had
  line_agrees : (keys : List NodeKey) (key : NodeKey) → alive_at now key ≡ true → IsLine (up_at now) (Some key) keys → IsLine (up_at old) (Some key) keys
  unfolding IsLine
  line_agrees [] key alive line = absurd line
  line_agrees (x ∷ rest) key alive line =
      let lives : alive_at now x ≡ true = ap (alive_at now) line.0 ∙ alive in
      let P : Option NodeKey → Type 0 = λ o. IsLine (up_at old) o rest in
      (line.0, subst P (ups x lives) (by_parent (up_at now x) refl line.1 (λ parent is further. line_agrees rest parent (alive_below now x parent (forest.up x parent is)) further)))
    where
      by_parent : (o : Option NodeKey) → up_at now x ≡ o → IsLine (up_at now) o rest
          → ((parent : NodeKey) → up_at now x ≡ Some parent → IsLine (up_at now) (Some parent) rest → IsLine (up_at old) (Some parent) rest)
          → IsLine (up_at old) o rest
      by_parent None is further each = none_line rest further
        where
          none_line : (r : List NodeKey) → IsLine (up_at now) None r → IsLine (up_at old) None r
          none_line [] l = tt
          none_line (y ∷ ys) l = absurd l
      by_parent (Some parent) is further each = each parent is further

  pub line_kept : (key : NodeKey) → alive_at now key ≡ true → line_at old key ≡ line_at now key
  line_kept key alive =
      let found = forest.lines key in
      line_is 64 (up_at old) (Some key) found.0 (line_agrees found.0 key alive found.2) found.1
      ∙ sym (line_is 64 (up_at now) (Some key) found.0 found.2 found.1)

  -- who lives has a living line
  line_lives : (keys : List NodeKey) (key member : NodeKey) → alive_at now key ≡ true → IsLine (up_at now) (Some key) keys → has keys member ≡ true → alive_at now member ≡ true
  unfolding IsLine has
  line_lives [] key member alive line there = absurd line
  line_lives (x ∷ rest) key member alive line there =
      elim (cases_Bool (is_same x member)) [
        | inl same ↦ ap (alive_at now) (sym (is_same-true x member same) ∙ line.0) ∙ alive
        | inr apart ↦
            by_parent (up_at now x) refl line.1 (sym (ap (λ (b : Bool). b || has rest member) apart) ∙ there)
            (λ parent is further there_rest. line_lives rest parent member (alive_below now x parent (forest.up x parent is)) further there_rest)
      ]
    where
      by_parent : (o : Option NodeKey) → up_at now x ≡ o → IsLine (up_at now) o rest → has rest member ≡ true
          → ((parent : NodeKey) → up_at now x ≡ Some parent → IsLine (up_at now) (Some parent) rest → has rest member ≡ true → alive_at now member ≡ true)
          → alive_at now member ≡ true
      by_parent None is further there_rest each = absurd (no_line rest further there_rest)
        where
          no_line : (r : List NodeKey) → IsLine (up_at now) None r → has r member ≡ true → ⊥
          no_line [] l h = false≢true h
          no_line (y ∷ ys) l h = l
      by_parent (Some parent) is further there_rest each = each parent is further there_rest

-- the line of a child is the child and the parent's line
pub line_of_child : (slots : List (Option Stored)) → IsForest slots → (key parent : NodeKey) → up_at slots key ≡ Some parent
    → line_at slots key ≡ key ∷ line_at slots parent
unfolding IsLine
line_of_child slots forest key parent is = by_line (forest.lines key).0 (forest.lines key).1 (forest.lines key).2
  where
    by_line : (keys : List NodeKey) → length keys ≤ 64 → IsLine (up_at slots) (Some key) keys → line_at slots key ≡ key ∷ line_at slots parent
    by_line [] few line = absurd line
    by_line (x ∷ rest) few line =
        let P : Option NodeKey → Type 0 = λ o. IsLine (up_at slots) o rest in
        let above : IsLine (up_at slots) (Some parent) rest = subst P (ap (up_at slots) line.0 ∙ is) line.1 in
        line_is 64 (up_at slots) (Some key) (x ∷ rest) line few
        ∙ ap (λ (first : NodeKey). first ∷ rest) line.0
        ∙ ap (λ (tail : List NodeKey). key ∷ tail) (sym (line_is 64 (up_at slots) (Some parent) rest above (omega (arith, few))))

-- the line of a topmost node has that node alone
top_line : (slots : List (Option Stored)) (key member : NodeKey) (keys : List NodeKey) → up_at slots key ≡ None
    → IsLine (up_at slots) (Some key) keys → has keys member ≡ true → is_same key member ≡ true
unfolding IsLine has
top_line slots key member [] ends line there = absurd line
top_line slots key member (x ∷ rest) ends line there =
    elim (cases_Bool (is_same x member)) [
      | inl same ↦ ap (λ (n : NodeKey). is_same n member) (sym line.0) ∙ same
      | inr apart ↦
          let P : Option NodeKey → Type 0 = λ o. IsLine (up_at slots) o rest in
          absurd (no_line rest (subst P (ap (up_at slots) line.0 ∙ ends) line.1) (sym (ap (λ (b : Bool). b || has rest member) apart) ∙ there))
    ]
  where
    no_line : (r : List NodeKey) → IsLine (up_at slots) None r → has r member ≡ true → ⊥
    no_line [] l h = false≢true h
    no_line (y ∷ ys) l h = l

-- where the next way down begins: at a living node of the subtree, while the top lives
abbrev pub IsResting : List (Option Stored) → NodeKey → NodeKey → Type 0
IsResting now top at = alive_at now top ≡ true → (alive_at now at ≡ true) × (has (line_at now at) top ≡ true)

-- what stands below a node of the subtree stands in the subtree
pub still_within : (slots : List (Option Stored)) → IsForest slots → (leaf at top : NodeKey)
    → has (line_at slots leaf) at ≡ true → has (line_at slots at) top ≡ true → has (line_at slots leaf) top ≡ true
still_within slots forest leaf at top there above =
    deep (up_at slots) at top (line_at slots at) (line_known slots forest at) above (Some leaf) (line_at slots leaf) (line_known slots forest leaf) there

module _ (old now mid new : List (Option Stored)) (top leaf : NodeKey) (pruning : IsPruning old now top)
    (topmost : up_at old top ≡ None)
    (alive : alive_at now leaf ≡ true) (within : has (line_at now leaf) top ≡ true) (bare : below_at now leaf ≡ [])
    (unlinked : IsUnlinked now mid leaf) (freed : IsFreed mid new leaf)
    (count_mid : count_by is_some mid ≡ count_by is_some now) (count_new : count_by is_some new + 1 ≡ count_by is_some mid) where
  mid_forest : IsForest mid
  mid_forest = IsForest-unlinked now mid leaf pruning.forest unlinked

  mid_topmost : up_at mid leaf ≡ None
  mid_topmost = unlinked.up leaf ∙ ap (λ (b : Bool). cond b None (up_at now leaf)) (is_same-refl leaf)

  mid_bare : below_at mid leaf ≡ []
  mid_bare = unlinked.below leaf ∙ ap (without leaf) bare

  mid_alive : alive_at mid leaf ≡ true
  mid_alive = unlinked.alive leaf ∙ alive

  -- the leaf stood below the top before
  leaf_within : has (line_at old leaf) top ≡ true
  leaf_within = ap (λ (l : List NodeKey). has l top) (line_kept old now pruning.forest pruning.ups leaf alive) ∙ within

  lived : (key : NodeKey) → alive_at new key ≡ true → (alive_at now key ≡ true) × (is_same key leaf ≡ false)
  lived key is =
      let parts = lived_before mid new leaf mid_forest freed mid_topmost mid_bare key is in
      (sym (unlinked.alive key) ∙ parts.0, parts.1)

  step_outside : (key : NodeKey) → alive_at old key ≡ true → has (line_at old key) top ≡ false
      → (alive_at new key ≡ true) × (below_at new key ≡ below_at old key)
  step_outside key lives apart =
      let kept = pruning.outside key lives apart in
      let other : is_same key leaf ≡ false = is_same-false key leaf (λ e. both_ways _ apart (ap (λ (n : NodeKey). has (line_at old n) top) e ∙ leaf_within)) in
      let absent : has (below_at now key) leaf ≡ false =
      false_from_ne_true _
      (λ there.
      let is : up_at now leaf ≡ Some key = pruning.forest.down leaf key there in
      let long : has (leaf ∷ line_at now key) top ≡ true = sym (ap (λ (l : List NodeKey). has l top) (line_of_child now pruning.forest leaf key is)) ∙ within in
      elim (or_cases (is_same leaf top) (has (line_at now key) top) (sym (has-cons leaf (line_at now key) top) ∙ long)) [
        | inl same ↦
            none-some key (sym topmost ∙ ap (up_at old) (sym (is_same-true leaf top same)) ∙ sym (pruning.ups leaf alive) ∙ is)
        | inr above ↦
            both_ways _ apart (ap (λ (l : List NodeKey). has l top) (line_kept old now pruning.forest pruning.ups key kept.0) ∙ above)
      ]) in (
        lives_still mid new leaf mid_forest freed mid_topmost mid_bare key (unlinked.alive key ∙ kept.0) other,
        freed.below key ∙ ap (λ (b : Bool). cond b [] (below_at mid key)) other ∙ unlinked.below key ∙ without-absent leaf (below_at now key) absent ∙ kept.1,
      )

  pub IsPruning-more : IsPruning old new top
  IsPruning-more =
      record {
        forest = IsForest-freed mid new leaf mid_forest freed mid_topmost mid_bare;
        ups = λ key is.
            let before = lived key is in
            freed.up key ∙ ap (λ (b : Bool). cond b None (up_at mid key)) before.1
            ∙ unlinked.up key ∙ ap (λ (b : Bool). cond b None (up_at now key)) before.1
            ∙ pruning.ups key before.0;
        before = λ key is. pruning.before key (lived key is).0;
        outside = step_outside;
        topmost = λ root other was.
            let is_now = pruning.topmost root other was in
            IsTopmost-freed mid new leaf mid_forest freed mid_topmost mid_bare root
            (λ e. root_apart root other is_now e)
            (IsTopmost-unlinked now mid leaf pruning.forest unlinked root is_now);
        numbered = λ born was.
            IsNumbered-freed mid new leaf mid_forest freed mid_topmost mid_bare mid_alive born count_new
            (IsNumbered-edited now mid (λ n l. without leaf l) unlinked.alive unlinked.below pruning.forest.single born count_mid (pruning.numbered born was));
        fewer = let few : count_by is_some now ≤ count_by is_some old = pruning.fewer in omega (arith, few, count_mid, count_new);
      }
    where
      alone : (keys : List NodeKey) → up_at now leaf ≡ None → IsLine (up_at now) (Some leaf) keys → has keys top ≡ true → is_same leaf top ≡ true
      alone keys is line there = top_line now leaf top keys is line there

      root_apart : (root : Option NodeKey) → is_held root top ≡ false → IsTopmost now root → root ≡ Some leaf → ⊥
      root_apart root other is_now e =
          let ends = (is_now leaf e).1 in
          let same : is_same leaf top ≡ true = alone (line_at now leaf) ends (line_known now pruning.forest leaf) within in
          both_ways _ (sym (ap (λ (o : Option NodeKey). is_held o top) e) ∙ other) same

  -- the next way down begins at the leaf's parent
  pub resting : IsResting new top (unwrap_or (up_at now leaf) leaf)
  resting lives = by_up (up_at now leaf) refl
    where
      by_up : (o : Option NodeKey) → up_at now leaf ≡ o → (alive_at new (unwrap_or o leaf) ≡ true) × (has (line_at new (unwrap_or o leaf)) top ≡ true)
      by_up None is =
          let same : is_same leaf top ≡ true = top_line now leaf top (line_at now leaf) is (line_known now pruning.forest leaf) within in
          absurd (both_ways _ (lived top lives).1 (is_same-sym top leaf ∙ same))
      by_up (Some parent) is =
          let there = pruning.forest.up leaf parent is in
          let apart : is_same parent leaf ≡ false =
          is_same-false parent leaf
          (λ e. both_ways _ (has-nil leaf) (sym (ap (λ (l : List NodeKey). has l leaf) (ap (below_at now) e ∙ bare)) ∙ there)) in
          let before = alive_below now leaf parent there in
          let lives_new = lives_still mid new leaf mid_forest freed mid_topmost mid_bare parent (unlinked.alive parent ∙ before) apart in
          let long : has (leaf ∷ line_at now parent) top ≡ true =
          sym (ap (λ (l : List NodeKey). has l top) (line_of_child now pruning.forest leaf parent is)) ∙ within in (
            lives_new,
            elim (or_cases (is_same leaf top) (has (line_at now parent) top) (sym (has-cons leaf (line_at now parent) top) ∙ long)) [
              | inl same ↦
                  absurd (none-some parent (sym topmost ∙ ap (up_at old) (sym (is_same-true leaf top same)) ∙ sym (pruning.ups leaf alive) ∙ is))
              | inr above ↦
                  ap (λ (l : List NodeKey). has l top)
                  (sym (line_kept old new IsPruning-more.forest IsPruning-more.ups parent lives_new)
                  ∙ line_kept old now pruning.forest pruning.ups parent before)
                  ∙ above
            ],
          )

-- the top isn't alive at the end

module _ (old new : List (Option Stored)) (top : NodeKey) (old_forest : IsForest old) (pruning : IsPruning old new top) (dead : alive_at new top ≡ false) where
  -- what is seen at the end was seen, and stood outside
  seen_outside : (slot : ℕ) (node : Node) → seen_at new slot ≡ Some node
      → (was : Node) × (seen_at old slot ≡ Some was) × (has (line_at old was.key) top ≡ false)
  seen_outside slot node is =
      let lives = (alive_seen new slot node is).0 in
      let there = seen_alive old node.key (pruning.before node.key lives) in (
        record { key = node.key; children = below_at old node.key },
        ap (seen_at old) (sym (seen_at-slot new slot node is)) ∙ there,
        false_from_ne_true _
            (λ within.
            both_ways _ dead
            (line_lives old new pruning.forest pruning.ups (line_at new node.key) node.key top lives (line_known new pruning.forest node.key)
            (sym (ap (λ (l : List NodeKey). has l top) (line_kept old new pruning.forest pruning.ups node.key lives)) ∙ within))),
      )

  gone_at : (slot : ℕ) (node : Node) → seen_at old slot ≡ Some node → has (line_at old node.key) top ≡ true → seen_at new slot ≡ None
  gone_at slot node was within = by_new (seen_at new slot) refl
    where
      by_new : (o : Option Node) → seen_at new slot ≡ o → o ≡ None
      by_new None is = refl
      by_new (Some shown) is =
          let before = seen_outside slot shown is in
          let e : before.0 ≡ node = same_Some _ _ (sym before.1 ∙ was) in
          absurd (both_ways _ before.2 (ap (λ (n : Node). has (line_at old n.key) top) e ∙ within))

  kept_at : (slot : ℕ) → ((node : Node) → seen_at old slot ≡ Some node → has (line_at old node.key) top ≡ false) → seen_at new slot ≡ seen_at old slot
  kept_at slot apart = by_old (seen_at old slot) refl
    where
      by_new : (o : Option Node) → seen_at new slot ≡ o → seen_at old slot ≡ None → o ≡ None
      by_new None is was = refl
      by_new (Some shown) is was = let before = seen_outside slot shown is in absurd (none-some before.0 (sym was ∙ before.1))

      by_old : (o : Option Node) → seen_at old slot ≡ o → seen_at new slot ≡ o
      by_old None was = by_new (seen_at new slot) refl was
      by_old (Some node) was =
          let known = alive_seen old slot node was in
          let kept = pruning.outside node.key known.0 (apart node was) in
          let at : List NodeKey → Option Node = λ l. Some (record { key = node.key; children = l }) in
          ap (seen_at new) (sym (seen_at-slot old slot node was)) ∙ seen_alive new node.key kept.0 ∙ ap at (kept.1 ∙ known.1)

  pub IsPruned-end : IsPruned old new top
  IsPruned-end =
      record {
        forest = pruning.forest;
        gone = gone_at;
        kept = kept_at;
        topmost = pruning.topmost;
        numbered = pruning.numbered;
        fewer = pruning.fewer;
      }

-- the first child of a node of the subtree stands deeper in it
pub leaf_step : (slots : List (Option Stored)) (key at child : NodeKey) (i : ℕ) → IsForest slots
    → has (line_at slots at) key ≡ true → i < length (line_at slots at) → has (below_at slots at) child ≡ true
    → (alive_at slots child ≡ true) × (has (line_at slots child) key ≡ true) × (i + 1 < length (line_at slots child))
leaf_step slots key at child i forest within deep there =
    let is = forest.down child at there in
    let longer = line_of_child slots forest child at is in
    let e : length (line_at slots child) ≡ length (child ∷ line_at slots at) = ap length longer in (
      forest.held child at there,
      ap (λ (l : List NodeKey). has l key) longer ∙ has-cons child (line_at slots at) key ∙ or_right (is_same child key) (has (line_at slots at) key) within,
      omega (arith, e, deep),
    )

pub leaf_start : (slots : List (Option Stored)) (key : NodeKey) → (has (line_at slots key) key ≡ true) × (0 < length (line_at slots key))
leaf_start slots key =
    let begins = line_in-more 63 (up_at slots) key in
    let e : length (line_at slots key) ≡ length (key ∷ line_in 63 (up_at slots) (up_at slots key)) = ap length begins in (
      ap (λ (l : List NodeKey). has l key) begins ∙ has-cons key (line_in 63 (up_at slots) (up_at slots key)) key
          ∙ ap (λ (b : Bool). b || has (line_in 63 (up_at slots) (up_at slots key)) key) (is_same-refl key),
      omega (arith, e),
    )
