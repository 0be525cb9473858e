-- Rectangles that are added up again, from the root.
use Rattle.std.proofs.Common.{refl, sym, subst, ap, ◌∙◌, ◌≡◌, ◌≢◌, ◌⊎◌, ◌==◌, ◌&&◌, ◌||◌, ℕ, ℤ, zero, suc, ◌+◌, ◌<◌, ◌≤◌, Bool, true, false, not, All, AllPairs, List, Option, None, length, slice_index_or, slice_set, inl, inr, arith}
use Rattle.std.proofs.lemmas.Bool.{cases_lt, eqb-true, eqb-false, true≢false}
use Rattle.std.proofs.lemmas.List.{get_or_default, get_or-map, get_or-set_same, get_or-set_other, length-map, length-set}
use Rattle.std.proofs.Math.Numerals.{lt_of_le_of_ne}
use Rattle.fx_base.specs.declared.geometry.Rect.{Rect}
use Rattle.fx_kinds.specs.declared.facts.BoxFacts.{BoxFacts}
use Rattle.fx_look.specs.declared.looks.Look.{Look}
use Rattle.fx_panes_parts.specs.declared.axes.Extent.{Extent}
use Rattle.fx_panes_parts.specs.declared.axes.Span.{Span}
use Rattle.fx_layout_sweeps.specs.Marks.{AreUnmarked, flag_in}
use Rattle.fx_layout_sweeps.specs.Sweeps.{old_at}
use Rattle.fx_layout_sweeps.specs.Nodes.{AreNodes, children_lists, keys, no_node, node_at, parent_at, parents, places_at, span_at}
use Rattle.fx_layout_sweeps.proofs.Asking.{child_in, lists_long}
use Rattle.fx_layout_sweeps.proofs.Below.{IsChild}
use Rattle.fx_layout_sweeps.proofs.Spreads.{AreKnown}
use Rattle.fx_layout.specs.Keeping.{AreAdded, AreAlike, AreSwept, IsWhole, kept_of}
use Rattle.fx_layout.specs.Updates.{AreDifferent, AreRects, Kept, around, corner, rect_at, shifted}
use Rattle.fx_layout.proofs.One.{of_its_parent}

or_parts : (a b : Bool) → (a || b) ≡ false → (a ≡ false) × (b ≡ false)
or_parts true b e = absurd (true≢false e)
or_parts false b e = (refl, e)

not_false : (b : Bool) → not b ≡ false → b ≡ true
not_false true e = refl
not_false false e = absurd (true≢false e)

-- rectangles with the same four numbers are one
pub alike_same : (one other : Rect) → AreAlike one other → one ≡ other
alike_same one other alike =
    ap (λ x. at x one.y one.w one.h) alike.0
    ∙ (ap (λ y. at other.x y one.w one.h) alike.1
    ∙ (ap (λ w. at other.x other.y w one.h) alike.2 ∙ ap (λ h. at other.x other.y other.w h) alike.3))
  where
    at : ℤ → ℤ → ℤ → ℤ → Rect
    at x y w h = record { x = x; y = y; w = w; h = h }

-- what is marked once a rectangle is put
pub put_marks : (rects : List Rect) (flags after : List Bool) (place q : ℕ) (rect : Rect) (alike : Bool)
    → (alike ≡ true → AreAlike rect (rect_at rects place)) → place < length rects
    → flag_in after q ≡ (flag_in flags q || ((place == q) && not alike)) → flag_in after q ≡ false
    → (flag_in flags q ≡ false) × (rect_at (slice_set rects place rect) q ≡ rect_at rects q)
put_marks rects flags after place q rect alike numbers within is free = by (place == q) refl
  where
    by : (b : Bool) → (place == q) ≡ b
        → (flag_in flags q ≡ false) × (rect_at (slice_set rects place rect) q ≡ rect_at rects q)
    by true same =
        let both : (flag_in flags q || not alike) ≡ false =
        sym (is ∙ ap (λ b. flag_in flags q || (b && not alike)) same) ∙ free in
        let parts = or_parts (flag_in flags q) (not alike) both in (
          parts.0,
          subst (λ m. rect_at (slice_set rects place rect) m ≡ rect_at rects m) (eqb-true place q same)
              (get_or-set_same rects place rect corner within
              ∙ alike_same rect (rect_at rects place) (numbers (not_false alike parts.1))),
        )
    by false differ =
        let both : (flag_in flags q || false) ≡ false =
        sym (is ∙ ap (λ b. flag_in flags q || (b && not alike)) differ) ∙ free in (
          (or_parts (flag_in flags q) false both).0,
          get_or-set_other rects place q rect corner (λ same. eqb-false place q differ (sym same)),
        )

-- the children that stand at the first places are put into a rectangle
pub record IsAddedTo (places : List ℕ) (outer : Rect) (across down : List Span) (before : List Bool) (old : List Rect)
    (flags : List Bool) (now : List Rect) (k : ℕ) : Type 0 where
  pub each : length now ≡ length old
  pub each_flag : length flags ≡ length before
  pub added : (i d : ℕ) → i < k → i < length places → rect_at now (slice_index_or places i d)
      ≡ shifted outer (span_at across (slice_index_or places i d)) (span_at down (slice_index_or places i d))
  pub others : (q : ℕ) → ((i d : ℕ) → i < k → i < length places → slice_index_or places i d ≢ q)
      → rect_at now q ≡ rect_at old q
  pub marks : (q : ℕ) → q < length before → flag_in flags q ≡ false
      → (flag_in before q ≡ false) × (rect_at now q ≡ rect_at old q)

pub added_start : (places : List ℕ) (outer : Rect) (across down : List Span) (before : List Bool) (old : List Rect)
    → IsAddedTo places outer across down before old before old 0
added_start places outer across down before old =
    record {
      each = refl;
      each_flag = refl;
      added = λ i d early within. absurd (omega (arith, early));
      others = λ q apart. refl;
      marks = λ q few free. (free, refl);
    }

pub added_more : (places : List ℕ) (outer : Rect) (across down : List Span) (before : List Bool) (old : List Rect)
    (flags after : List Bool) (now : List Rect) (k d : ℕ) (rect : Rect) → All (λ j. j < length old) places
    → AllPairs (λ x y. x ≢ y) places → k < length places → IsAddedTo places outer across down before old flags now k
    → rect ≡ shifted outer (span_at across (slice_index_or places k d)) (span_at down (slice_index_or places k d))
    → length after ≡ length flags
    → ((q : ℕ) → q < length flags → flag_in after q ≡ false → (flag_in flags q ≡ false)
    × (rect_at (slice_set now (slice_index_or places k d) rect) q ≡ rect_at now q))
    → IsAddedTo places outer across down before old after (slice_set now (slice_index_or places k d) rect) (k + 1)
added_more places outer across down before old flags after now k d rect inside apart within so_far is long marks =
    record {
      each = length-set now at rect ∙ so_far.each;
      each_flag = long ∙ so_far.each_flag;
      added = λ i e early few. added_at i e early few (i == k) refl;
      others = λ q free.
          get_or-set_other now at q rect corner (λ same. free k d (omega arith) within (sym same))
          ∙ so_far.others q (λ i e early few. free i e (omega (arith, early)) few);
      marks = λ q few free.
          let one = marks q (omega (arith, few, so_far.each_flag)) free in
          let other = so_far.marks q few one.0 in (other.0, one.1 ∙ other.1);
    }
  where
    at : ℕ
    at = slice_index_or places k d

    added_at : (i e : ℕ) → i < k + 1 → i < length places → (b : Bool) → (i == k) ≡ b
        → rect_at (slice_set now at rect) (slice_index_or places i e)
        ≡ shifted outer (span_at across (slice_index_or places i e)) (span_at down (slice_index_or places i e))
    added_at i e early few true same =
        let here : slice_index_or places i e ≡ at =
        ap (λ m. slice_index_or places m e) (eqb-true i k same) ∙ get_or_default places k e d within in
        let room : at < length now = subst (λ n. at < n) (sym so_far.each) (inside k d within) in
        subst (λ m. rect_at (slice_set now at rect) m ≡ shifted outer (span_at across m) (span_at down m)) (sym here)
        (get_or-set_same now at rect corner room ∙ is)
    added_at i e early few false differ =
        let less : i < k = lt_of_le_of_ne (omega (arith, early)) (eqb-false i k differ) in
        get_or-set_other now at (slice_index_or places i e) rect corner
        (λ same. apart i k e less within (same ∙ get_or_default places k d e within))
        ∙ so_far.added i e less few

-- the adding up has come to a place: all stands right in the nodes before it, and in those that aren't marked, which have
-- their old rectangles
pub record IsReadded (nodes : List BoxFacts) (children : List (List ℕ)) (across down : List Span) (old : List Rect)
    (flags : List Bool) (rects : List Rect) (p : ℕ) : Type 0 where
  pub each : length rects ≡ length nodes
  pub each_flag : length flags ≡ length nodes
  pub root : rect_at rects 0 ≡ shifted corner (span_at across 0) (span_at down 0)
  pub added : (q : ℕ) → q < length nodes → (q < p) ⊎ (flag_in flags q ≡ false)
      → AreAdded children across down rects (rect_at rects q) q
  pub still : (q : ℕ) → q < length nodes → flag_in flags q ≡ false → rect_at rects q ≡ rect_at old q

pub readded_start : (nodes : List BoxFacts) (children : List (List ℕ)) (across down : List Span)
    (before flags : List Bool) (old : List Rect) (root : Rect) → AreKnown children (length nodes)
    → length old ≡ length nodes → length before ≡ length nodes → length flags ≡ length before → 0 < length nodes
    → root ≡ shifted corner (span_at across 0) (span_at down 0)
    → ((q : ℕ) → q < length nodes → flag_in before q ≡ false → AreAdded children across down old (rect_at old q) q)
    → ((q : ℕ) → q < length before → flag_in flags q ≡ false
    → (flag_in before q ≡ false) × (rect_at (slice_set old 0 root) q ≡ rect_at old q))
    → IsReadded nodes children across down old flags (slice_set old 0 root) 0
readded_start nodes children across down before flags old root known each each_before each_flag some is kept marks =
    record {
      each = length-set old 0 root ∙ each;
      each_flag = each_flag ∙ each_before;
      root = get_or-set_same old 0 root corner (omega (arith, some, each)) ∙ is;
      added = λ q few which. added_at q few which;
      still = λ q few free. (marks q (omega (arith, few, each_before)) free).1;
    }
  where
    added_at : (q : ℕ) → q < length nodes → (q < 0) ⊎ (flag_in flags q ≡ false)
        → AreAdded children across down (slice_set old 0 root) (rect_at (slice_set old 0 root) q) q
    added_at q few (inl early) = absurd (omega (arith, early))
    added_at q few (inr free) =
        λ i d inside.
        let j = slice_index_or (places_at children q) i d in
        let one = marks q (omega (arith, few, each_before)) free in
        get_or-set_other old 0 j root corner (λ same. omega (arith, known.behind q few i d inside, same))
        ∙ (kept q few one.0 i d inside
        ∙ sym (ap (λ (r : Rect). shifted r (span_at across j) (span_at down j)) one.1))

pub readded_idle : (nodes : List BoxFacts) (children : List (List ℕ)) (across down : List Span) (old : List Rect)
    (flags : List Bool) (rects : List Rect) (p m : ℕ) → AreUnmarked flags p m
    → IsReadded nodes children across down old flags rects p → IsReadded nodes children across down old flags rects m
readded_idle nodes children across down old flags rects p m idle readded =
    record {
      each = readded.each;
      each_flag = readded.each_flag;
      root = readded.root;
      added = λ q few which. readded.added q few (sooner q which);
      still = readded.still;
    }
  where
    sooner : (q : ℕ) → (q < m) ⊎ (flag_in flags q ≡ false) → (q < p) ⊎ (flag_in flags q ≡ false)
    sooner q (inr free) = inr free
    sooner q (inl early) = elim (cases_lt q p) [
      | inl before ↦ inl before
      | inr late ↦ inr (idle q late early)
    ]

-- the children of a node are put into its rectangle, and marked where they begin elsewhere then
pub record IsPutInto (nodes : List BoxFacts) (children : List (List ℕ)) (across down : List Span)
    (flags after_flags : List Bool) (rects after : List Rect) (p : ℕ) : Type 0 where
  pub within : p < length nodes
  pub each : length after ≡ length rects
  pub each_flag : length after_flags ≡ length flags
  pub added : All (λ j. rect_at after j ≡ shifted (rect_at rects p) (span_at across j) (span_at down j)) (places_at children p)
  pub others : (q : ℕ) → All (λ j. j ≢ q) (places_at children p) → rect_at after q ≡ rect_at rects q
  pub marks : (q : ℕ) → q < length flags → flag_in after_flags q ≡ false
      → (flag_in flags q ≡ false) × (rect_at after q ≡ rect_at rects q)

pub readded_more : (nodes : List BoxFacts) (children : List (List ℕ)) (across down : List Span) (old : List Rect)
    (flags after_flags : List Bool) (rects after : List Rect) (p : ℕ) → AreKnown children (length nodes)
    → IsReadded nodes children across down old flags rects p
    → IsPutInto nodes children across down flags after_flags rects after p
    → IsReadded nodes children across down old after_flags after (p + 1)
readded_more nodes children across down old flags after_flags rects after p known readded turn =
    record {
      each = turn.each ∙ readded.each;
      each_flag = turn.each_flag ∙ readded.each_flag;
      root = stays 0 (omega arith) ∙ readded.root;
      added = λ q few which. added_at q few which (p == q) refl;
      still = λ q few free.
          let one = turn.marks q (omega (arith, few, readded.each_flag)) free in one.1 ∙ readded.still q few one.0;
    }
  where
    -- what stands up to the place stays
    stays : (q : ℕ) → q ≤ p → rect_at after q ≡ rect_at rects q
    stays q before =
        turn.others q (λ k d few same. omega (arith, known.behind p turn.within k d few, same, before))

    -- a node before the place, or one that isn't marked, has the rectangle that it had
    keeps : (q : ℕ) → q < length nodes → p ≢ q → (q < p + 1) ⊎ (flag_in after_flags q ≡ false)
        → ((q < p) ⊎ (flag_in flags q ≡ false)) × (rect_at after q ≡ rect_at rects q)
    keeps q few differ (inl early) =
        let less : q < p = lt_of_le_of_ne (omega (arith, early)) (λ same. differ (sym same)) in
        (inl less, stays q (omega (arith, less)))
    keeps q few differ (inr free) =
        let one = turn.marks q (omega (arith, few, readded.each_flag)) free in (inr one.0, one.1)

    added_at : (q : ℕ) → q < length nodes → (q < p + 1) ⊎ (flag_in after_flags q ≡ false) → (b : Bool) → (p == q) ≡ b
        → AreAdded children across down after (rect_at after q) q
    added_at q few which true same =
        subst (λ k. AreAdded children across down after (rect_at after k) k) (eqb-true p q same)
        (subst (λ (r : Rect). AreAdded children across down after r p) (sym (stays p (omega arith))) turn.added)
    added_at q few which false differ =
        λ i d inside.
        let j = slice_index_or (places_at children q) i d in
        let apart : p ≢ q = eqb-false p q differ in
        let now = keeps q few apart which in
        turn.others j (λ k e there same. known.apart p q turn.within few apart k i e d there inside same)
        ∙ (readded.added q few now.0 i d inside
        ∙ sym (ap (λ (r : Rect). shifted r (span_at across j) (span_at down j)) now.1))

pub readded_all : (nodes : List BoxFacts) (children : List (List ℕ)) (across down : List Span) (old : List Rect)
    (flags : List Bool) (rects : List Rect) (p : ℕ) → AreNodes nodes → children ≡ children_lists (parents nodes)
    → length nodes ≤ p → IsReadded nodes children across down old flags rects p → AreRects nodes across down rects
readded_all nodes children across down old flags rects p are hung done readded =
    record {
      each = readded.each;
      placed = λ q within. placed_at q within;
    }
  where
    up_at : (q : ℕ) → q < length nodes → parent_at (parents nodes) q ≡ (node_at nodes q).parent
    up_at q within = get_or-map (λ (n : BoxFacts). n.parent) nodes q no_node None within

    placed_at : (q : ℕ) → q < length nodes
        → rect_at rects q ≡ shifted (around rects (node_at nodes q).parent) (span_at across q) (span_at down q)
    placed_at zero within =
        readded.root
        ∙ ap (λ (o : Option ℕ). shifted (around rects o) (span_at across 0) (span_at down 0))
        (sym are.tree.root ∙ up_at 0 within)
    placed_at (suc q) within =
        let long : length (parents nodes) ≡ length nodes = length-map nodes (λ (n : BoxFacts). n.parent) in
        let up = are.tree.below (suc q) (omega arith) (omega (arith, long, within)) in
        let there : up.0 < length nodes = omega (arith, up.2, within) in
        of_its_parent nodes children hung
        (λ j. rect_at rects j ≡ shifted (rect_at rects up.0) (span_at across j) (span_at down j)) up.0 (suc q) there within
        up.1 (readded.added up.0 there (inl (omega (arith, there, done))))
        ∙ ap (λ (o : Option ℕ). shifted (around rects o) (span_at across (suc q)) (span_at down (suc q)))
        (sym up.1 ∙ up_at (suc q) within)

-- rectangles that are added up stand in their parents' ones
pub added_in : (nodes : List BoxFacts) (children : List (List ℕ)) (across down : List Span) (rects : List Rect)
    → AreNodes nodes → children ≡ children_lists (parents nodes) → AreRects nodes across down rects → (p : ℕ)
    → p < length nodes → AreAdded children across down rects (rect_at rects p) p
added_in nodes children across down rects are hung placed p within i d few =
    let j = slice_index_or (places_at children p) i d in
    let child : IsChild (parents nodes) p j = child_in nodes children are hung p within i d few in
    let long : length (parents nodes) ≡ length nodes = length-map nodes (λ (n : BoxFacts). n.parent) in
    let there : j < length nodes = omega (arith, child.within, long) in
    placed.placed j there
    ∙ ap (λ (o : Option ℕ). shifted (around rects o) (span_at across j) (span_at down j))
    (sym (get_or-map (λ (n : BoxFacts). n.parent) nodes j no_node None there) ∙ child.up)

-- what was swept fits together with rectangles that are added up of it
pub whole_of : (old : Kept) (nodes : List BoxFacts) (looks : List Look) (window : Option (ℕ × ℕ)) (listed : List ℕ)
    (widths heights : List Extent) (across down : List Span) (marks : List Bool) (rects : List Rect) → AreNodes nodes
    → AreDifferent (keys nodes) → AreSwept old nodes looks window listed widths heights across down marks
    → AreRects nodes across down rects → IsWhole (kept_of nodes widths heights across down rects)
whole_of old nodes looks window listed widths heights across down marks rects are different swept added =
    record {
      keys = different;
      widths = swept.each_width ∙ long;
      heights = swept.each_height ∙ long;
      across = swept.each_across ∙ long;
      down = swept.each_down ∙ long;
      rects = added.each ∙ long;
      added = λ p within. added_in nodes (children_lists (parents nodes)) across down rects are refl added p
          (omega (arith, within, long));
    }
  where
    long : length nodes ≡ length (children_lists (parents nodes))
    long = sym (lists_long nodes (children_lists (parents nodes)) refl)

-- one more node is marked where its rectangle is another than before
pub changed_more : (olds : List ℕ) (before rects : List Rect) (marks : List Bool) (k d : ℕ) (same : Bool)
    → k < length olds → length marks ≡ length olds → (same ≡ true → slice_index_or olds k d < length before)
    → (same ≡ true → AreAlike (rect_at rects k) (rect_at before (slice_index_or olds k d)))
    → ((p : ℕ) → p < k → flag_in marks p ≡ false
    → (old_at olds p < length before) × (rect_at rects p ≡ rect_at before (old_at olds p)))
    → (p : ℕ) → p < k + 1 → flag_in (slice_set marks k (not same)) p ≡ false
    → (old_at olds p < length before) × (rect_at rects p ≡ rect_at before (old_at olds p))
changed_more olds before rects marks k d same within each there alike so_far p early free = by (p == k) refl
  where
    by : (b : Bool) → (p == k) ≡ b
        → (old_at olds p < length before) × (rect_at rects p ≡ rect_at before (old_at olds p))
    by true here =
        let at : p ≡ k = eqb-true p k here in
        let unmarked : not same ≡ false =
        sym (get_or-set_same marks k (not same) false (omega (arith, within, each)))
        ∙ (ap (flag_in (slice_set marks k (not same))) (sym at) ∙ free) in
        let is = not_false same unmarked in
        let stood : slice_index_or olds k d ≡ old_at olds k = get_or_default olds k d 0 within in
        subst (λ q. (old_at olds q < length before) × (rect_at rects q ≡ rect_at before (old_at olds q))) (sym at)
        (subst (λ o. (o < length before) × (rect_at rects k ≡ rect_at before o)) stood
        (there is, alike_same (rect_at rects k) (rect_at before (slice_index_or olds k d)) (alike is)))
    by false other =
        so_far p (lt_of_le_of_ne (omega (arith, early)) (eqb-false p k other))
        (sym (get_or-set_other marks k p (not same) false (eqb-false p k other)) ∙ free)
