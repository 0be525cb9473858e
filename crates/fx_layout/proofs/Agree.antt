-- Where all that isn't listed is as it was, an update of a layout is the layout.
use Rattle.std.proofs.Common.{refl, sym, subst, ap, ◌∙◌, ◌≡◌, ℕ, ◌<◌, Bool, true, false, ◌||◌, not, nat_eq, eqb, MatchBool, All, List, [], ◌∷◌, Option, length, map, slice_index_or, inl, inr, arith}
use Rattle.std.proofs.lemmas.Bool.{and_from, cases_Bool, eqb-true, eq-eqb, true≢false}
use Rattle.std.proofs.lemmas.List.{ext_get_or, get_or-map, length-map, map-id}
use Rattle.std.proofs.lemmas.List.Elements.{All-weaker}
use Rattle.std.proofs.lemmas.List.FromFn.{get_or-map-range_with_len, length-map-range_with_len}
use Rattle.fx_base.specs.declared.facts.ChildSize.{ChildSize}
use Rattle.fx_base.specs.declared.keys.NodeKey.{NodeKey}
use Rattle.fx_kinds.specs.declared.facts.BoxFacts.{BoxFacts}
use Rattle.fx_look.specs.declared.looks.Look.{Look}
use Rattle.fx_panes_parts.specs.declared.axes.Axis.{Axis}
use Rattle.fx_panes_parts.specs.declared.axes.Axis.TheVariants.{Across, Down}
use Rattle.fx_panes_parts.specs.declared.axes.Extent.{Extent}
use Rattle.fx_panes_parts.specs.declared.axes.Span.{Span}
use Rattle.fx_layout_parts.specs.declared.rules.NodeBox.{NodeBox}
use Rattle.fx_layout_parts.specs.declared.rules.Rule.{Rule}
use Rattle.fx_layout_parts.specs.Children.{child_of}
use Rattle.fx_layout_sweeps.specs.Nodes.{AreNodes, box_at, child_at, children_of, extent_at, keys, no_node, node_at, nowhere, parents, places_at, seen, span_at}
use Rattle.fx_layout_sweeps.specs.Sweeps.{ArePlaced, IsMeasured, fitted, is_worked, kept_in, last_in, old_at, spans_along, spans_for}
use Rattle.fx_layout_sweeps.proofs.Below.{IsChild, children_known, lists_at}
use Rattle.fx_layout_sweeps.proofs.Turns.{map_same}
use Rattle.fx_layout.specs.Updates.{AreDifferent, IsUpdate, Kept, is_key, is_listed, is_wide_anew, old_place, old_places}
use Rattle.fx_layout.specs.Layouts.{AreSame, IsLayout, apart}
use Rattle.fx_layout.proofs.Olds.{old_place_is}

-- an update, and what it stands on
pub record Step : Type 0 where
  pub olds : List BoxFacts
  pub old_looks : List Look
  pub old_window : Option (ℕ × ℕ)
  pub nodes : List BoxFacts
  pub looks : List Look
  pub window : Option (ℕ × ℕ)
  pub listed : List ℕ
  pub old : Kept
  pub new : Kept

pub record IsNext (s : Step) : Type 0 where
  pub old_tree : AreNodes s.olds
  pub old_keys : AreDifferent (keys s.olds)
  pub tree : AreNodes s.nodes
  pub was : IsLayout s.olds s.old_looks s.old_window s.old
  pub same : AreSame s.olds s.old_looks s.nodes s.looks s.listed
  pub update : IsUpdate s.old s.nodes s.looks s.window s.listed s.new

abbrev olds_in : Step → List ℕ
olds_in s = old_places s.old.keys s.nodes

-- where a node stood
abbrev stood : Step → ℕ → ℕ
stood s p = old_place (keys s.olds) (node_at s.nodes p).key

abbrev kids : Step → ℕ → List ℕ
kids s p = places_at s.new.children p

abbrev old_kids : Step → ℕ → List ℕ
old_kids s p = places_at s.old.children (stood s p)

or_false : (a b : Bool) → (a || b) ≡ false → (a ≡ false) × (b ≡ false)
or_false true b e = absurd (true≢false e)
or_false false b e = (refl, e)

same_number : (x y : ℕ) → not (nat_eq x y) ≡ false → x ≡ y
same_number x y e = elim (cases_Bool (nat_eq x y)) [
  | inl hit ↦ eqb-true x y hit
  | inr miss ↦ absurd (true≢false (sym (ap not miss) ∙ e))
]

pub key_is : (k : NodeKey) → is_key k k ≡ true
key_is k = and_from (eqb k.slot k.slot) (eqb k.birth k.birth) (eq-eqb k.slot k.slot refl) (eq-eqb k.birth k.birth refl)

-- a node's own key stands at its place
pub own_place : (olds : List BoxFacts) → AreDifferent (keys olds) → (d : ℕ) → d < length olds
    → old_place (keys olds) (node_at olds d).key ≡ d
own_place olds differ d within =
    let key = (node_at olds d).key in
    let read : slice_index_or (keys olds) d key ≡ key = get_or-map (λ (n : BoxFacts). n.key) olds d no_node key within in
    old_place_is (keys olds) key d differ (subst (λ n. d < n) (sym (length-map olds (λ (n : BoxFacts). n.key))) within)
    (subst (λ (k : NodeKey). is_key k key ≡ true) (sym read) (key_is key))

old_is : (s : Step) → IsNext s → (p : ℕ) → p < length s.nodes → old_at (olds_in s) p ≡ stood s p
old_is s g p within =
    get_or-map (λ (n : BoxFacts). old_place s.old.keys n.key) s.nodes p no_node 0 within
    ∙ ap (λ (ks : List NodeKey). old_place ks (node_at s.nodes p).key) g.was.keys

kids_are : (s : Step) → IsNext s → (p : ℕ) → p < length s.nodes → kids s p ≡ children_of (parents s.nodes) p
kids_are s g p within =
    ap (λ (l : List (List ℕ)). places_at l p) g.update.children
    ∙ lists_at (parents s.nodes) p (subst (λ n. p < n) (sym (length-map s.nodes (λ (n : BoxFacts). n.parent))) within)

old_kids_are : (s : Step) → IsNext s → (p : ℕ) → stood s p < length s.olds
    → old_kids s p ≡ children_of (parents s.olds) (stood s p)
old_kids_are s g p there =
    ap (λ (l : List (List ℕ)). places_at l (stood s p)) g.was.children
    ∙ lists_at (parents s.olds) (stood s p)
    (subst (λ n. stood s p < n) (sym (length-map s.olds (λ (n : BoxFacts). n.parent))) there)

kids_within : (s : Step) → IsNext s → (p : ℕ) → p < length s.nodes → All (λ j. j < length s.nodes) (kids s p)
kids_within s g p within =
    subst (λ (l : List ℕ). All (λ j. j < length s.nodes) l) (sym (kids_are s g p within))
    (All-weaker (λ j. IsChild (parents s.nodes) p j) (λ j. j < length s.nodes)
    (λ j child. subst (λ n. j < n) (length-map s.nodes (λ (n : BoxFacts). n.parent)) child.within)
    (children_of (parents s.nodes) p) (children_known (parents s.nodes) g.tree.tree p))

kids_unlisted : (s : Step) → IsNext s → (p : ℕ) → p < length s.nodes → is_listed s.listed p ≡ false
    → All (λ j. is_listed s.listed j ≡ false) (kids s p)
kids_unlisted s g p within free =
    let same = g.same p within free in
    let long : length (parents s.nodes) ≡ length s.nodes = length-map s.nodes (λ (n : BoxFacts). n.parent) in
    subst (λ (l : List ℕ). All (λ j. is_listed s.listed j ≡ false) l) (sym (kids_are s g p within))
    (All-weaker (λ j. IsChild (parents s.nodes) p j) (λ j. is_listed s.listed j ≡ false)
    (λ j child.
    let few : j < length s.nodes = subst (λ n. j < n) long child.within in
    same.below j few (sym (get_or-map (λ (n : BoxFacts). n.parent) s.nodes j no_node Option.None few) ∙ child.up))
    (children_of (parents s.nodes) p) (children_known (parents s.nodes) g.tree.tree p))

map_map : {X Y Z : Type 0} (f : X → Y) (h : Y → Z) (xs : List X) → map h (map f xs) ≡ map (λ x. h (f x)) xs
map_map f h [] = refl
map_map f h (x ∷ xs) = ap (λ l. h (f x) ∷ l) (map_map f h xs)

-- the children of a node that isn't listed stood where the old one's children stand
kids_stood : (s : Step) → IsNext s → (p : ℕ) → p < length s.nodes → is_listed s.listed p ≡ false
    → map (old_at (olds_in s)) (kids s p) ≡ old_kids s p
kids_stood s g p within free =
    let same = g.same p within free in
    let now = children_of (parents s.nodes) p in
    let then = children_of (parents s.olds) (stood s p) in
    let key = λ (j : ℕ). (node_at s.nodes j).key in
    let old_key = λ (j : ℕ). (node_at s.olds j).key in
    let find = old_place (keys s.olds) in
    let long : length (parents s.olds) ≡ length s.olds = length-map s.olds (λ (n : BoxFacts). n.parent) in
    let own : All (λ d. find (old_key d) ≡ d) then =
    All-weaker (λ d. IsChild (parents s.olds) (stood s p) d) (λ d. find (old_key d) ≡ d)
    (λ d child. own_place s.olds g.old_keys d (subst (λ n. d < n) long child.within))
    then (children_known (parents s.olds) g.old_tree.tree (stood s p)) in
    map_same (old_at (olds_in s)) (λ j. find (key j)) 0 (kids s p)
    (All-weaker (λ j. j < length s.nodes) (λ j. old_at (olds_in s) j ≡ find (key j)) (λ j few. old_is s g j few)
    (kids s p) (kids_within s g p within))
    ∙ (ap (λ l. map (λ j. find (key j)) l) (kids_are s g p within)
    ∙ (sym (map_map key find now)
    ∙ (ap (λ l. map find l) same.children
    ∙ (map_map old_key find then
    ∙ (map_same (λ d. find (old_key d)) (λ d. d) 0 then own
    ∙ (map-id then ∙ sym (old_kids_are s g p same.there)))))))

child_apart : (pane : Rule) (node : BoxFacts) (across down : Extent)
    → child_of pane node across down ≡ child_of pane (apart node) across down
unfolding child_of
child_apart pane node across down = refl

-- a child is as it was along both axes
abbrev IsAsLong : Step → List Extent → List Extent → ℕ → Type 0
IsAsLong s now old j = extent_at now j ≡ extent_at old (old_at (olds_in s) j)

-- the children of a node that isn't listed are seen as they were, where their lengths are as they were
seen_as : (s : Step) → IsNext s → (p : ℕ) → p < length s.nodes → is_listed s.listed p ≡ false → (pane : Rule)
    → (widths heights old_widths old_heights : List Extent) → All (IsAsLong s widths old_widths) (kids s p)
    → All (IsAsLong s heights old_heights) (kids s p)
    → seen pane s.nodes widths heights (kids s p) ≡ seen pane s.olds old_widths old_heights (old_kids s p)
seen_as s g p within free pane widths heights old_widths old_heights as_wide as_high =
    let was = child_at pane s.olds old_widths old_heights in
    map_same (child_at pane s.nodes widths heights) (λ j. was (old_at (olds_in s) j)) (was 0) (kids s p)
    (λ k d few.
    let j = slice_index_or (kids s p) k d in
    let inside = kids_within s g p within k d few in
    let before : old_at (olds_in s) j ≡ stood s j = old_is s g j inside in
    let facts : apart (node_at s.nodes j) ≡ apart (node_at s.olds (old_at (olds_in s) j)) =
    subst (λ i. apart (node_at s.nodes j) ≡ apart (node_at s.olds i)) (sym before)
    (g.same j inside (kids_unlisted s g p within free k d few)).facts in
    child_apart pane (node_at s.nodes j) (extent_at widths j) (extent_at heights j)
    ∙ (ap (λ (n : BoxFacts). child_of pane n (extent_at widths j) (extent_at heights j)) facts
    ∙ (ap (λ (x : Extent). child_of pane (apart (node_at s.olds (old_at (olds_in s) j))) x (extent_at heights j)) (as_wide k d few)
    ∙ (ap (λ (x : Extent). child_of pane (apart (node_at s.olds (old_at (olds_in s) j))) (extent_at old_widths (old_at (olds_in s) j)) x) (as_high k d few)
    ∙ sym (child_apart pane (node_at s.olds (old_at (olds_in s) j)) (extent_at old_widths (old_at (olds_in s) j))
    (extent_at old_heights (old_at (olds_in s) j)))))))
    ∙ (sym (map_map (old_at (olds_in s)) was (kids s p)) ∙ ap (λ l. map was l) (kids_stood s g p within free))

-- what a node keeps of its lengths
kept_if : (A B : Type 0) (b : Bool) → b ≡ false → MatchBool b A B → B
kept_if A B b e m = subst (λ c. MatchBool c A B) e m

made_if : (A B : Type 0) (b : Bool) → b ≡ true → MatchBool b A B → A
made_if A B b e m = subst (λ c. MatchBool c A B) e m

wide_as : (s : Step) → IsNext s → (p : ℕ) → p < length s.nodes → is_listed s.listed p ≡ false
    → IsAsLong s s.new.widths s.old.widths p
wide_as s g p within free = kept_if _ _ (is_listed s.listed p) free (g.update.widths p within)

kids_wide : (s : Step) → IsNext s → (p : ℕ) → p < length s.nodes → is_listed s.listed p ≡ false
    → All (IsAsLong s s.new.widths s.old.widths) (kids s p)
kids_wide s g p within free k d few =
    wide_as s g (slice_index_or (kids s p) k d) (kids_within s g p within k d few) (kids_unlisted s g p within free k d few)

-- of what isn't known nothing changes
none_known : (s : Step) (places : List ℕ) → All (IsAsLong s [] []) places
none_known s places k d few = refl

-- the lengths of a node that is as it was are measured as they were
measured_as_before : (s : Step) → IsNext s → (axis : Axis) (p : ℕ) → p < length s.nodes → is_listed s.listed p ≡ false
    → (widths heights old_widths old_heights : List Extent) → All (IsAsLong s widths old_widths) (kids s p)
    → All (IsAsLong s heights old_heights) (kids s p) → (room old_room : ℕ) → room ≡ old_room
    → (lengths old_lengths : Extent) → lengths ≡ old_lengths
    → IsMeasured axis (box_at s.olds s.old_looks (stood s p))
    (seen (box_at s.olds s.old_looks (stood s p)).rule s.olds old_widths old_heights (old_kids s p)) old_room old_lengths
    → IsMeasured axis (box_at s.nodes s.looks p)
    (seen (box_at s.nodes s.looks p).rule s.nodes widths heights (kids s p)) room lengths
measured_as_before s g axis p within free widths heights old_widths old_heights as_wide as_high room old_room rooms
    lengths old_lengths same_lengths was =
    let node = box_at s.nodes s.looks p in
    let boxes : node ≡ box_at s.olds s.old_looks (stood s p) = (g.same p within free).box in
    let old_seen = λ (b : NodeBox). seen b.rule s.olds old_widths old_heights (old_kids s p) in
    let children = seen_as s g p within free node.rule widths heights old_widths old_heights as_wide as_high in
    subst (λ (l : Extent). IsMeasured axis node (seen node.rule s.nodes widths heights (kids s p)) room l) (sym same_lengths)
    (subst (λ r. IsMeasured axis node (seen node.rule s.nodes widths heights (kids s p)) r old_lengths) (sym rooms)
    (subst (λ (cs : List ChildSize). IsMeasured axis node cs old_room old_lengths) (sym children)
    (subst (λ (b : NodeBox). IsMeasured axis b (old_seen b) old_room old_lengths) (sym boxes) was)))

widths_at : (s : Step) → IsNext s → (p : ℕ) → p < length s.nodes → IsMeasured Across (box_at s.nodes s.looks p)
    (seen (box_at s.nodes s.looks p).rule s.nodes s.new.widths [] (kids s p)) 0 (extent_at s.new.widths p)
widths_at s g p within = elim (cases_Bool (is_listed s.listed p)) [
  | inl hit ↦ made_if _ _ (is_listed s.listed p) hit (g.update.widths p within)
  | inr free ↦ measured_as_before s g Across p within free s.new.widths [] s.old.widths [] (kids_wide s g p within free)
      (none_known s (kids s p)) 0 0 refl (extent_at s.new.widths p) (extent_at s.old.widths (stood s p))
      (wide_as s g p within free ∙ ap (extent_at s.old.widths) (old_is s g p within))
      (g.was.widths (stood s p) (g.same p within free).there)
]

-- spans

fitted_whole : (xs : List Span) (n : ℕ) → length xs ≡ n → fitted n xs ≡ xs
fitted_whole xs n long =
    ext_get_or nowhere (fitted n xs) xs (length-map-range_with_len (span_at xs) 0 n ∙ sym long)
    (λ i within.
    let few : i < n = subst (λ m. i < m) (length-map-range_with_len (span_at xs) 0 n) within in
    get_or-map-range_with_len (span_at xs) 0 n i i nowhere few (omega arith))

pub map_all : {X : Type 0} (f h : ℕ → X) (e : X) (xs : List ℕ) → map f xs ≡ map h xs → All (λ j. f j ≡ h j) xs
map_all f h e xs same k d few =
    sym (get_or-map f xs k d e few) ∙ (ap (λ l. slice_index_or l k e) same ∙ get_or-map h xs k d e few)

-- the children of a node that isn't worked on stand where they stood
spans_as : (s : Step) → IsNext s → (axis : Axis) → (listed : ℕ → Bool) → (widths heights : List Extent)
    → (spans old_spans : List Span) → ArePlaced axis s.nodes s.looks s.new.children listed widths heights
    (last_in (olds_in s) old_spans) (kept_in (olds_in s) s.old.children old_spans) spans
    → (p : ℕ) → p < length s.nodes → is_listed s.listed p ≡ false
    → is_worked listed (last_in (olds_in s) old_spans) spans p ≡ false
    → map (span_at spans) (kids s p) ≡ map (span_at old_spans) (old_kids s p)
spans_as s g axis listed widths heights spans old_spans placed p within free idle =
    let room = (span_at spans p).length in
    let kept = kept_in (olds_in s) s.old.children old_spans in
    let count = length (kids s p) in
    let is : map (span_at spans) (kids s p) ≡ fitted count (kept p) =
    subst (λ b. map (span_at spans) (kids s p)
    ≡ fitted count (spans_for axis s.nodes s.looks s.new.children widths heights kept p b room)) idle (placed p within) in
    let at : kept p ≡ map (span_at old_spans) (old_kids s p) =
    ap (λ q. map (span_at old_spans) (places_at s.old.children q)) (old_is s g p within) in
    let long : length (map (span_at old_spans) (old_kids s p)) ≡ count =
    length-map (old_kids s p) (span_at old_spans)
    ∙ (ap (λ (l : List ℕ). length l) (sym (kids_stood s g p within free)) ∙ length-map (kids s p) (old_at (olds_in s))) in
    is ∙ (ap (λ (l : List Span). fitted count l) at ∙ fitted_whole (map (span_at old_spans) (old_kids s p)) count long)

-- then each child has the length that it had
kids_as : (s : Step) → IsNext s → (spans old_spans : List Span) (p : ℕ) → p < length s.nodes → is_listed s.listed p ≡ false
    → map (span_at spans) (kids s p) ≡ map (span_at old_spans) (old_kids s p)
    → All (λ j. span_at spans j ≡ span_at old_spans (old_at (olds_in s) j)) (kids s p)
kids_as s g spans old_spans p within free same =
    map_all (span_at spans) (λ j. span_at old_spans (old_at (olds_in s) j)) nowhere (kids s p)
    (same ∙ (ap (λ l. map (span_at old_spans) l) (sym (kids_stood s g p within free))
    ∙ map_map (old_at (olds_in s)) (span_at old_spans) (kids s p)))

-- where the children of a node stand, if it is worked on or is as it was
placed_at : (s : Step) → IsNext s → (axis : Axis) → (listed : ℕ → Bool)
    → (widths heights old_widths old_heights : List Extent) → (spans old_spans : List Span)
    → ArePlaced axis s.nodes s.looks s.new.children listed widths heights
    (last_in (olds_in s) old_spans) (kept_in (olds_in s) s.old.children old_spans) spans
    → (p : ℕ) → p < length s.nodes → (is_worked listed (last_in (olds_in s) old_spans) spans p ≡ false
    → (is_listed s.listed p ≡ false) × All (IsAsLong s widths old_widths) (kids s p)
    × All (IsAsLong s heights old_heights) (kids s p))
    → ((q : ℕ) → q < length s.olds → map (span_at old_spans) (places_at s.old.children q)
    ≡ fitted (length (places_at s.old.children q)) (spans_along axis (box_at s.olds s.old_looks q)
    (seen (box_at s.olds s.old_looks q).rule s.olds old_widths old_heights (places_at s.old.children q))
    (span_at old_spans q).length))
    → map (span_at spans) (kids s p) ≡ fitted (length (kids s p)) (spans_along axis (box_at s.nodes s.looks p)
    (seen (box_at s.nodes s.looks p).rule s.nodes widths heights (kids s p)) (span_at spans p).length)
placed_at s g axis listed widths heights old_widths old_heights spans old_spans placed p within as_before was =
    elim (cases_Bool (is_worked listed (last_in (olds_in s) old_spans) spans p)) [
      | inl busy ↦ subst (λ b. map (span_at spans) (kids s p) ≡ fitted (length (kids s p))
          (spans_for axis s.nodes s.looks s.new.children widths heights
          (kept_in (olds_in s) s.old.children old_spans) p b (span_at spans p).length)) busy (placed p within)
      | inr idle ↦ (
          let free = (as_before idle).0 in
          let as_wide = (as_before idle).1 in
          let as_high = (as_before idle).2 in
          let node = box_at s.nodes s.looks p in
          let boxes : node ≡ box_at s.olds s.old_looks (stood s p) = (g.same p within free).box in
          let rooms : (span_at spans p).length ≡ (span_at old_spans (stood s p)).length =
          same_number (span_at spans p).length (last_in (olds_in s) old_spans p).length
          (or_false (listed p) (not (nat_eq (span_at spans p).length (last_in (olds_in s) old_spans p).length)) idle).1
          ∙ ap (λ q. (span_at old_spans q).length) (old_is s g p within) in
          let counts : length (old_kids s p) ≡ length (kids s p) =
          ap (λ (l : List ℕ). length l) (sym (kids_stood s g p within free)) ∙ length-map (kids s p) (old_at (olds_in s)) in
          let then = old_kids s p in
          spans_as s g axis listed widths heights spans old_spans placed p within free idle
          ∙ (was (stood s p) (g.same p within free).there
          ∙ (ap (λ n. fitted n (spans_along axis (box_at s.olds s.old_looks (stood s p))
          (seen (box_at s.olds s.old_looks (stood s p)).rule s.olds old_widths old_heights then)
          (span_at old_spans (stood s p)).length)) counts
          ∙ (ap (λ (b : NodeBox). fitted (length (kids s p)) (spans_along axis b
          (seen b.rule s.olds old_widths old_heights then) (span_at old_spans (stood s p)).length)) (sym boxes)
          ∙ (ap (λ (cs : List ChildSize). fitted (length (kids s p)) (spans_along axis node cs
          (span_at old_spans (stood s p)).length))
          (sym (seen_as s g p within free node.rule widths heights old_widths old_heights as_wide as_high))
          ∙ ap (λ r. fitted (length (kids s p)) (spans_along axis node
          (seen node.rule s.nodes widths heights (kids s p)) r)) (sym rooms))))))
    ]

abbrev anew : Step → ℕ → Bool
anew s p = is_wide_anew s.listed (olds_in s) s.old.across s.new.across p

idle_parts : (s : Step) (p : ℕ) → anew s p ≡ false → (is_listed s.listed p ≡ false)
    × ((span_at s.new.across p).length ≡ (span_at s.old.across (old_at (olds_in s) p)).length)
idle_parts s p idle =
    let room = (span_at s.new.across p).length in
    let last = (last_in (olds_in s) s.old.across p).length in
    let parts = or_false (is_listed s.listed p) (not (nat_eq room last)) idle in
    (parts.0, same_number room last parts.1)

idle_from : (s : Step) (p : ℕ) → is_listed s.listed p ≡ false
    → (span_at s.new.across p).length ≡ (span_at s.old.across (old_at (olds_in s) p)).length → anew s p ≡ false
idle_from s p free same =
    ap (λ b. b || not (nat_eq (span_at s.new.across p).length (last_in (olds_in s) s.old.across p).length)) free
    ∙ ap not (eq-eqb (span_at s.new.across p).length (last_in (olds_in s) s.old.across p).length same)

high_as : (s : Step) → IsNext s → (p : ℕ) → p < length s.nodes → anew s p ≡ false
    → IsAsLong s s.new.heights s.old.heights p
high_as s g p within idle = kept_if _ _ (anew s p) idle (g.update.heights p within)

-- the children of a node that isn't worked on aren't worked on
kids_high : (s : Step) → IsNext s → (p : ℕ) → p < length s.nodes → anew s p ≡ false
    → All (IsAsLong s s.new.heights s.old.heights) (kids s p)
kids_high s g p within idle =
    let free = (idle_parts s p idle).0 in
    let stay = kids_as s g s.new.across s.old.across p within free
    (spans_as s g Across (is_listed s.listed) s.new.widths [] s.new.across s.old.across g.update.across p within free idle) in
    λ k d few.
    let j = slice_index_or (kids s p) k d in
    high_as s g j (kids_within s g p within k d few)
    (idle_from s j (kids_unlisted s g p within free k d few) (ap (λ (x : Span). x.length) (stay k d few)))

heights_at : (s : Step) → IsNext s → (p : ℕ) → p < length s.nodes → IsMeasured Down (box_at s.nodes s.looks p)
    (seen (box_at s.nodes s.looks p).rule s.nodes s.new.widths s.new.heights (kids s p))
    (span_at s.new.across p).length (extent_at s.new.heights p)
heights_at s g p within = elim (cases_Bool (anew s p)) [
  | inl busy ↦ made_if _ _ (anew s p) busy (g.update.heights p within)
  | inr idle ↦ (
      let free = (idle_parts s p idle).0 in
      let there = (g.same p within free).there in
      measured_as_before s g Down p within free s.new.widths s.new.heights s.old.widths s.old.heights
      (kids_wide s g p within free) (kids_high s g p within idle)
      (span_at s.new.across p).length (span_at s.old.across (stood s p)).length
      ((idle_parts s p idle).1 ∙ ap (λ q. (span_at s.old.across q).length) (old_is s g p within))
      (extent_at s.new.heights p) (extent_at s.old.heights (stood s p))
      (high_as s g p within idle ∙ ap (extent_at s.old.heights) (old_is s g p within))
      (g.was.heights (stood s p) there))
]

pub agreed : (s : Step) → IsNext s → IsLayout s.nodes s.looks s.window s.new
agreed s g = record {
  keys = g.update.keys;
  children = g.update.children;
  widths = widths_at s g;
  root_across = g.update.root_across;
  across = λ p within. placed_at s g Across (is_listed s.listed) s.new.widths [] s.old.widths [] s.new.across s.old.across
      g.update.across p within
      (λ idle. let free = (idle_parts s p idle).0 in (free, kids_wide s g p within free, none_known s (kids s p)))
      g.was.across;
  heights = heights_at s g;
  root_down = g.update.root_down;
  down = λ p within. placed_at s g Down (anew s) s.new.widths s.new.heights s.old.widths s.old.heights s.new.down s.old.down
      g.update.down p within
      (λ idle.
      let room = (span_at s.new.down p).length in
      let last = (last_in (olds_in s) s.old.down p).length in
      let quiet = (or_false (anew s p) (not (nat_eq room last)) idle).0 in
      let free = (idle_parts s p quiet).0 in
      (free, kids_wide s g p within free, kids_high s g p within quiet))
      g.was.down;
  rects = g.update.rects;
}

-- where all are listed nothing that was kept matters
pub anew_is : (nodes : List BoxFacts) (looks : List Look) (window : Option (ℕ × ℕ)) (listed : List ℕ) (old new : Kept)
    → ((p : ℕ) → p < length nodes → is_listed listed p ≡ true) → IsUpdate old nodes looks window listed new
    → IsLayout nodes looks window new
anew_is nodes looks window listed old new all update =
    let olds = old_places old.keys nodes in
    let busy : (p : ℕ) → p < length nodes → is_wide_anew listed olds old.across new.across p ≡ true =
    λ p within. ap (λ b. b || not (nat_eq (span_at new.across p).length (last_in olds old.across p).length)) (all p within) in
    record {
      keys = update.keys;
      children = update.children;
      widths = λ p within. made_if _ _ (is_listed listed p) (all p within) (update.widths p within);
      root_across = update.root_across;
      across = λ p within. subst (λ b. map (span_at new.across) (places_at new.children p)
          ≡ fitted (length (places_at new.children p)) (spans_for Across nodes looks new.children new.widths []
          (kept_in olds old.children old.across) p b (span_at new.across p).length)) (busy p within)
          (update.across p within);
      heights = λ p within.
          made_if _ _ (is_wide_anew listed olds old.across new.across p) (busy p within) (update.heights p within);
      root_down = update.root_down;
      down = λ p within. subst (λ b. map (span_at new.down) (places_at new.children p)
          ≡ fitted (length (places_at new.children p)) (spans_for Down nodes looks new.children new.widths new.heights
          (kept_in olds old.children old.down) p b (span_at new.down p).length))
          (ap (λ b. b || not (nat_eq (span_at new.down p).length (last_in olds old.down p).length)) (busy p within))
          (update.down p within);
      rects = update.rects;
    }
