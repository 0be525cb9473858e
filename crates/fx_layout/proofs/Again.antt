-- Updates of nodes that stand in the list where they stood.
use Rattle.std.proofs.Common.{refl, sym, subst, ap, ◌∙◌, ◌≡◌, ◌⊎◌, ℕ, zero, suc, ◌<◌, Bool, true, false, MatchBool, ◌||◌, not, nat_eq, All, List, [], Option, length, map, slice_index_or, slice_set, inl, inr, arith}
use Rattle.std.proofs.lemmas.Bool.{true≢false}
use Rattle.std.proofs.lemmas.List.{get_or-map, get_or-set_other, length-map}
use Rattle.fx_base.specs.declared.keys.NodeKey.{NodeKey}
use Rattle.fx_kinds.specs.declared.facts.BoxFacts.{BoxFacts}
use Rattle.fx_look.specs.declared.looks.Look.{Look}
use Rattle.fx_panes_parts.specs.declared.axes.Axis.{Axis}
use Rattle.fx_panes_parts.specs.declared.axes.Axis.TheVariants.{Across, Down}
use Rattle.fx_panes_parts.specs.declared.axes.Extent.{Extent}
use Rattle.fx_panes_parts.specs.declared.axes.Span.{Span}
use Rattle.fx_layout_sweeps.specs.Marks.{flag_in}
use Rattle.fx_layout_sweeps.specs.Nodes.{AreNodes, box_at, children_lists, extent_at, keys, no_node, nowhere, parents, places_at, node_at, span_at}
use Rattle.fx_layout_sweeps.specs.Sweeps.{AreMeasured, ArePlaced, IsMeasured, fitted, is_worked, kept_here, kept_in, last_in, old_at, seen_along, spans_for}
use Rattle.fx_layout_sweeps.proofs.Asking.{lists_behind}
use Rattle.fx_layout_sweeps.proofs.Respreads.{fitted_all, worked_then}
use Rattle.fx_layout_sweeps.proofs.Turns.{map_same}
use Rattle.fx_layout.specs.Keeping.{AreAdded}
use Rattle.fx_layout.specs.Updates.{AreDifferent, AreTold, Kept, from_corner, is_listed, lengths_in, old_place, old_places, rect_at, root_length, shifted, window_height, window_width}
use Rattle.fx_layout.proofs.Agree.{map_all, own_place}
use Rattle.fx_layout.proofs.Sames.{measured_as, placed_alike}
use Rattle.fx_layout.proofs.Updating.{AreLaid}

-- the place that is kept for a node is its own
pub stands : (old : List NodeKey) (nodes : List BoxFacts) → old ≡ keys nodes → AreDifferent (keys nodes) → (p : ℕ)
    → p < length nodes → old_at (old_places old nodes) p ≡ p
stands old nodes named differ p within =
    get_or-map (λ (n : BoxFacts). old_place old n.key) nodes p no_node 0 within
    ∙ (ap (λ (ks : List NodeKey). old_place ks (node_at nodes p).key) named ∙ own_place nodes differ p within)

-- the root is put into the corner first, and marked if it has another length then

-- a place has its first span still, or only the root's is another one
root_still : (old new : List Span) (root : Span) → span_at new 0 ≡ span_at (slice_set old 0 root) 0 → (q : ℕ)
    → (span_at new q ≡ span_at (slice_set old 0 root) q) ⊎ (span_at (slice_set old 0 root) q ≡ span_at old q)
root_still old new root same zero = inl same
root_still old new root same (suc q) = inr (get_or-set_other old 0 (suc q) root nowhere (λ e. omega (arith, e)))

pub root_marks : (flags between : List Bool) (old new : List Span) (root : Span) (n : ℕ)
    → ((q : ℕ) → q < n → flag_in between q ≡ is_worked (flag_in flags) (span_at old) (slice_set old 0 root) q)
    → span_at new 0 ≡ span_at (slice_set old 0 root) 0 → (q : ℕ) → q < n
    → is_worked (flag_in between) (span_at (slice_set old 0 root)) new q ≡ is_worked (flag_in flags) (span_at old) new q
root_marks flags between old new root n marks same q few =
    worked_then (flag_in flags) (flag_in between) (span_at old) (span_at (slice_set old 0 root)) new q (marks q few)
    (root_still old new root same q)

pub root_placed : (axis : Axis) (nodes : List BoxFacts) (looks : List Look) (children : List (List ℕ))
    (flags between : List Bool) (widths heights : List Extent) (old new : List Span) (root : Span) → AreNodes nodes
    → children ≡ children_lists (parents nodes)
    → ((q : ℕ) → q < length nodes
    → flag_in between q ≡ is_worked (flag_in flags) (span_at old) (slice_set old 0 root) q)
    → span_at new 0 ≡ span_at (slice_set old 0 root) 0
    → ArePlaced axis nodes looks children (flag_in between) widths heights (span_at (slice_set old 0 root))
    (kept_here children (slice_set old 0 root)) new
    → ArePlaced axis nodes looks children (flag_in flags) widths heights (span_at old) (kept_here children old) new
root_placed axis nodes looks children flags between widths heights old new root are hung marks same placed =
    placed_alike axis nodes looks children (flag_in between) (flag_in flags) widths heights
    (span_at (slice_set old 0 root)) (span_at old) (kept_here children (slice_set old 0 root)) (kept_here children old) new
    (root_marks flags between old new root (length nodes) marks same)
    (λ p within. map_same (span_at (slice_set old 0 root)) (span_at old) nowhere (places_at children p)
    (λ i d few. get_or-set_other old 0 (slice_index_or (places_at children p) i d) root nowhere
    (λ e. omega (arith, lists_behind nodes children are hung p within i d few, e))))
    placed

-- the marks before, between and behind the sweeps of both axes, and what these made of nodes that stand where they stood
pub record AreLaidAgain (old : Kept) (nodes : List BoxFacts) (looks : List Look) (window : Option (ℕ × ℕ))
    (listed : List ℕ) (new : Kept) (first second third : List Bool) : Type 0 where
  pub marked : (p : ℕ) → p < length nodes → flag_in first p ≡ is_listed listed p
  pub widths : AreMeasured Across nodes looks new.children (flag_in first) [] [] (extent_at old.widths) new.widths
  pub root_across : span_at new.across 0 ≡ from_corner (root_length (window_width window) (extent_at new.widths 0))
  pub across : ArePlaced Across nodes looks new.children (flag_in first) new.widths [] (span_at old.across)
      (kept_here new.children old.across) new.across
  pub anew : (p : ℕ) → p < length nodes → flag_in second p ≡ is_worked (flag_in first) (span_at old.across) new.across p
  pub heights : AreMeasured Down nodes looks new.children (flag_in second) new.widths new.across (extent_at old.heights)
      new.heights
  pub root_down : span_at new.down 0 ≡ from_corner (root_length (window_height window) (extent_at new.heights 0))
  pub down : ArePlaced Down nodes looks new.children (flag_in second) new.widths new.heights (span_at old.down)
      (kept_here new.children old.down) new.down
  pub done : (p : ℕ) → p < length nodes → flag_in third p ≡ is_worked (flag_in second) (span_at old.down) new.down p

pub laid_as_moved : (old : Kept) (olds : List ℕ) (nodes : List BoxFacts) (looks : List Look) (window : Option (ℕ × ℕ))
    (listed : List ℕ) (new : Kept) (first second third : List Bool)
    → ((p : ℕ) → p < length nodes → old_at olds p ≡ p) → new.children ≡ old.children
    → AreLaidAgain old nodes looks window listed new first second third
    → AreLaid old olds nodes looks window listed new first second third
laid_as_moved old olds nodes looks window listed new first second third stand hung are =
    record {
      marked = are.marked;
      widths = measured_as Across nodes looks new.children (flag_in first) (flag_in first) [] [] (extent_at old.widths)
          (lengths_in olds old.widths) new.widths (λ p within. refl) (long old.widths) are.widths;
      root_across = are.root_across;
      across = placed_alike Across nodes looks new.children (flag_in first) (flag_in first) new.widths []
          (span_at old.across) (last_in olds old.across) (kept_here new.children old.across)
          (kept_in olds old.children old.across) new.across (works first old.across new.across) (keeps old.across) are.across;
      anew = λ p within. are.anew p within ∙ works first old.across new.across p within;
      heights = measured_as Down nodes looks new.children (flag_in second) (flag_in second) new.widths new.across
          (extent_at old.heights) (lengths_in olds old.heights) new.heights (λ p within. refl) (long old.heights) are.heights;
      root_down = are.root_down;
      down = placed_alike Down nodes looks new.children (flag_in second) (flag_in second) new.widths new.heights
          (span_at old.down) (last_in olds old.down) (kept_here new.children old.down)
          (kept_in olds old.children old.down) new.down (works second old.down new.down) (keeps old.down) are.down;
      done = λ p within. are.done p within ∙ works second old.down new.down p within;
    }
  where
    long : (lengths : List Extent) → (p : ℕ) → p < length nodes → extent_at lengths p ≡ lengths_in olds lengths p
    long lengths p within = ap (extent_at lengths) (sym (stand p within))

    works : (flags : List Bool) (before spans : List Span) → (p : ℕ) → p < length nodes
        → is_worked (flag_in flags) (span_at before) spans p ≡ is_worked (flag_in flags) (last_in olds before) spans p
    works flags before spans p within =
        ap (λ q. flag_in flags p || not (nat_eq (span_at spans p).length (span_at before q).length)) (sym (stand p within))

    keeps : (before : List Span) → (p : ℕ) → p < length nodes
        → kept_here new.children before p ≡ kept_in olds old.children before p
    keeps before p within =
        ap (λ (l : List (List ℕ)). map (span_at before) (places_at l p)) hung
        ∙ ap (λ q. map (span_at before) (places_at old.children q)) (sym (stand p within))

or_false : (a b : Bool) → (a || b) ≡ false → a ≡ false
or_false true b e = absurd (true≢false e)
or_false false b e = refl

-- the children of a node that isn't worked on stand where they stood
stay : (axis : Axis) (nodes : List BoxFacts) (looks : List Look) (children : List (List ℕ)) (flags : List Bool)
    (widths heights : List Extent) (old new : List Span)
    → ArePlaced axis nodes looks children (flag_in flags) widths heights (span_at old) (kept_here children old) new
    → (p : ℕ) → p < length nodes → is_worked (flag_in flags) (span_at old) new p ≡ false
    → All (λ j. span_at new j ≡ span_at old j) (places_at children p)
stay axis nodes looks children flags widths heights old new placed p within idle =
    let kids = places_at children p in
    let is : map (span_at new) kids ≡ fitted (length kids) (map (span_at old) kids) =
    subst (λ b. map (span_at new) kids ≡ fitted (length kids)
    (spans_for axis nodes looks children widths heights (kept_here children old) p b (span_at new p).length)) idle
    (placed p within) in
    map_all (span_at new) (span_at old) nowhere kids
    (is ∙ fitted_all (map (span_at old) kids) (length kids) (length-map kids (span_at old)))

-- and so they stand in their parent's rectangle as their spans say
pub quiet : (old : Kept) (nodes : List BoxFacts) (looks : List Look) (window : Option (ℕ × ℕ)) (listed : List ℕ)
    (new : Kept) (first second third : List Bool) → AreLaidAgain old nodes looks window listed new first second third
    → (p : ℕ) → p < length nodes → AreAdded new.children old.across old.down old.rects (rect_at old.rects p) p
    → flag_in third p ≡ false → AreAdded new.children new.across new.down old.rects (rect_at old.rects p) p
quiet old nodes looks window listed new first second third laid p within added free i d few =
    let j = slice_index_or (places_at new.children p) i d in
    let low = sym (laid.done p within) ∙ free in
    let narrow = sym (laid.anew p within) ∙ or_false (flag_in second p) _ low in
    let across = stay Across nodes looks new.children first new.widths [] old.across new.across laid.across p within narrow i d few in
    let down = stay Down nodes looks new.children second new.widths new.heights old.down new.down laid.down p within low i d few in
    added i d few
    ∙ (ap (λ (s : Span). shifted (rect_at old.rects p) s (span_at old.down j)) (sym across)
    ∙ ap (λ (s : Span). shifted (rect_at old.rects p) (span_at new.across j) s) (sym down))

-- the lengths of a node that isn't listed are those that were kept
kept_length : (axis : Axis) (nodes : List BoxFacts) (looks : List Look) (children : List (List ℕ)) (flags : List Bool)
    (widths : List Extent) (spans : List Span) (old new : List Extent)
    → AreMeasured axis nodes looks children (flag_in flags) widths spans (extent_at old) new → (p : ℕ)
    → p < length nodes → flag_in flags p ≡ false → extent_at old p ≡ extent_at new p
kept_length axis nodes looks children flags widths spans old new measured p within free =
    sym (subst (λ b. MatchBool b
    (IsMeasured axis (box_at nodes looks p)
    (seen_along axis (box_at nodes looks p).rule nodes widths new (places_at children p)) (span_at spans p).length
    (extent_at new p))
    (extent_at new p ≡ extent_at old p)) free (measured p within))

-- what stays of a node that isn't marked in the end
pub still_of : (old : Kept) (nodes : List BoxFacts) (looks : List Look) (window : Option (ℕ × ℕ)) (listed : List ℕ)
    (new : Kept) (first second third : List Bool) → AreLaidAgain old nodes looks window listed new first second third
    → (p : ℕ) → p < length nodes → flag_in third p ≡ false
    → (extent_at old.widths p ≡ extent_at new.widths p) × (extent_at old.heights p ≡ extent_at new.heights p)
    × All (λ j. span_at old.across j ≡ span_at new.across j) (places_at new.children p)
    × All (λ j. span_at old.down j ≡ span_at new.down j) (places_at new.children p)
still_of old nodes looks window listed new first second third laid p within free =
    let low = sym (laid.done p within) ∙ free in
    let idle = or_false (flag_in second p) _ low in
    let narrow = sym (laid.anew p within) ∙ idle in
    let quiet = or_false (flag_in first p) _ narrow in (
      kept_length Across nodes looks new.children first [] [] old.widths new.widths laid.widths p within quiet,
      kept_length Down nodes looks new.children second new.widths new.across old.heights new.heights laid.heights p within
          idle,
      λ i d few. sym (stay Across nodes looks new.children first new.widths [] old.across new.across laid.across p within
          narrow i d few),
      λ i d few. sym (stay Down nodes looks new.children second new.widths new.heights old.down new.down laid.down p within
          low i d few),
    )

-- marks by the same places tell which rectangles are other ones
pub told_again : (old : Kept) (nodes : List BoxFacts) (new : Kept) (marks : List Bool) → old.keys ≡ keys nodes
    → AreDifferent (keys nodes) → length old.rects ≡ length nodes → length marks ≡ length nodes
    → ((p : ℕ) → p < length nodes → flag_in marks p ≡ false → rect_at new.rects p ≡ rect_at old.rects p)
    → AreTold old nodes new marks
told_again old nodes new marks named differ long each still =
    record {
      each = each;
      there = λ p within free. omega (arith, within, long, stands old.keys nodes named differ p within);
      still = λ p within free. still p within free ∙ ap (rect_at old.rects) (sym (stands old.keys nodes named differ p within));
    }
