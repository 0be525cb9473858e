-- Spans that are put at places, and one turn of placing from the root.
use Rattle.std.proofs.Common.{refl, sym, subst, ap, ◌∙◌, ◌≡◌, ◌≢◌, ◌==◌, ℕ, ◌+◌, ◌<◌, ◌≤◌, Bool, true, false, true≢false, not, ◌||◌, nat_eq, All, AllPairs, List, [], length, map, slice_index_or, slice_set, zero-add, arith}
use Rattle.std.proofs.lemmas.List.{ext_get_or, get_or-map, get_or_default, get_or-set_same, get_or-set_other, length-map, length-set}
use Rattle.std.proofs.Math.ListN.{get_or-eq_default}
use Rattle.std.proofs.lemmas.Bool.{eqb-true, eqb-false}
use Rattle.std.proofs.Math.Numerals.{lt_of_le_of_ne}
use Rattle.fx_base.specs.declared.geometry.Rect.{Rect}
use Rattle.fx_panes_parts.specs.declared.axes.Axis.{Axis}
use Rattle.fx_panes_parts.specs.declared.axes.Span.{Span}
use Rattle.fx_base.specs.declared.facts.ChildSize.{ChildSize}
use Rattle.fx_kinds.specs.declared.facts.BoxFacts.{BoxFacts}
use Rattle.fx_look.specs.declared.looks.Look.{Look}
use Rattle.fx_panes_parts.specs.declared.axes.Axis.TheVariants.{Across, Down}
use Rattle.fx_panes_parts.specs.declared.axes.Extent.{Extent}
use Rattle.fx_layout_parts.specs.declared.rules.NodeBox.{NodeBox}
use Rattle.fx_layout_parts.specs.declared.rules.Rule.{Rule}
use Rattle.fx_layout_parts.specs.declared.rules.Rule.TheVariants as rule
use Rattle.fx_layout_parts.specs.Rules.{across_span, down_span, is_pane, rects_by, rects_in}
use Rattle.fx_base.specs.declared.facts.PaneFacts.{PaneFacts}
use Rattle.std.proofs.lemmas.List.FromFn.{get_or-map-range_with_len, length-map-range_with_len}
use Rattle.fx_layout_sweeps.specs.Nodes.{nowhere, places_at, span_at}
use Rattle.fx_layout_sweeps.specs.Marks.{flag_in}
use Rattle.fx_layout_sweeps.specs.Sweeps.{IsPlacedAt, IsPut, fitted, half, held_length, is_worked, spans_along, spans_for}
use Rattle.fx_layout_sweeps.proofs.Turns.{map_same}

pub kept_read : (spans : List Span) (places : List ℕ) (k d : ℕ) → k < length places
    → span_at spans (slice_index_or places k d) ≡ span_at (map (span_at spans) places) k
kept_read spans places k d within = sym (get_or-map (span_at spans) places k d nowhere within)

pub kept_missing : (spans : List Span) (places : List ℕ) (k : ℕ) → length places ≤ k
    → nowhere ≡ span_at (map (span_at spans) places) k
kept_missing spans places k past =
    sym (get_or-eq_default (map (span_at spans) places) nowhere (subst (λ n. n ≤ k) (sym (length-map places (span_at spans))) past))

-- the first spans are put
pub record IsPutTo (places : List ℕ) (found old now : List Span) (i : ℕ) : Type 0 where
  pub each : length now ≡ length old
  pub put : (k d : ℕ) → k < i → k < length places → span_at now (slice_index_or places k d) ≡ span_at found k
  pub other : (q : ℕ) → ((k d : ℕ) → k < i → k < length places → slice_index_or places k d ≢ q)
      → span_at now q ≡ span_at old q

pub put_start : (places : List ℕ) (found old : List Span) → IsPutTo places found old old 0
put_start places found old =
    record { each = refl; put = λ k d early within. absurd (omega (arith, early)); other = λ q apart. refl }

pub put_more : (places : List ℕ) (found old now : List Span) (i d : ℕ) (span : Span)
    → All (λ j. j < length old) places → AllPairs (λ x y. x ≢ y) places → i < length places
    → IsPutTo places found old now i → span ≡ span_at found i
    → IsPutTo places found old (slice_set now (slice_index_or places i d) span) (i + 1)
put_more places found old now i d span inside apart within so_far is_span =
    record {
      each = length-set now at span ∙ so_far.each;
      put = λ k e early few. put_at k e early few (k == i) refl;
      other = λ q free.
          get_or-set_other now at q span nowhere (λ same. free i d (omega arith) within (sym same))
          ∙ so_far.other q (λ k e early few. free k e (omega (arith, early)) few);
    }
  where
    at : ℕ
    at = slice_index_or places i d

    put_at : (k e : ℕ) → k < i + 1 → k < length places → (b : Bool) → (k == i) ≡ b
        → span_at (slice_set now at span) (slice_index_or places k e) ≡ span_at found k
    put_at k e early few true same =
        let is : k ≡ i = eqb-true k i same in
        let here : slice_index_or places k e ≡ at =
        ap (λ m. slice_index_or places m e) is ∙ get_or_default places i e d within in
        let room : at < length now = subst (λ n. at < n) (sym so_far.each) (inside i d within) in
        ap (λ m. span_at (slice_set now at span) m) here
        ∙ (get_or-set_same now at span nowhere room ∙ (is_span ∙ ap (span_at found) (sym is)))
    put_at k e early few false differ =
        let less : k < i = lt_of_le_of_ne (omega (arith, early)) (eqb-false k i differ) in
        get_or-set_other now at (slice_index_or places k e) span nowhere
        (λ same. apart k i e less within (same ∙ get_or_default places i d e within))
        ∙ so_far.put k e less few

pub put_all : (places : List ℕ) (found old now : List Span) (i : ℕ) → length places ≤ i
    → IsPutTo places found old now i → IsPut places found old now
put_all places found old now i done so_far =
    record {
      each = so_far.each;
      put = λ k d within. so_far.put k d (omega (arith, within, done)) within;
      other = λ q apart. so_far.other q (λ k d early within. apart k d within);
    }

no_rects : (r : Rule) (facts : PaneFacts) (children : List ChildSize) (w h : ℕ) → is_pane r ≡ false
    → rects_by r facts children w h ≡ []
unfolding rects_by
no_rects rule.Region facts children w h none = refl
no_rects rule.Control facts children w h none = refl
no_rects rule.Free facts children w h none = absurd (true≢false none)
no_rects rule.HBox facts children w h none = absurd (true≢false none)
no_rects rule.VBox facts children w h none = absurd (true≢false none)
no_rects rule.Border facts children w h none = absurd (true≢false none)
no_rects rule.Stack facts children w h none = absurd (true≢false none)
no_rects rule.Anchor facts children w h none = absurd (true≢false none)
no_rects rule.Grid facts children w h none = absurd (true≢false none)

-- what is no pane has no children to place
pub no_spans : (axis : Axis) (node : NodeBox) (children : List ChildSize) (room : ℕ) (spans : List Span)
    → is_pane node.rule ≡ false → spans ≡ [] → spans ≡ spans_along axis node children room
no_spans Across node children room spans none empty =
    empty ∙ sym (ap (λ (l : List Rect). map across_span l) (no_rects node.rule node.facts children (held_length room) 0 none))
no_spans Down node children room spans none empty =
    empty ∙ sym (ap (λ (l : List Rect). map down_span l) (no_rects node.rule node.facts children 0 (held_length room) none))

pub halves_across : (axis : Axis) (node : NodeBox) (children : List ChildSize) (room : ℕ) (rects : List Rect)
    → axis ≡ Across → rects ≡ rects_in node children (held_length room) 0
    → map (half axis) rects ≡ spans_along axis node children room
halves_across axis node children room rects is same =
    subst (λ (a : Axis). map (half a) rects ≡ spans_along a node children room) (sym is)
    (ap (λ (l : List Rect). map across_span l) same)

pub halves_down : (axis : Axis) (node : NodeBox) (children : List ChildSize) (room : ℕ) (rects : List Rect)
    → axis ≡ Down → rects ≡ rects_in node children 0 (held_length room)
    → map (half axis) rects ≡ spans_along axis node children room
halves_down axis node children room rects is same =
    subst (λ (a : Axis). map (half a) rects ≡ spans_along a node children room) (sym is)
    (ap (λ (l : List Rect). map down_span l) same)

-- the lists of children: each child stands behind its parent, and none has two
pub record AreKnown (children : List (List ℕ)) (n : ℕ) : Type 0 where
  pub behind : (p : ℕ) → p < n → All (λ j. p < j) (places_at children p)
  pub apart : (p q : ℕ) → p < n → q < n → p ≢ q → (i k d e : ℕ) → i < length (places_at children p)
      → k < length (places_at children q)
      → slice_index_or (places_at children p) i d ≢ slice_index_or (places_at children q) k e

-- the placing of a list of nodes has come to a place: the children of those before it are placed
pub record IsSpread (axis : Axis) (nodes : List BoxFacts) (looks : List Look) (children : List (List ℕ)) (listed : List Bool)
    (widths heights : List Extent) (last : ℕ → Span) (kept : ℕ → List Span) (start : List Span)
    (flags : List Bool) (spans : List Span) (p : ℕ) : Type 0 where
  pub each : length spans ≡ length nodes
  pub each_flag : length flags ≡ length nodes
  pub root : span_at spans 0 ≡ span_at start 0
  pub placed : (q : ℕ) → q < p → q < length nodes
      → IsPlacedAt axis nodes looks children (flag_in listed) widths heights last kept spans q
  pub marked : (q : ℕ) → q < p → q < length nodes → flag_in flags q ≡ is_worked (flag_in listed) last spans q
  pub unmarked : (q : ℕ) → p ≤ q → flag_in flags q ≡ flag_in listed q

pub spread_start : (axis : Axis) (nodes : List BoxFacts) (looks : List Look) (children : List (List ℕ)) (listed : List Bool)
    (widths heights : List Extent) (last : ℕ → Span) (kept : ℕ → List Span) (start : List Span)
    → length start ≡ length nodes → length listed ≡ length nodes
    → IsSpread axis nodes looks children listed widths heights last kept start listed start 0
spread_start axis nodes looks children listed widths heights last kept start each each_flag =
    record {
      each = each;
      each_flag = each_flag;
      root = refl;
      placed = λ q before within. absurd (omega (arith, before));
      marked = λ q before within. absurd (omega (arith, before));
      unmarked = λ q from. refl;
    }

-- two lists of spans that agree at a node and at its children have it placed alike
pub placed_still : (axis : Axis) (nodes : List BoxFacts) (looks : List Look) (children : List (List ℕ)) (listed : ℕ → Bool)
    (widths heights : List Extent) (last : ℕ → Span) (kept : ℕ → List Span) (xs ys : List Span) (q : ℕ)
    → span_at xs q ≡ span_at ys q → All (λ j. span_at xs j ≡ span_at ys j) (places_at children q)
    → IsPlacedAt axis nodes looks children listed widths heights last kept xs q
    → IsPlacedAt axis nodes looks children listed widths heights last kept ys q
placed_still axis nodes looks children listed widths heights last kept xs ys q here below was =
    sym (map_same (span_at xs) (span_at ys) nowhere (places_at children q) below)
    ∙ (was ∙ ap (λ (s : Span). fitted (length (places_at children q))
    (spans_for axis nodes looks children widths heights kept q
    (listed q || not (nat_eq s.length (last q).length)) s.length)) here)

-- spans that are put at the children of a node
pub put_placed : (spans : List Span) (places : List ℕ) (found old : List Span) → IsPut places found old spans
    → map (span_at spans) places ≡ fitted (length places) found
put_placed spans places found old is_put =
    let n = length places in
    ext_get_or nowhere (map (span_at spans) places) (fitted n found)
    (length-map places (span_at spans) ∙ sym (length-map-range_with_len (span_at found) 0 n))
    (λ i within.
    let few : i < n = subst (λ m. i < m) (length-map places (span_at spans)) within in
    get_or-map (span_at spans) places i 0 nowhere few
    ∙ (is_put.put i 0 few ∙ sym (get_or-map-range_with_len (span_at found) 0 n i i nowhere few (zero-add i))))

pub spread_more : (axis : Axis) (nodes : List BoxFacts) (looks : List Look) (children : List (List ℕ)) (listed : List Bool)
    (widths heights : List Extent) (last : ℕ → Span) (kept : ℕ → List Span) (start : List Span)
    (flags : List Bool) (spans after : List Span) (p : ℕ) (worked : Bool) → AreKnown children (length nodes)
    → p < length nodes
    → IsSpread axis nodes looks children listed widths heights last kept start flags spans p
    → worked ≡ is_worked (flag_in flags) last spans p
    → IsPut (places_at children p)
    (spans_for axis nodes looks children widths heights kept p worked (span_at spans p).length) spans after
    → IsSpread axis nodes looks children listed widths heights last kept start (slice_set flags p worked) after (p + 1)
spread_more axis nodes looks children listed widths heights last kept start flags spans after p worked known within spread is_worked_on is_put =
    record {
      each = is_put.each ∙ spread.each;
      each_flag = length-set flags p worked ∙ spread.each_flag;
      root = still 0 (omega arith) ∙ spread.root;
      placed = λ q before few. placed_at q before few (p == q) refl;
      marked = λ q before few. marked_at q before few (p == q) refl;
      unmarked = λ q from.
          get_or-set_other flags p q worked false (λ same. omega (arith, from, same)) ∙ spread.unmarked q (omega (arith, from));
    }
  where
    still : (q : ℕ) → q ≤ p → span_at after q ≡ span_at spans q
    still q before = is_put.other q (λ k d few same. omega (arith, known.behind p within k d few, same, before))

    now_worked : worked ≡ is_worked (flag_in listed) last spans p
    now_worked = is_worked_on ∙ ap (λ b. b || not (nat_eq (span_at spans p).length (last p).length)) (spread.unmarked p (omega arith))

    placed_at : (q : ℕ) → q < p + 1 → q < length nodes → (b : Bool) → (p == q) ≡ b
        → IsPlacedAt axis nodes looks children (flag_in listed) widths heights last kept after q
    placed_at q before few true same =
        subst (λ k. IsPlacedAt axis nodes looks children (flag_in listed) widths heights last kept after k) (eqb-true p q same)
        (put_placed after (places_at children p) _ spans is_put
        ∙ (ap (λ b. fitted (length (places_at children p))
        (spans_for axis nodes looks children widths heights kept p b (span_at spans p).length)) now_worked
        ∙ ap (λ (s : Span). fitted (length (places_at children p))
        (spans_for axis nodes looks children widths heights kept p
        (flag_in listed p || not (nat_eq s.length (last p).length)) s.length)) (sym (still p (omega arith)))))
    placed_at q before few false differ =
        let less : q < p = lt_of_le_of_ne (omega (arith, before)) (λ same. eqb-false p q differ (sym same)) in
        placed_still axis nodes looks children (flag_in listed) widths heights last kept spans after q
        (sym (still q (omega (arith, before))))
        (λ i d inside. sym (is_put.other (slice_index_or (places_at children q) i d) (λ k e there same.
        known.apart p q within few (eqb-false p q differ) k i e d there inside same)))
        (spread.placed q less few)

    marked_at : (q : ℕ) → q < p + 1 → q < length nodes → (b : Bool) → (p == q) ≡ b
        → flag_in (slice_set flags p worked) q ≡ is_worked (flag_in listed) last after q
    marked_at q before few true same =
        subst (λ k. flag_in (slice_set flags p worked) k ≡ is_worked (flag_in listed) last after k) (eqb-true p q same)
        (get_or-set_same flags p worked false (omega (arith, within, spread.each_flag))
        ∙ (now_worked ∙ ap (λ (s : Span). flag_in listed p || not (nat_eq s.length (last p).length)) (sym (still p (omega arith)))))
    marked_at q before few false differ =
        let less : q < p = lt_of_le_of_ne (omega (arith, before)) (λ same. eqb-false p q differ (sym same)) in
        get_or-set_other flags p q worked false (λ same. eqb-false p q differ (sym same))
        ∙ (spread.marked q less few
        ∙ ap (λ (s : Span). flag_in listed q || not (nat_eq s.length (last q).length)) (sym (still q (omega (arith, before)))))
