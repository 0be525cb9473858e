-- Measuring from the leaves and placing from the root, along one axis. Only some of the nodes are worked out; the
-- others keep what was kept. Cited by src/measuring.rt, src/placing.rt and by `Layouts`.
use Rattle.std.specs.Prelude.{◌≡◌, ◌≢◌, ℕ, ◌<◌, Bool, ◌||◌, not, nat_eq, MatchBool, if◌then◌else◌, List, [], count_by, length, map, slice_index_or}
use Rattle.std.specs.List.{range_with_len}
use Rattle.fx_base.specs.declared.facts.ChildSize.{ChildSize}
use Rattle.fx_base.specs.declared.geometry.Rect.{Rect}
use Rattle.fx_kinds.specs.declared.facts.BoxFacts.{BoxFacts}
use Rattle.fx_look.specs.declared.looks.Look.{Look}
use Rattle.fx_panes_parts.specs.declared.axes.Axis.{Axis}
use Rattle.fx_panes_parts.specs.declared.axes.Axis.TheVariants.{Across, Down}
use Rattle.fx_panes_parts.specs.declared.axes.Extent.{Extent}
use Rattle.fx_panes_parts.specs.declared.axes.Span.{Span}
use Rattle.fx_layout_parts.specs.declared.rules.NodeBox.{NodeBox}
use Rattle.fx_layout_parts.specs.declared.rules.Rule.{Rule}
use Rattle.fx_panes_parts.specs.Lengths.{length_of, pixels}
use Rattle.fx_layout_parts.specs.Rules.{IsHigh, IsWide, across_in, across_span, down_in, down_span}
use Rattle.fx_layout_sweeps.specs.Nodes.{box_at, extent_at, places_at, seen, span_at}

-- a length, of which none is greater than the longest
abbrev pub held_length : ℕ → ℕ
held_length n = length_of (pixels n)

-- a node's lengths along an axis over its children; down they are those in its width
abbrev pub IsMeasured : Axis → NodeBox → List ChildSize → ℕ → Extent → Type 0
IsMeasured Across node children width lengths = IsWide node children lengths
IsMeasured Down node children width lengths = IsHigh node children (held_length width) lengths

-- children as they are seen along an axis: across nothing is known of their heights
abbrev pub seen_along : Axis → Rule → List BoxFacts → List Extent → List Extent → List ℕ → List ChildSize
seen_along Across pane nodes widths lengths places = seen pane nodes lengths [] places
seen_along Down pane nodes widths lengths places = seen pane nodes widths lengths places

-- Where a node is listed its lengths are those that its pane measures over the lengths of its children, and else those
-- that were kept.
abbrev pub IsSettled : Axis → List BoxFacts → List Look → List (List ℕ) → (ℕ → Bool) → List Extent
    → List Span → (ℕ → Extent) → List Extent → ℕ → Type 0
IsSettled axis nodes looks children listed widths spans kept lengths p = MatchBool (listed p)
    (IsMeasured axis (box_at nodes looks p)
    (seen_along axis (box_at nodes looks p).rule nodes widths lengths (places_at children p))
    (span_at spans p).length (extent_at lengths p))
    (extent_at lengths p ≡ kept p)

-- nodes measured from the leaves
abbrev pub AreMeasured : Axis → List BoxFacts → List Look → List (List ℕ) → (ℕ → Bool) → List Extent
    → List Span → (ℕ → Extent) → List Extent → Type 0
AreMeasured axis nodes looks children listed widths spans kept lengths =
    (p : ℕ) → p < length nodes → IsSettled axis nodes looks children listed widths spans kept lengths p

-- where the children of a node stand along an axis in its length
abbrev pub spans_along : Axis → NodeBox → List ChildSize → ℕ → List Span
spans_along Across node children length = across_in node children (held_length length)
spans_along Down node children length = down_in node children (held_length length)

-- a place for each of so many children; one for which there is none stands nowhere
abbrev pub fitted : ℕ → List Span → List Span
fitted count spans = map (span_at spans) (range_with_len 0 count)

-- a node's children are placed anew where it is listed or its length is another than the last
abbrev pub is_worked : (ℕ → Bool) → (ℕ → Span) → List Span → ℕ → Bool
is_worked listed last spans p = listed p || not (nat_eq (span_at spans p).length (last p).length)

-- Where a node is worked on its children stand where its pane puts them in its length, and else where they were kept.
abbrev pub spans_for : Axis → List BoxFacts → List Look → List (List ℕ) → List Extent → List Extent
    → (ℕ → List Span) → ℕ → Bool → ℕ → List Span
spans_for axis nodes looks children widths heights kept p worked length =
    if worked then
    spans_along axis (box_at nodes looks p)
    (seen (box_at nodes looks p).rule nodes widths heights (places_at children p)) length
    else kept p

abbrev pub IsPlacedAt : Axis → List BoxFacts → List Look → List (List ℕ) → (ℕ → Bool) → List Extent
    → List Extent → (ℕ → Span) → (ℕ → List Span) → List Span → ℕ → Type 0
IsPlacedAt axis nodes looks children listed widths heights last kept spans p =
    map (span_at spans) (places_at children p)
    ≡ fitted (length (places_at children p))
    (spans_for axis nodes looks children widths heights kept p (is_worked listed last spans p) (span_at spans p).length)

-- children placed from the root
abbrev pub ArePlaced : Axis → List BoxFacts → List Look → List (List ℕ) → (ℕ → Bool) → List Extent
    → List Extent → (ℕ → Span) → (ℕ → List Span) → List Span → Type 0
ArePlaced axis nodes looks children listed widths heights last kept spans =
    (p : ℕ) → p < length nodes → IsPlacedAt axis nodes looks children listed widths heights last kept spans p

-- the place that is kept for a node, and where its children are kept
abbrev pub old_at : List ℕ → ℕ → ℕ
old_at olds p = slice_index_or olds p 0

abbrev pub last_in : List ℕ → List Span → ℕ → Span
last_in olds old_spans p = span_at old_spans (old_at olds p)

abbrev pub kept_in : List ℕ → List (List ℕ) → List Span → ℕ → List Span
kept_in olds old_children old_spans p = map (span_at old_spans) (places_at old_children (old_at olds p))

-- where the children of a node are kept where nodes stand where they stood
abbrev pub kept_here : List (List ℕ) → List Span → ℕ → List Span
kept_here children spans p = map (span_at spans) (places_at children p)

abbrev pub half : Axis → Rect → Span
half Across rect = across_span rect
half Down rect = down_span rect

-- spans put at places: the first at the first place, and so on; those at other places stay
pub record IsPut (places : List ℕ) (found old new : List Span) : Type 0 where
  pub each : length new ≡ length old
  pub put : (k d : ℕ) → k < length places → span_at new (slice_index_or places k d) ≡ span_at found k
  pub other : (q : ℕ) → ((k d : ℕ) → k < length places → slice_index_or places k d ≢ q)
      → span_at new q ≡ span_at old q

-- how many of so many places pass a test
abbrev pub tally : (ℕ → Bool) → ℕ → ℕ
tally test n = count_by test (range_with_len 0 n)
