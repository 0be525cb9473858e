-- A sweep sees marks and what is kept at the places of its nodes alone.
use Rattle.std.proofs.Common.{subst, ◌≡◌, ℕ, ◌<◌, Bool, ◌||◌, not, nat_eq, MatchBool, List, length, map}
use Rattle.fx_kinds.specs.declared.facts.BoxFacts.{BoxFacts}
use Rattle.fx_look.specs.declared.looks.Look.{Look}
use Rattle.fx_panes_parts.specs.declared.axes.Axis.{Axis}
use Rattle.fx_panes_parts.specs.declared.axes.Extent.{Extent}
use Rattle.fx_panes_parts.specs.declared.axes.Span.{Span}
use Rattle.fx_layout_sweeps.specs.Nodes.{box_at, extent_at, places_at, span_at}
use Rattle.fx_layout_sweeps.specs.Sweeps.{AreMeasured, ArePlaced, IsMeasured, fitted, is_worked, seen_along, spans_for}

pub measured_as : (axis : Axis) (nodes : List BoxFacts) (looks : List Look) (children : List (List ℕ))
    (marked listed : ℕ → Bool) (widths : List Extent) (spans : List Span) (kept old : ℕ → Extent) (lengths : List Extent)
    → ((p : ℕ) → p < length nodes → marked p ≡ listed p) → ((p : ℕ) → p < length nodes → kept p ≡ old p)
    → AreMeasured axis nodes looks children marked widths spans kept lengths
    → AreMeasured axis nodes looks children listed widths spans old lengths
measured_as axis nodes looks children marked listed widths spans kept old lengths marks olds are p within =
    let measured = IsMeasured axis (box_at nodes looks p)
    (seen_along axis (box_at nodes looks p).rule nodes widths lengths (places_at children p))
    (span_at spans p).length (extent_at lengths p) in
    subst (λ (o : Extent). MatchBool (listed p) measured (extent_at lengths p ≡ o)) (olds p within)
    (subst (λ (b : Bool). MatchBool b measured (extent_at lengths p ≡ kept p)) (marks p within) (are p within))

pub placed_as : (axis : Axis) (nodes : List BoxFacts) (looks : List Look) (children : List (List ℕ))
    (marked listed : ℕ → Bool) (widths heights : List Extent) (last : ℕ → Span) (kept : ℕ → List Span) (spans : List Span)
    → ((p : ℕ) → p < length nodes → marked p ≡ listed p)
    → ArePlaced axis nodes looks children marked widths heights last kept spans
    → ArePlaced axis nodes looks children listed widths heights last kept spans
placed_as axis nodes looks children marked listed widths heights last kept spans marks are p within =
    let room = (span_at spans p).length in
    subst (λ (b : Bool). map (span_at spans) (places_at children p) ≡ fitted (length (places_at children p))
    (spans_for axis nodes looks children widths heights kept p (b || not (nat_eq room (last p).length)) room))
    (marks p within) (are p within)

-- also where other nodes are marked and what stood is told otherwise, if the same nodes are worked on
pub placed_alike : (axis : Axis) (nodes : List BoxFacts) (looks : List Look) (children : List (List ℕ))
    (marked listed : ℕ → Bool) (widths heights : List Extent) (last before : ℕ → Span) (kept held : ℕ → List Span)
    (spans : List Span)
    → ((p : ℕ) → p < length nodes → is_worked marked last spans p ≡ is_worked listed before spans p)
    → ((p : ℕ) → p < length nodes → kept p ≡ held p)
    → ArePlaced axis nodes looks children marked widths heights last kept spans
    → ArePlaced axis nodes looks children listed widths heights before held spans
placed_alike axis nodes looks children marked listed widths heights last before kept held spans works keeps are p within =
    let room = (span_at spans p).length in
    let count = length (places_at children p) in
    subst (λ (l : List Span). map (span_at spans) (places_at children p) ≡ fitted count
    (spans_for axis nodes looks children widths heights (λ q. l) p (is_worked listed before spans p) room)) (keeps p within)
    (subst (λ (b : Bool). map (span_at spans) (places_at children p) ≡ fitted count
    (spans_for axis nodes looks children widths heights kept p b room)) (works p within) (are p within))
