-- One turn of measuring from the leaves.
use Rattle.std.proofs.Common.{refl, sym, subst, ap, ◌∙◌, ◌≡◌, ◌≢◌, ◌==◌, ℕ, ◌+◌, ◌<◌, ◌≤◌, Bool, true, false, All, List, [], MatchBool, length, map, slice_index_or, slice_set, inl, inr, arith}
use Rattle.std.proofs.lemmas.List.{ext_get_or, get_or-map, get_or-set_same, get_or-set_other, length-map, length-set}
use Rattle.fx_base.specs.declared.facts.ChildSize.{ChildSize}
use Rattle.fx_kinds.specs.declared.facts.BoxFacts.{BoxFacts}
use Rattle.fx_look.specs.declared.looks.Look.{Look}
use Rattle.fx_panes_parts.specs.declared.axes.Axis.{Axis}
use Rattle.fx_panes_parts.specs.declared.axes.Axis.TheVariants.{Across, Down}
use Rattle.fx_panes_parts.specs.declared.axes.Extent.{Extent}
use Rattle.fx_panes_parts.specs.declared.axes.Span.{Span}
use Rattle.fx_layout_parts.specs.declared.rules.Rule.{Rule}
use Rattle.fx_layout_sweeps.specs.Nodes.{box_at, child_at, extent_at, node_at, places_at, span_at, unknown}
use Rattle.std.proofs.Math.Numerals.{lt_of_le_of_ne}
use Rattle.std.proofs.lemmas.Bool.{cases_lt, eqb-true, eqb-false, true≢false}
use Rattle.fx_layout_parts.specs.Children.{child_of}
use Rattle.fx_layout_sweeps.specs.Sweeps.{IsMeasured, IsSettled, seen_along}

-- all children of each place stand behind it
abbrev pub AreBehind : List (List ℕ) → ℕ → Type 0
AreBehind children n = (p : ℕ) → p < n → All (λ j. p < j) (places_at children p)

-- a map over places at which two functions agree
pub map_same : {X : Type 0} (f g : ℕ → X) (d : X) (places : List ℕ) → All (λ j. f j ≡ g j) places → map f places ≡ map g places
map_same f g d places agree =
    ext_get_or d (map f places) (map g places) (length-map places f ∙ sym (length-map places g))
    (λ i within.
    let few : i < length places = subst (λ n. i < n) (length-map places f) within in
    get_or-map f places i 0 d few ∙ (agree i 0 few ∙ sym (get_or-map g places i 0 d few)))

-- what a pane sees hangs on the lengths of its children alone
seen_same : (axis : Axis) (pane : Rule) (nodes : List BoxFacts) (widths xs ys : List Extent) (places : List ℕ) (d : ChildSize)
    → All (λ j. extent_at xs j ≡ extent_at ys j) places
    → seen_along axis pane nodes widths xs places ≡ seen_along axis pane nodes widths ys places
seen_same Across pane nodes widths xs ys places d agree =
    map_same (child_at pane nodes xs []) (child_at pane nodes ys []) d places
    (λ i e within. ap (λ (x : Extent). child_of pane (node_at nodes (slice_index_or places i e)) x unknown) (agree i e within))
seen_same Down pane nodes widths xs ys places d agree =
    map_same (child_at pane nodes widths xs) (child_at pane nodes widths ys) d places
    (λ i e within. ap (λ (x : Extent). child_of pane (node_at nodes (slice_index_or places i e))
    (extent_at widths (slice_index_or places i e)) x) (agree i e within))

-- the measuring of a list of nodes has come to a place: those from it on are settled, and those before it are as before
pub record IsSwept (axis : Axis) (nodes : List BoxFacts) (looks : List Look) (children : List (List ℕ)) (listed : ℕ → Bool)
    (widths : List Extent) (spans : List Span) (start lengths : List Extent) (p : ℕ) : Type 0 where
  pub each : length lengths ≡ length nodes
  pub front : (q : ℕ) → q < p → extent_at lengths q ≡ extent_at start q
  pub back : (q : ℕ) → p ≤ q → q < length nodes
      → IsSettled axis nodes looks children listed widths spans (extent_at start) lengths q

pub swept_start : (axis : Axis) (nodes : List BoxFacts) (looks : List Look) (children : List (List ℕ)) (listed : ℕ → Bool)
    (widths : List Extent) (spans : List Span) (start : List Extent) → length start ≡ length nodes
    → IsSwept axis nodes looks children listed widths spans start start (length nodes)
swept_start axis nodes looks children listed widths spans start each =
    record {
      each = each;
      front = λ q before. refl;
      back = λ q from within. absurd (omega (arith, from, within));
    }

-- what is made of a place
abbrev pub IsMade : Axis → List BoxFacts → List Look → List (List ℕ) → (ℕ → Bool) → List Extent → List Span
    → List Extent → ℕ → Extent → Type 0
IsMade axis nodes looks children listed widths spans lengths p made = MatchBool (listed p)
    (IsMeasured axis (box_at nodes looks p)
    (seen_along axis (box_at nodes looks p).rule nodes widths lengths (places_at children p))
    (span_at spans p).length made)
    (made ≡ extent_at lengths p)

-- a settled place stays settled where neither its lengths nor those of its children change
settled_still : (axis : Axis) (nodes : List BoxFacts) (looks : List Look) (children : List (List ℕ)) (widths : List Extent)
    (spans : List Span) (start : ℕ → Extent) (xs ys : List Extent) (q : ℕ) (d : ChildSize) (b : Bool)
    → extent_at xs q ≡ extent_at ys q → All (λ j. extent_at xs j ≡ extent_at ys j) (places_at children q)
    → MatchBool b
    (IsMeasured axis (box_at nodes looks q)
    (seen_along axis (box_at nodes looks q).rule nodes widths xs (places_at children q))
    (span_at spans q).length (extent_at xs q))
    (extent_at xs q ≡ start q)
    → MatchBool b
    (IsMeasured axis (box_at nodes looks q)
    (seen_along axis (box_at nodes looks q).rule nodes widths ys (places_at children q))
    (span_at spans q).length (extent_at ys q))
    (extent_at ys q ≡ start q)
settled_still axis nodes looks children widths spans start xs ys q d true here below was =
    subst (λ (e : Extent). IsMeasured axis (box_at nodes looks q)
    (seen_along axis (box_at nodes looks q).rule nodes widths ys (places_at children q)) (span_at spans q).length e) here
    (subst (λ (l : List ChildSize). IsMeasured axis (box_at nodes looks q) l (span_at spans q).length (extent_at xs q))
    (seen_same axis (box_at nodes looks q).rule nodes widths xs ys (places_at children q) d below) was)
settled_still axis nodes looks children widths spans start xs ys q d false here below was = sym here ∙ was

made_settled : (axis : Axis) (nodes : List BoxFacts) (looks : List Look) (children : List (List ℕ)) (widths : List Extent)
    (spans : List Span) (start : ℕ → Extent) (xs ys : List Extent) (q : ℕ) (made : Extent) (d : ChildSize) (b : Bool)
    → extent_at ys q ≡ made → extent_at xs q ≡ start q → All (λ j. extent_at xs j ≡ extent_at ys j) (places_at children q)
    → MatchBool b
    (IsMeasured axis (box_at nodes looks q)
    (seen_along axis (box_at nodes looks q).rule nodes widths xs (places_at children q))
    (span_at spans q).length made)
    (made ≡ extent_at xs q)
    → MatchBool b
    (IsMeasured axis (box_at nodes looks q)
    (seen_along axis (box_at nodes looks q).rule nodes widths ys (places_at children q))
    (span_at spans q).length (extent_at ys q))
    (extent_at ys q ≡ start q)
made_settled axis nodes looks children widths spans start xs ys q made d true put kept below was =
    subst (λ (e : Extent). IsMeasured axis (box_at nodes looks q)
    (seen_along axis (box_at nodes looks q).rule nodes widths ys (places_at children q)) (span_at spans q).length e) (sym put)
    (subst (λ (l : List ChildSize). IsMeasured axis (box_at nodes looks q) l (span_at spans q).length made)
    (seen_same axis (box_at nodes looks q).rule nodes widths xs ys (places_at children q) d below) was)
made_settled axis nodes looks children widths spans start xs ys q made d false put kept below was = put ∙ (was ∙ kept)

pub swept_more : (axis : Axis) (nodes : List BoxFacts) (looks : List Look) (children : List (List ℕ)) (listed : ℕ → Bool)
    (widths : List Extent) (spans : List Span) (start lengths : List Extent) (p m : ℕ) (made : Extent) (d : ChildSize)
    → AreBehind children (length nodes) → m + 1 ≡ p → m < length nodes
    → IsSwept axis nodes looks children listed widths spans start lengths p
    → IsMade axis nodes looks children listed widths spans lengths m made
    → IsSwept axis nodes looks children listed widths spans start (slice_set lengths m made) m
swept_more axis nodes looks children listed widths spans start lengths p m made d behind next within swept is_made =
    record {
      each = length-set lengths m made ∙ swept.each;
      front = λ q before. other q (omega (arith, before)) ∙ swept.front q (omega (arith, before, next));
      back = λ q from few. settle q from few (m == q) refl;
    }
  where
    after : List Extent
    after = slice_set lengths m made

    other : (q : ℕ) → q ≢ m → extent_at after q ≡ extent_at lengths q
    other q differ = get_or-set_other lengths m q made unknown differ

    below : (q : ℕ) → m ≤ q → q < length nodes → All (λ j. extent_at lengths j ≡ extent_at after j) (places_at children q)
    below q from few i e inside =
        let late = behind q few i e inside in
        sym (other (slice_index_or (places_at children q) i e) (λ same. omega (arith, late, from, same)))

    settle : (q : ℕ) → m ≤ q → q < length nodes → (b : Bool) → (m == q) ≡ b
        → IsSettled axis nodes looks children listed widths spans (extent_at start) after q
    settle q from few true same =
        let at : m ≡ q = eqb-true m q same in
        subst (λ k. IsSettled axis nodes looks children listed widths spans (extent_at start) after k) at
        (made_settled axis nodes looks children widths spans (extent_at start) lengths after m made d (listed m)
        (get_or-set_same lengths m made unknown (omega (arith, within, swept.each)))
        (swept.front m (omega (arith, next))) (below m (omega arith) within) is_made)
    settle q from few false differ =
        let apart : m ≢ q = eqb-false m q differ in
        let late : m < q = lt_of_le_of_ne from apart in
        let past : p ≤ q = omega (arith, next, late) in
        settled_still axis nodes looks children widths spans (extent_at start) lengths after q d (listed q)
        (sym (other q (λ same. apart (sym same)))) (below q from few) (swept.back q past few)

-- places that aren't listed are settled by what they keep
pub swept_idle : (axis : Axis) (nodes : List BoxFacts) (looks : List Look) (children : List (List ℕ)) (listed : ℕ → Bool)
    (widths : List Extent) (spans : List Span) (start lengths : List Extent) (p m : ℕ)
    → ((q : ℕ) → m ≤ q → q < p → listed q ≡ false)
    → IsSwept axis nodes looks children listed widths spans start lengths p → m ≤ p
    → IsSwept axis nodes looks children listed widths spans start lengths m
swept_idle axis nodes looks children listed widths spans start lengths p m idle swept before =
    record {
      each = swept.each;
      front = λ q early. swept.front q (omega (arith, early, before));
      back = λ q from within. elim (cases_lt q p) [
        | inl early ↦ kept q (listed q) (idle q from early) (swept.front q early)
        | inr late ↦ swept.back q late within
      ];
    }
  where
    kept : (q : ℕ) → (b : Bool) → b ≡ false → extent_at lengths q ≡ extent_at start q
        → MatchBool b
        (IsMeasured axis (box_at nodes looks q)
        (seen_along axis (box_at nodes looks q).rule nodes widths lengths (places_at children q))
        (span_at spans q).length (extent_at lengths q))
        (extent_at lengths q ≡ extent_at start q)
    kept q true free same = absurd (true≢false free)
    kept q false free same = same

-- what is measured of a listed place is made of it
pub listed_made : (axis : Axis) (nodes : List BoxFacts) (looks : List Look) (children : List (List ℕ)) (listed : ℕ → Bool)
    (widths : List Extent) (spans : List Span) (lengths : List Extent) (p : ℕ) (made : Extent) → listed p ≡ true
    → IsMeasured axis (box_at nodes looks p)
    (seen_along axis (box_at nodes looks p).rule nodes widths lengths (places_at children p)) (span_at spans p).length made
    → IsMade axis nodes looks children listed widths spans lengths p made
listed_made axis nodes looks children listed widths spans lengths p made is_listed measured =
    subst (λ b. MatchBool b
    (IsMeasured axis (box_at nodes looks p)
    (seen_along axis (box_at nodes looks p).rule nodes widths lengths (places_at children p)) (span_at spans p).length made)
    (made ≡ extent_at lengths p)) (sym is_listed) measured
