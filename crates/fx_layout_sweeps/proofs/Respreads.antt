-- One turn of placing from the root where nodes stand where they stood.
use Rattle.std.proofs.Common.{refl, sym, subst, ap, ◌∙◌, ◌≡◌, ◌≢◌, ◌⊎◌, ◌==◌, ◌&&◌, ℕ, zero, suc, ◌+◌, ◌<◌, ◌≤◌, Bool, true, false, not, ◌||◌, nat_eq, cond, All, AllPairs, List, [], ◌∷◌, length, map, slice_index_or, slice_set, inl, inr, arith}
use Rattle.std.proofs.lemmas.Bool.{cases_lt, eq-eqb, eqb-true, eqb-false}
use Rattle.std.proofs.lemmas.List.{ext_get_or, get_or_default, get_or-set_same, get_or-set_other, length-map}
use Rattle.std.proofs.lemmas.List.FromFn.{get_or-map-range_with_len, length-map-range_with_len}
use Rattle.std.proofs.Math.Numerals.{lt_of_le_of_ne}
use Rattle.fx_kinds.specs.declared.facts.BoxFacts.{BoxFacts}
use Rattle.fx_look.specs.declared.looks.Look.{Look}
use Rattle.fx_panes_parts.specs.declared.axes.Axis.{Axis}
use Rattle.fx_panes_parts.specs.declared.axes.Extent.{Extent}
use Rattle.fx_panes_parts.specs.declared.axes.Span.{Span}
use Rattle.fx_layout_sweeps.specs.Marks.{AreUnmarked, flag_in}
use Rattle.fx_layout_sweeps.specs.Nodes.{box_at, nowhere, places_at, seen, span_at}
use Rattle.fx_layout_sweeps.specs.Sweeps.{IsPlacedAt, IsPut, fitted, is_worked, kept_here, spans_along, spans_for, tally}
use Rattle.fx_layout_sweeps.proofs.Spreads.{AreKnown, IsPutTo, placed_still, put_placed}
use Rattle.fx_layout_sweeps.proofs.Tallies.{tally_more, tally_same}
use Rattle.fx_layout_sweeps.proofs.Turns.{map_same}

-- what is placed, and where the nodes stood
pub record Task : Type 0 where
  pub axis : Axis
  pub nodes : List BoxFacts
  pub looks : List Look
  pub children : List (List ℕ)
  pub listed : List Bool
  pub widths : List Extent
  pub heights : List Extent
  pub start : List Span

abbrev kids : Task → ℕ → List ℕ
kids t q = places_at t.children q

abbrev pub IsPlacedIn : Task → List Span → ℕ → Type 0
IsPlacedIn t spans q = IsPlacedAt t.axis t.nodes t.looks t.children (flag_in t.listed) t.widths t.heights
    (span_at t.start) (kept_here t.children t.start) spans q

-- the spans of the children of a node, by whether it is worked on
abbrev made : Task → ℕ → Bool → ℕ → List Span
made t q worked room = spans_for t.axis t.nodes t.looks t.children t.widths t.heights (kept_here t.children t.start) q worked room

-- the placing has come to a place: the children of the nodes before it are placed, those of the others stand as before,
-- and the marks are those of the nodes that are worked on
pub record IsRespread (t : Task) (flags : List Bool) (spans : List Span) (p : ℕ) : Type 0 where
  pub each : length spans ≡ length t.nodes
  pub each_flag : length flags ≡ length t.nodes
  pub root : span_at spans 0 ≡ span_at t.start 0
  pub placed : (q : ℕ) → q < p → q < length t.nodes → IsPlacedIn t spans q
  pub fresh : (q : ℕ) → p ≤ q → q < length t.nodes → All (λ j. span_at spans j ≡ span_at t.start j) (places_at t.children q)
  pub marked : (q : ℕ) → q < length t.nodes → flag_in flags q ≡ is_worked (flag_in t.listed) (span_at t.start) spans q

or_none : (b : Bool) → (b || false) ≡ b
or_none true = refl
or_none false = refl

or_still : (b : Bool) (n : ℕ) → (b || not (nat_eq n n)) ≡ b
or_still b n = ap (λ c. b || not c) (eq-eqb n n refl) ∙ or_none b

-- a mark for what changed in two steps, of which one changes nothing
changed : (b : Bool) (x y z : ℕ) → (x ≡ y) ⊎ (y ≡ z) → ((b || not (nat_eq y z)) || not (nat_eq x y)) ≡ (b || not (nat_eq x z))
changed b x y z (inl same) =
    subst (λ n. ((b || not (nat_eq y z)) || not (nat_eq n y)) ≡ (b || not (nat_eq n z))) (sym same)
    (or_still (b || not (nat_eq y z)) y)
changed b x y z (inr same) =
    subst (λ n. ((b || not (nat_eq n z)) || not (nat_eq x n)) ≡ (b || not (nat_eq x z))) (sym same)
    (ap (λ c. c || not (nat_eq x z)) (or_still b z))

-- a place that is worked on after two steps, of which one leaves it as it is
pub worked_then : (flags between : ℕ → Bool) (old mid : ℕ → Span) (new : List Span) (q : ℕ)
    → between q ≡ (flags q || not (nat_eq (mid q).length (old q).length)) → (span_at new q ≡ mid q) ⊎ (mid q ≡ old q)
    → is_worked between mid new q ≡ is_worked flags old new q
worked_then flags between old mid new q was one_still =
    ap (λ b. b || not (nat_eq (span_at new q).length (mid q).length)) was
    ∙ changed (flags q) (span_at new q).length (mid q).length (old q).length (lengths one_still)
  where
    lengths : (span_at new q ≡ mid q) ⊎ (mid q ≡ old q)
        → ((span_at new q).length ≡ (mid q).length) ⊎ ((mid q).length ≡ (old q).length)
    lengths (inl same) = inl (ap (λ (s : Span). s.length) same)
    lengths (inr same) = inr (ap (λ (s : Span). s.length) same)

pub not_worked : (flags : List Bool) (spans : List Span) (q : ℕ)
    → flag_in flags q ≡ is_worked (flag_in flags) (span_at spans) spans q
not_worked flags spans q = sym (or_still (flag_in flags q) (span_at spans q).length)

pub respread_start : (t : Task) → length t.start ≡ length t.nodes → length t.listed ≡ length t.nodes
    → IsRespread t t.listed t.start 0
respread_start t each each_flag =
    record {
      each = each;
      each_flag = each_flag;
      root = refl;
      placed = λ q before within. absurd (omega (arith, before));
      fresh = λ q from within i d few. refl;
      marked = λ q within. sym (or_still (flag_in t.listed q) (span_at t.start q).length);
    }

pub fitted_all : (xs : List Span) (n : ℕ) → length xs ≡ n → fitted n xs ≡ xs
fitted_all xs n long =
    ext_get_or nowhere (fitted n xs) xs (length-map-range_with_len (span_at xs) 0 n ∙ sym long)
    (λ i within.
    let few : i < n = subst (λ m. i < m) (length-map-range_with_len (span_at xs) 0 n) within in
    get_or-map-range_with_len (span_at xs) 0 n i i nowhere few (omega arith))

-- nodes that aren't marked are passed over
pub respread_idle : (t : Task) (flags : List Bool) (spans : List Span) (p m : ℕ) → p ≤ m → AreUnmarked flags p m
    → IsRespread t flags spans p → IsRespread t flags spans m
respread_idle t flags spans p m late idle spread =
    record {
      each = spread.each;
      each_flag = spread.each_flag;
      root = spread.root;
      placed = λ q before few. elim (cases_lt q p) [
        | inl early ↦ spread.placed q early few
        | inr from ↦ kept q few from (sym (spread.marked q few) ∙ idle q from before)
      ];
      fresh = λ q from few. spread.fresh q (omega (arith, late, from)) few;
      marked = spread.marked;
    }
  where
    kept : (q : ℕ) → q < length t.nodes → p ≤ q → is_worked (flag_in t.listed) (span_at t.start) spans q ≡ false
        → IsPlacedIn t spans q
    kept q few from free =
        let room = (span_at spans q).length in
        map_same (span_at spans) (span_at t.start) nowhere (kids t q) (spread.fresh q from few)
        ∙ (sym (fitted_all (map (span_at t.start) (kids t q)) (length (kids t q)) (length-map (kids t q) (span_at t.start)))
        ∙ ap (λ b. fitted (length (kids t q)) (made t q b room)) (sym free))

-- a number is in a list, or nowhere there
found_or_not : (places : List ℕ) (q : ℕ) → ((k : ℕ) × (k < length places) × (slice_index_or places k 0 ≡ q))
    ⊎ ((k d : ℕ) → k < length places → slice_index_or places k d ≢ q)
found_or_not [] q = inr (λ k d few same. omega (arith, few))
found_or_not (x ∷ xs) q = first (x == q) refl (found_or_not xs q)
  where
    rest : x ≢ q → ((k : ℕ) × (k < length xs) × (slice_index_or xs k 0 ≡ q))
        ⊎ ((k d : ℕ) → k < length xs → slice_index_or xs k d ≢ q)
        → ((k : ℕ) × (k < length (x ∷ xs)) × (slice_index_or (x ∷ xs) k 0 ≡ q))
        ⊎ ((k d : ℕ) → k < length (x ∷ xs) → slice_index_or (x ∷ xs) k d ≢ q)
    rest other (inl found) = inl (suc found.0, omega (arith, found.1), found.2)
    rest other (inr none) = inr (λ k d few. at k d few)
      where
        at : (k d : ℕ) → k < length (x ∷ xs) → slice_index_or (x ∷ xs) k d ≢ q
        at zero d few = other
        at (suc k) d few = none k d (omega (arith, few))

    first : (b : Bool) → (x == q) ≡ b → ((k : ℕ) × (k < length xs) × (slice_index_or xs k 0 ≡ q))
        ⊎ ((k d : ℕ) → k < length xs → slice_index_or xs k d ≢ q)
        → ((k : ℕ) × (k < length (x ∷ xs)) × (slice_index_or (x ∷ xs) k 0 ≡ q))
        ⊎ ((k d : ℕ) → k < length (x ∷ xs) → slice_index_or (x ∷ xs) k d ≢ q)
    first true same later = inl (0, omega arith, eqb-true x q same)
    first false differ later = rest (eqb-false x q differ) later

-- the children of a node are put where its pane puts them, and those that have another length then are marked
pub record IsTurn (t : Task) (flags after_flags : List Bool) (spans after : List Span) (p : ℕ) : Type 0 where
  pub within : p < length t.nodes
  pub is_marked : flag_in flags p ≡ true
  pub put : IsPut (places_at t.children p) (spans_along t.axis (box_at t.nodes t.looks p)
      (seen (box_at t.nodes t.looks p).rule t.nodes t.widths t.heights (places_at t.children p)) (span_at spans p).length)
      spans after
  pub each_flag : length after_flags ≡ length flags
  pub marks : (q : ℕ) → q < length flags → flag_in after_flags q ≡ is_worked (flag_in flags) (span_at spans) after q

-- what stands up to the place stays
still : (t : Task) (flags after_flags : List Bool) (spans after : List Span) (p : ℕ) → AreKnown t.children (length t.nodes)
    → IsTurn t flags after_flags spans after p → (q : ℕ) → q ≤ p → span_at after q ≡ span_at spans q
still t flags after_flags spans after p known turn q before =
    turn.put.other q (λ k d few same. omega (arith, known.behind p turn.within k d few, same, before))

pub respread_more : (t : Task) (flags after_flags : List Bool) (spans after : List Span) (p : ℕ)
    → AreKnown t.children (length t.nodes) → IsRespread t flags spans p → IsTurn t flags after_flags spans after p
    → IsRespread t after_flags after (p + 1)
respread_more t flags after_flags spans after p known spread turn =
    record {
      each = turn.put.each ∙ spread.each;
      each_flag = turn.each_flag ∙ spread.each_flag;
      root = stays 0 (omega arith) ∙ spread.root;
      placed = λ q before few. placed_at q before few (p == q) refl;
      fresh = λ q from few i d inside.
          others q few (λ same. omega (arith, from, same)) i d inside ∙ spread.fresh q (omega (arith, from)) few i d inside;
      marked = λ q few. marked_at q few;
    }
  where
    stays : (q : ℕ) → q ≤ p → span_at after q ≡ span_at spans q
    stays q before = still t flags after_flags spans after p known turn q before

    -- the children of another node stay
    others : (q : ℕ) → q < length t.nodes → p ≢ q → All (λ j. span_at after j ≡ span_at spans j) (kids t q)
    others q few differ i d inside =
        turn.put.other (slice_index_or (kids t q) i d)
        (λ k e there same. known.apart p q turn.within few differ k i e d there inside same)

    placed_at : (q : ℕ) → q < p + 1 → q < length t.nodes → (b : Bool) → (p == q) ≡ b → IsPlacedIn t after q
    placed_at q before few true same =
        let busy : true ≡ is_worked (flag_in t.listed) (span_at t.start) spans p =
        sym turn.is_marked ∙ spread.marked p turn.within in
        subst (λ k. IsPlacedIn t after k) (eqb-true p q same)
        (put_placed after (kids t p) _ spans turn.put
        ∙ (ap (λ b. fitted (length (kids t p)) (made t p b (span_at spans p).length)) busy
        ∙ ap (λ (s : Span). fitted (length (kids t p)) (made t p
        (flag_in t.listed p || not (nat_eq s.length (span_at t.start p).length)) s.length)) (sym (stays p (omega arith)))))
    placed_at q before few false differ =
        let apart : p ≢ q = eqb-false p q differ in
        let less : q < p = lt_of_le_of_ne (omega (arith, before)) (λ same. apart (sym same)) in
        placed_still t.axis t.nodes t.looks t.children (flag_in t.listed) t.widths t.heights (span_at t.start)
        (kept_here t.children t.start) spans after q (sym (stays q (omega (arith, before))))
        (λ i d inside. sym (others q few apart i d inside)) (spread.placed q less few)

    one_still : (q : ℕ) → (span_at after q ≡ span_at spans q) ⊎ (span_at spans q ≡ span_at t.start q)
    one_still q = elim (found_or_not (kids t p) q) [
      | inl child ↦ inr (subst (λ j. span_at spans j ≡ span_at t.start j) child.2
          (spread.fresh p (omega arith) turn.within child.0 0 child.1))
      | inr none ↦ inl (turn.put.other q none)
    ]

    marked_at : (q : ℕ) → q < length t.nodes → flag_in after_flags q ≡ is_worked (flag_in t.listed) (span_at t.start) after q
    marked_at q few =
        turn.marks q (omega (arith, few, spread.each_flag))
        ∙ worked_then (flag_in t.listed) (flag_in flags) (span_at t.start) (span_at spans) after q (spread.marked q few)
        (one_still q)

-- a turn counts its node
pub tally_turn : (t : Task) (flags after_flags : List Bool) (spans after : List Span) (p : ℕ)
    → AreKnown t.children (length t.nodes) → length flags ≡ length t.nodes → IsTurn t flags after_flags spans after p
    → tally (flag_in after_flags) (p + 1) ≡ tally (flag_in flags) p + 1
tally_turn t flags after_flags spans after p known each turn =
    let same : (q : ℕ) → q ≤ p → flag_in after_flags q ≡ flag_in flags q =
    λ q before.
    turn.marks q (omega (arith, before, turn.within, each))
    ∙ (ap (λ (s : Span). flag_in flags q || not (nat_eq s.length (span_at spans q).length))
    (still t flags after_flags spans after p known turn q before)
    ∙ or_still (flag_in flags q) (span_at spans q).length) in
    let front = tally_same (flag_in after_flags) (flag_in flags) p (λ q less. same q (omega (arith, less))) in
    let here : flag_in after_flags p ≡ true = same p (omega arith) ∙ turn.is_marked in
    tally_more (flag_in after_flags) p
    ∙ (ap (λ n. n + cond (flag_in after_flags p) 1 0) front ∙ ap (λ b. tally (flag_in flags) p + cond b 1 0) here)

-- a span is put at a place, and the place marked if its length is another one then
pub put_marked : (spans : List Span) (flags after : List Bool) (place q : ℕ) (span : Span) → place < length spans
    → flag_in after q ≡ (flag_in flags q || ((place == q) && not (nat_eq span.length (span_at spans place).length)))
    → flag_in after q ≡ is_worked (flag_in flags) (span_at spans) (slice_set spans place span) q
put_marked spans flags after place q span within is = by (place == q) refl
  where
    by : (b : Bool) → (place == q) ≡ b
        → flag_in after q ≡ is_worked (flag_in flags) (span_at spans) (slice_set spans place span) q
    by true same =
        is
        ∙ (ap (λ b. flag_in flags q || (b && not (nat_eq span.length (span_at spans place).length))) same
        ∙ subst (λ m. (flag_in flags m || not (nat_eq span.length (span_at spans place).length))
        ≡ is_worked (flag_in flags) (span_at spans) (slice_set spans place span) m) (eqb-true place q same)
        (ap (λ (s : Span). flag_in flags place || not (nat_eq s.length (span_at spans place).length))
        (sym (get_or-set_same spans place span nowhere within))))
    by false differ =
        let kept : span_at (slice_set spans place span) q ≡ span_at spans q =
        get_or-set_other spans place q span nowhere (λ same. eqb-false place q differ (sym same)) in
        is
        ∙ (ap (λ b. flag_in flags q || (b && not (nat_eq span.length (span_at spans place).length))) differ
        ∙ (or_none (flag_in flags q)
        ∙ (sym (or_still (flag_in flags q) (span_at spans q).length)
        ∙ ap (λ (s : Span). flag_in flags q || not (nat_eq s.length (span_at spans q).length)) (sym kept))))

-- and so with the next of several places
pub moved_more : (places : List ℕ) (found old now : List Span) (before flags after : List Bool) (i d n : ℕ) (span : Span)
    → AllPairs (λ x y. x ≢ y) places → i < length places → IsPutTo places found old now i
    → ((q : ℕ) → q < n → flag_in flags q ≡ is_worked (flag_in before) (span_at old) now q)
    → ((q : ℕ) → q < n
    → flag_in after q ≡ is_worked (flag_in flags) (span_at now) (slice_set now (slice_index_or places i d) span) q)
    → (q : ℕ) → q < n
    → flag_in after q ≡ is_worked (flag_in before) (span_at old) (slice_set now (slice_index_or places i d) span) q
moved_more places found old now before flags after i d n span apart within so_far was is q few =
    is q few
    ∙ worked_then (flag_in before) (flag_in flags) (span_at old) (span_at now) (slice_set now at span) q (was q few)
    (one_still (at == q) refl)
  where
    at : ℕ
    at = slice_index_or places i d

    one_still : (b : Bool) → (at == q) ≡ b
        → (span_at (slice_set now at span) q ≡ span_at now q) ⊎ (span_at now q ≡ span_at old q)
    one_still true same =
        inr (subst (λ m. span_at now m ≡ span_at old m) (eqb-true at q same)
        (so_far.other at (λ k e early inside equal. apart k i e early within (equal ∙ get_or_default places i d e within))))
    one_still false differ =
        inl (get_or-set_other now at q span nowhere (λ same. eqb-false at q differ (sym same)))
