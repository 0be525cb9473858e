-- Lists that are brought to what others are, at marked places and their children.
use Rattle.std.proofs.Common.{refl, sym, subst, ap, ◌∙◌, ◌≡◌, ◌≢◌, ◌⊎◌, ◌==◌, ℕ, zero, suc, ◌+◌, ◌<◌, ◌≤◌, Bool, true, false, All, List, length, slice_index_or, slice_set, inl, inr, arith}
use Rattle.std.proofs.lemmas.Bool.{cases_lt, eqb-true, eqb-false}
use Rattle.std.proofs.lemmas.List.{ext_get_or, get_or_default, get_or-set_same, get_or-set_other, length-map, length-set}
use Rattle.std.proofs.Math.Numerals.{lt_of_le_of_ne}
use Rattle.fx_kinds.specs.declared.facts.BoxFacts.{BoxFacts}
use Rattle.fx_panes_parts.specs.declared.axes.Span.{Span}
use Rattle.fx_layout_sweeps.specs.Marks.{AreUnmarked, flag_in}
use Rattle.fx_layout_sweeps.specs.Nodes.{AreNodes, children_lists, nowhere, parents, places_at, span_at}
use Rattle.fx_layout.proofs.One.{of_its_parent}

-- a place of a list gets what stands there elsewhere; then all is alike there, and where it was
pub set_alike : {A : Type 0} → (d : A) (now from : List A) (at q : ℕ) → at < length now
    → (at ≢ q → slice_index_or now q d ≡ slice_index_or from q d)
    → slice_index_or (slice_set now at (slice_index_or from at d)) q d ≡ slice_index_or from q d
set_alike {A} d now from at q within other = by (at == q) refl
  where
    by : (b : Bool) → (at == q) ≡ b
        → slice_index_or (slice_set now at (slice_index_or from at d)) q d ≡ slice_index_or from q d
    by true same =
        subst (λ m. slice_index_or (slice_set now at (slice_index_or from at d)) m d ≡ slice_index_or from m d)
        (eqb-true at q same) (get_or-set_same now at (slice_index_or from at d) d within)
    by false differ =
        get_or-set_other now at q (slice_index_or from at d) d (λ e. eqb-false at q differ (sym e))
        ∙ other (eqb-false at q differ)

-- before a place, and where nothing is marked, a list is as another one
pub record IsCaught {A : Type 0} (d : A) (from : List A) (flags : List Bool) (now : List A) (p : ℕ) : Type 0 where
  pub each : length now ≡ length from
  pub alike : (q : ℕ) → q < length from → (q < p) ⊎ (flag_in flags q ≡ false)
      → slice_index_or now q d ≡ slice_index_or from q d

sooner : (flags : List Bool) (p m : ℕ) → AreUnmarked flags p m → (q : ℕ) → (q < m) ⊎ (flag_in flags q ≡ false)
    → (q < p) ⊎ (flag_in flags q ≡ false)
sooner flags p m idle q (inr free) = inr free
sooner flags p m idle q (inl early) = elim (cases_lt q p) [
  | inl before ↦ inl before
  | inr late ↦ inr (idle q late early)
]

pub caught_idle : {A : Type 0} → (d : A) (from : List A) (flags : List Bool) (now : List A) (p m : ℕ)
    → AreUnmarked flags p m → IsCaught d from flags now p → IsCaught d from flags now m
caught_idle d from flags now p m idle caught =
    record {
      each = caught.each;
      alike = λ q few which. caught.alike q few (sooner flags p m idle q which);
    }

pub caught_start : {A : Type 0} → (d : A) (from : List A) (flags : List Bool) (now : List A)
    → length now ≡ length from
    → ((q : ℕ) → q < length from → flag_in flags q ≡ false → slice_index_or now q d ≡ slice_index_or from q d)
    → IsCaught d from flags now 0
caught_start {A} d from flags now each still = record { each = each; alike = λ q few which. alike_at q few which }
  where
    alike_at : (q : ℕ) → q < length from → (q < 0) ⊎ (flag_in flags q ≡ false)
        → slice_index_or now q d ≡ slice_index_or from q d
    alike_at q few (inl early) = absurd (omega (arith, early))
    alike_at q few (inr free) = still q few free

pub caught_more : {A : Type 0} → (d : A) (from : List A) (flags : List Bool) (now : List A) (p : ℕ) → p < length from
    → IsCaught d from flags now p → IsCaught d from flags (slice_set now p (slice_index_or from p d)) (p + 1)
caught_more {A} d from flags now p within caught =
    record {
      each = length-set now p (slice_index_or from p d) ∙ caught.each;
      alike = λ q few which. set_alike d now from p q (omega (arith, within, caught.each))
          (λ differ. caught.alike q few (less q differ which));
    }
  where
    less : (q : ℕ) → p ≢ q → (q < p + 1) ⊎ (flag_in flags q ≡ false) → (q < p) ⊎ (flag_in flags q ≡ false)
    less q differ (inr free) = inr free
    less q differ (inl early) = inl (lt_of_le_of_ne (omega (arith, early)) (λ e. differ (sym e)))

pub caught_all : {A : Type 0} → (d : A) (from : List A) (flags : List Bool) (now : List A) (p : ℕ) → length from ≤ p
    → IsCaught d from flags now p → now ≡ from
caught_all d from flags now p done caught =
    ext_get_or d now from caught.each (λ q few. caught.alike q (omega (arith, few, caught.each))
    (inl (omega (arith, few, caught.each, done))))

-- the first of some places are alike
pub record IsAlikeUpTo (places : List ℕ) (from old now : List Span) (k : ℕ) : Type 0 where
  pub each : length now ≡ length old
  pub alike : (i d : ℕ) → i < k → i < length places
      → span_at now (slice_index_or places i d) ≡ span_at from (slice_index_or places i d)
  pub others : (q : ℕ) → span_at old q ≡ span_at from q → span_at now q ≡ span_at from q

pub alike_start : (places : List ℕ) (from old : List Span) → IsAlikeUpTo places from old old 0
alike_start places from old =
    record { each = refl; alike = λ i d early within. absurd (omega (arith, early)); others = λ q same. same }

pub alike_more : (places : List ℕ) (from old now : List Span) (k d : ℕ) → All (λ j. j < length old) places
    → k < length places → IsAlikeUpTo places from old now k → IsAlikeUpTo places from old
    (slice_set now (slice_index_or places k d) (span_at from (slice_index_or places k d))) (k + 1)
alike_more places from old now k d inside within so_far =
    record {
      each = length-set now at (span_at from at) ∙ so_far.each;
      alike = λ i e early few.
          set_alike nowhere now from at (slice_index_or places i e) room
          (λ differ. so_far.alike i e (less i e early few differ) few);
      others = λ q same. set_alike nowhere now from at q room (λ differ. so_far.others q same);
    }
  where
    at : ℕ
    at = slice_index_or places k d

    room : at < length now
    room = subst (λ n. at < n) (sym so_far.each) (inside k d within)

    less : (i e : ℕ) → i < k + 1 → i < length places → at ≢ slice_index_or places i e → i < k
    less i e early few differ =
        lt_of_le_of_ne (omega (arith, early))
        (λ same. differ (get_or_default places k d e within ∙ ap (λ m. slice_index_or places m e) (sym same)))

-- the children of the nodes before a place, and of those that aren't marked, stand alike
pub record AreCaught (nodes : List BoxFacts) (children : List (List ℕ)) (from : List Span) (flags : List Bool)
    (now : List Span) (p : ℕ) : Type 0 where
  pub each : length now ≡ length from
  pub root : span_at now 0 ≡ span_at from 0
  pub alike : (q : ℕ) → q < length nodes → (q < p) ⊎ (flag_in flags q ≡ false)
      → All (λ j. span_at now j ≡ span_at from j) (places_at children q)

pub are_caught_idle : (nodes : List BoxFacts) (children : List (List ℕ)) (from : List Span) (flags : List Bool)
    (now : List Span) (p m : ℕ) → AreUnmarked flags p m → AreCaught nodes children from flags now p
    → AreCaught nodes children from flags now m
are_caught_idle nodes children from flags now p m idle caught =
    record {
      each = caught.each;
      root = caught.root;
      alike = λ q few which. caught.alike q few (sooner flags p m idle q which);
    }

pub are_caught_start : (nodes : List BoxFacts) (children : List (List ℕ)) (from : List Span) (flags : List Bool)
    (old : List Span) → 0 < length nodes → length from ≡ length nodes → length old ≡ length nodes
    → ((p : ℕ) → p < length nodes → flag_in flags p ≡ false
    → All (λ j. span_at old j ≡ span_at from j) (places_at children p))
    → AreCaught nodes children from flags (slice_set old 0 (span_at from 0)) 0
are_caught_start nodes children from flags old some each_from each still =
    record {
      each = length-set old 0 (span_at from 0) ∙ (each ∙ sym each_from);
      root = get_or-set_same old 0 (span_at from 0) nowhere room;
      alike = λ q few which i d inside. alike_at q few which i d inside;
    }
  where
    room : 0 < length old
    room = omega (arith, some, each)

    alike_at : (q : ℕ) → q < length nodes → (q < 0) ⊎ (flag_in flags q ≡ false)
        → All (λ j. span_at (slice_set old 0 (span_at from 0)) j ≡ span_at from j) (places_at children q)
    alike_at q few (inl early) = absurd (omega (arith, early))
    alike_at q few (inr free) =
        λ i d inside. set_alike nowhere old from 0 (slice_index_or (places_at children q) i d) room
        (λ differ. still q few free i d inside)

pub are_caught_more : (nodes : List BoxFacts) (children : List (List ℕ)) (from : List Span) (flags : List Bool)
    (now after : List Span) (p : ℕ) → length after ≡ length now
    → All (λ j. span_at after j ≡ span_at from j) (places_at children p)
    → ((q : ℕ) → span_at now q ≡ span_at from q → span_at after q ≡ span_at from q)
    → AreCaught nodes children from flags now p → AreCaught nodes children from flags after (p + 1)
are_caught_more nodes children from flags now after p each alike others caught =
    record {
      each = each ∙ caught.each;
      root = others 0 caught.root;
      alike = λ q few which. alike_at q few which (p == q) refl;
    }
  where
    less : (q : ℕ) → p ≢ q → (q < p + 1) ⊎ (flag_in flags q ≡ false) → (q < p) ⊎ (flag_in flags q ≡ false)
    less q differ (inr free) = inr free
    less q differ (inl early) = inl (lt_of_le_of_ne (omega (arith, early)) (λ e. differ (sym e)))

    alike_at : (q : ℕ) → q < length nodes → (q < p + 1) ⊎ (flag_in flags q ≡ false) → (b : Bool) → (p == q) ≡ b
        → All (λ j. span_at after j ≡ span_at from j) (places_at children q)
    alike_at q few which true same =
        subst (λ m. All (λ j. span_at after j ≡ span_at from j) (places_at children m)) (eqb-true p q same) alike
    alike_at q few which false differ =
        λ i d inside. others (slice_index_or (places_at children q) i d)
        (caught.alike q few (less q (eqb-false p q differ) which) i d inside)

pub are_caught_all : (nodes : List BoxFacts) (children : List (List ℕ)) (from : List Span) (flags : List Bool)
    (now : List Span) (p : ℕ) → AreNodes nodes → children ≡ children_lists (parents nodes)
    → length from ≡ length nodes → length nodes ≤ p → AreCaught nodes children from flags now p → now ≡ from
are_caught_all nodes children from flags now p are hung each done caught =
    ext_get_or nowhere now from caught.each (λ q few. alike_at q (omega (arith, few, caught.each, each)))
  where
    alike_at : (q : ℕ) → q < length nodes → span_at now q ≡ span_at from q
    alike_at zero within = caught.root
    alike_at (suc q) within =
        let long : length (parents nodes) ≡ length nodes = length-map nodes (λ (n : BoxFacts). n.parent) in
        let up = are.tree.below (suc q) (omega arith) (omega (arith, long, within)) in
        let there : up.0 < length nodes = omega (arith, up.2, within) in
        of_its_parent nodes children hung (λ j. span_at now j ≡ span_at from j) up.0 (suc q) there within up.1
        (caught.alike up.0 there (inl (omega (arith, there, done))))
