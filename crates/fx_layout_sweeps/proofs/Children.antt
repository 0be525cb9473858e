-- The children of a place, one node more.
use Rattle.std.proofs.Common.{refl, subst, slice_index_or, sym, ap, ◌∙◌, ◌≡◌, ℕ, ◌+◌, ◌<◌, Bool, true, false, List, [], ◌∷◌, ◌++◌, Option, None, filter, length, replicate, arith, if◌then◌else◌}
use Rattle.std.proofs.lemmas.List.{append-nil, ext_get_or, get_or-map, get_or-replicate, length-replicate, map-id}
use Rattle.std.proofs.lemmas.List.Elements.{filter-append}
use Rattle.std.proofs.lemmas.List.FromFn.{map-range_with_len_more, length-map-range_with_len, get_or-map-range_with_len}
use Rattle.std.specs.List.{range_with_len}
use Rattle.fx_kinds.specs.declared.facts.BoxFacts.{BoxFacts}
use Rattle.fx_layout_sweeps.specs.Nodes.{Parents, children_lists, children_of, hung_at, is_place, parent_at, parents, places_at}

-- the children of a place among the first nodes
abbrev pub children_among : Parents → ℕ → ℕ → List ℕ
children_among ups j p = filter (λ k. is_place p (parent_at ups k)) (range_with_len 0 j)

-- all lists of children among the first nodes
abbrev pub AreHung : Parents → ℕ → ℕ → List (List ℕ) → Type 0
AreHung ups n j lists = (length lists ≡ n) × ((p : ℕ) → p < n → places_at lists p ≡ children_among ups j p)

pub one_more : (j : ℕ) → range_with_len 0 (j + 1) ≡ range_with_len 0 j ++ j ∷ []
one_more j =
    sym (map-id (range_with_len 0 (j + 1)))
    ∙ (map-range_with_len_more (λ x. x) 0 j j (omega arith) ∙ ap (λ l. l ++ j ∷ []) (map-id (range_with_len 0 j)))

last_child : (test : ℕ → Bool) (xs : List ℕ) (j : ℕ) (b : Bool) → test j ≡ b
    → xs ++ filter test (j ∷ []) ≡ (if b then xs ++ j ∷ [] else xs)
last_child test xs j true e = rw e refl
last_child test xs j false e = rw e (append-nil xs)

pub child_more : (ups : Parents) (j p : ℕ) (lists : List (List ℕ)) → places_at lists p ≡ children_among ups j p
    → hung_at lists (parent_at ups j) j p ≡ children_among ups (j + 1) p
child_more ups j p lists same =
    let test = λ (k : ℕ). is_place p (parent_at ups k) in
    let base = children_among ups j p in
    let step : children_among ups (j + 1) p ≡ (if test j then base ++ j ∷ [] else base) =
    ap (filter test) (one_more j)
    ∙ (filter-append test (range_with_len 0 j) (j ∷ []) ∙ last_child test base j (test j) refl) in
    ap (λ (l : List ℕ). if test j then l ++ j ∷ [] else l) same ∙ sym step

pub hung_start : (ups : Parents) (n : ℕ) → AreHung ups n 0 (replicate n [])
hung_start ups n = (length-replicate n [], λ p within. get_or-replicate n p [] [] within)

pub hung_more : (ups : Parents) (n j : ℕ) (parent : Option ℕ) (lists after : List (List ℕ)) → AreHung ups n j lists
    → parent ≡ parent_at ups j → length after ≡ length lists
    → ((p : ℕ) → p < length lists → places_at after p ≡ hung_at lists parent j p) → AreHung ups n (j + 1) after
hung_more ups n j parent lists after so_far is_parent each hung = (
  each ∙ so_far.0,
  λ p within.
      hung p (subst (λ m. p < m) (sym so_far.0) within)
      ∙ (ap (λ (o : Option ℕ). hung_at lists o j p) is_parent ∙ child_more ups j p lists (so_far.1 p within)),
)

pub hung_all : (ups : Parents) (lists : List (List ℕ)) → AreHung ups (length ups) (length ups) lists
    → lists ≡ children_lists ups
hung_all ups lists h =
    let n = length ups in
    ext_get_or [] lists (children_lists ups) (h.0 ∙ sym (length-map-range_with_len (children_of ups) 0 n))
    (λ i within.
    let few : i < n = subst (λ m. i < m) h.0 within in
    h.1 i few ∙ sym (get_or-map-range_with_len (children_of ups) 0 n i i [] few (omega arith)))

pub parent_read : (nodes : List BoxFacts) (j : ℕ) (node : BoxFacts) → j < length nodes
    → (slice_index_or nodes j node).parent ≡ parent_at (parents nodes) j
parent_read nodes j node within = sym (get_or-map (λ (n : BoxFacts). n.parent) nodes j node None within)
