-- Nodes with different birth numbers have different keys, and both lists of facts tell of one tree.
use Rattle.std.proofs.lemmas.Bool.{cases_order}
use Rattle.std.proofs.Common.{None, refl, sym, ap, subst, ◌∙◌, ◌≡◌, ℕ, ◌<◌, true, false, List, [], ◌∷◌, get_or, length, map, slice_get, Some, arith, eqb, inl, inr}
use Rattle.std.specs.List.{IsDistinct}
use Rattle.std.specs.Option.{option_map}
use Rattle.std.proofs.lemmas.Bool.Decides.{nat_tests}
use Rattle.std.proofs.lemmas.List.{get_or-map, length-map}
use Rattle.std.proofs.lemmas.Map.Keys.{apart_from_distinct}
use Rattle.std.proofs.lemmas.Option.{get_or_from_slice_get, slice_get-map, slice_get_within}
use Rattle.fx_base.specs.declared.keys.NodeKey.{NodeKey}
use Rattle.fx_kinds.specs.declared.facts.BoxFacts.{BoxFacts}
use Rattle.fx_kinds.specs.declared.facts.StyleFacts.{StyleFacts}
use Rattle.fx_select.specs.Chains.{ParentsStandBefore}
use Rattle.fx_style.specs.Kept.{AreDifferent, is_key}
use Rattle.fx_layout.specs.Updates.{AreDifferent as AreDifferentKeys}
use Rattle.fx_layout_sweeps.specs.Nodes.{IsTree, keys, parent_at, parents}
use Rattle.fx_pulse_model.specs.Scenes.{births}
use Rattle.fx_pulse_model.proofs.LineLemmas.{before}

birth_of : NodeKey → ℕ
birth_of key = key.birth

births_of_keys : (boxes : List BoxFacts) → births boxes ≡ map birth_of (keys boxes)
unfolding birth_of
births_of_keys [] = refl
births_of_keys (node ∷ nodes) = ap (λ l. node.key.birth ∷ l) (births_of_keys nodes)

-- keys at two places have two birth numbers
apart_keys : (boxes : List BoxFacts) (i j : ℕ) (d : NodeKey) → IsDistinct eqb (births boxes) → i < j
    → j < length (keys boxes) → (get_or (keys boxes) i d).birth ≡ (get_or (keys boxes) j d).birth → ⊥
unfolding birth_of
apart_keys boxes i j d distinct less within same =
    let numbers = map birth_of (keys boxes) in
    let long : length numbers ≡ length (keys boxes) = length-map (keys boxes) birth_of in
    let apart = apart_from_distinct eqb numbers i j 0 (subst (IsDistinct eqb) (births_of_keys boxes) distinct) less
    (omega (arith, within, long)) in
    let one = get_or-map birth_of (keys boxes) i d 0 (omega (arith, less, within)) in
    let two = get_or-map birth_of (keys boxes) j d 0 within in
    no (get_or numbers i 0) (get_or numbers j 0) apart (one ∙ (same ∙ sym two))
  where
    no : (a b : ℕ) → eqb a b ≡ false → a ≡ b → ⊥
    no a b t e = grind (arith, nat_tests)

pub different_keys : (boxes : List BoxFacts) → IsDistinct eqb (births boxes) → AreDifferentKeys (keys boxes)
different_keys boxes distinct i j d less within =
    λ same. apart_keys boxes i j d distinct less within (ap (λ (key : NodeKey). key.birth) same)

-- the key of a node in the list of keys
key_there : (styles : List StyleFacts) (i : ℕ) (a : StyleFacts) (d : NodeKey) → slice_get styles i ≡ Some a
    → get_or (map (λ (node : StyleFacts). node.key) styles) i d ≡ a.key
key_there styles i a d is =
    get_or_from_slice_get (map (λ (node : StyleFacts). node.key) styles) i a.key d
    (slice_get-map (λ (node : StyleFacts). node.key) styles i ∙ ap (option_map (λ (node : StyleFacts). node.key)) is)

births_alike : (a b : NodeKey) → is_key a b ≡ true → a.birth ≡ b.birth
births_alike a b same = grind (arith, nat_tests)

pub different_facts : (styles : List StyleFacts) (boxes : List BoxFacts)
    → map (λ (node : StyleFacts). node.key) styles ≡ keys boxes → IsDistinct eqb (births boxes) → AreDifferent styles
different_facts styles boxes alike distinct i j a b here there same =
    elim (cases_order i j) [
      | inl equal ↦ equal
      | inr (inl less) ↦ absurd (apart i j a b less here there (births_alike a.key b.key same))
      | inr (inr more) ↦ absurd (apart j i b a more there here (sym (births_alike a.key b.key same)))
    ]
  where
    apart : (i j : ℕ) (a b : StyleFacts) → i < j → slice_get styles i ≡ Some a → slice_get styles j ≡ Some b
        → a.key.birth ≡ b.key.birth → ⊥
    apart i j a b less here there same =
        let long : length (map (λ (node : StyleFacts). node.key) styles) ≡ length styles = length-map styles _ in
        let within = slice_get_within styles j b there in
        let one : (get_or (keys boxes) i a.key).birth ≡ a.key.birth =
        ap (λ (key : NodeKey). key.birth)
        (subst (λ l. get_or l i a.key ≡ a.key) alike (key_there styles i a a.key here)) in
        let two : (get_or (keys boxes) j a.key).birth ≡ b.key.birth =
        ap (λ (key : NodeKey). key.birth)
        (subst (λ l. get_or l j a.key ≡ b.key) alike (key_there styles j b a.key there)) in
        apart_keys boxes i j a.key distinct less (subst (λ l. j < length l) alike (omega (arith, within, long)))
        (one ∙ (same ∙ sym two))

-- ---- parents
pub stand_before : (styles : List StyleFacts) (boxes : List BoxFacts)
    → map (λ (node : StyleFacts). node.parent) styles ≡ parents boxes → IsTree (parents boxes)
    → ParentsStandBefore styles
stand_before styles boxes alike tree place parent node here up =
    let ups = map (λ (n : StyleFacts). n.parent) styles in
    let long : length ups ≡ length styles = length-map styles _ in
    let within = slice_get_within styles place node here in
    let there : parent_at ups place ≡ node.parent =
    get_or_from_slice_get ups place node.parent None
    (slice_get-map (λ (n : StyleFacts). n.parent) styles place ∙ ap (option_map (λ (n : StyleFacts). n.parent)) here) in
    before ups place parent (subst IsTree (sym alike) tree) (omega (arith, within, long)) (there ∙ up)
