-- The boxes of all nodes hang on what each birth number names, and on nothing else.
use Rattle.std.proofs.Common.{◌≡◌, ◌==◌, ◌&&◌, ◌||◌, ℕ, Bool, Bor, true, false, List, [], ◌∷◌, ◌++◌, map, Option, Some, None, refl, sym, ap, subst, ◌∙◌, not}
use Rattle.std.specs.Prelude.{nat_eq}
use Rattle.std.specs.Cmp.Lexicographic.{pointwise}
use Rattle.std.specs.List.{filter, flat_map}
use Rattle.std.specs.List.Sorted.{IsPermutation}
use Rattle.std.proofs.lemmas.Bool.Decides.{Decides-eqb}
use Rattle.std.proofs.lemmas.List.{map-append}
use Rattle.std.proofs.lemmas.List.Elements.{filter-append}
use Rattle.std.proofs.lemmas.List.Folds.{list_any-append}
use Rattle.std.proofs.lemmas.Slice.Eq.{slice_eq-Decides}
use Rattle.fx_picture.specs.declared.edges.Bounds.{Bounds}
use Rattle.fx_picture.specs.declared.entries.Entry.{Entry}
use Rattle.fx_picture.specs.Bounds.{is_empty, meet}
use Rattle.fx_picture.specs.Entries.{HasDistinctBirths, entry_with}
use Rattle.fx_picture.proofs.SamenessLemmas.{Decides-shapes}
use Rattle.fx_damage.specs.Births.{RisesStrictly, is_among}
use Rattle.fx_damage.specs.Changes.{lent}
use Rattle.fx_damage.specs.Damage.{births_of, boxes_at, boxes_of, changed_boxes, cut_to, stays}
use Rattle.fx_damage.proofs.BirthLemmas.{has_birth, among-births, rises-births, rises-filter, rising_same, among-filter, flat_map-filter}
use Rattle.fx_damage.proofs.FindingLemmas.{entry_moved, none_with}

-- ---- any numbers that leave nothing out
pub or_false : (a b : Bool) → (a || b) ≡ false → (a ≡ false) × (b ≡ false)
or_false true b h = cc
or_false false b h = (refl, h)

both_turn : (a b : Bool) → (a && b) ≡ (b && a)
both_turn true true = refl
both_turn true false = refl
both_turn false true = refl
both_turn false false = refl

pub unknown_none : (olds nows : List Entry) (b : ℕ) → is_among (births_of (olds ++ nows)) b ≡ false → boxes_at olds nows b ≡ []
unknown_none olds nows b h =
    let all : (has_birth olds b || has_birth nows b) ≡ false =
    sym (list_any-append (λ (e : Entry). e.key.birth == b) olds nows) ∙ (sym (among-births (olds ++ nows) b) ∙ h) in
    let parts = or_false (has_birth olds b) (has_birth nows b) all in
    rw (none_with olds b parts.0, none_with nows b parts.1) refl

pub changed_among : (olds nows : List Entry) (numbers : List ℕ) → RisesStrictly numbers
    → ((b : ℕ) → is_among numbers b ≡ false → boxes_at olds nows b ≡ []) → changed_boxes olds nows ≡ flat_map (boxes_at olds nows) numbers
changed_among olds nows numbers rises none =
    let all = births_of (olds ++ nows) in
    let f = boxes_at olds nows in
    flat_map-filter f (is_among numbers) all none
    ∙ (ap (λ r. flat_map f r) (rising_same (filter (is_among numbers) all) (filter (is_among all) numbers)
    (rises-filter (is_among numbers) all (rises-births (olds ++ nows))) (rises-filter (is_among all) numbers rises)
    (λ k. among-filter (is_among numbers) all k ∙ (both_turn (is_among numbers k) (is_among all k) ∙ sym (among-filter (is_among all) numbers k))))
    ∙ sym (flat_map-filter f (is_among all) numbers (λ b h. unknown_none olds nows b h)))

pub flat_same : (f g : ℕ → List Bounds) (ks : List ℕ) → ((k : ℕ) → is_among ks k ≡ true → f k ≡ g k) → flat_map f ks ≡ flat_map g ks
flat_same f g [] h = refl
flat_same f g (k ∷ ks) h =
    let t : (k == k) ≡ true = (Decides-eqb k k).1 refl in
    let here : f k ≡ g k = h k (rw t refl) in
    let rest = flat_same f g ks (λ m q. h m (later (k == m) (is_among ks m) q)) in
    rw (here, rest) refl
  where
    later : (a b : Bool) → b ≡ true → (a || b) ≡ true
    later true b q = refl
    later false b q = q

-- ---- a node that stays
same_stays : (o : Option Entry) → stays o o ≡ true
same_stays None = refl
same_stays (Some e) =
    let path = (slice_eq-Decides Decides-eqb e.path e.path (pointwise nat_eq e.path e.path) refl).1 refl in
    let shapes = (Decides-shapes e.shapes e.shapes).1 refl in
    rw (path, shapes) refl

pub same_none : (o p : Option Entry) → o ≡ p → boxes_of o p ≡ []
same_none o p e = let s : stays o p ≡ true = subst (λ (q : Option Entry). stays o q ≡ true) e (same_stays o) in rw s refl

-- ---- the same boxes for each number
pub same_boxes : (as' bs cs ds : List Entry) → ((k : ℕ) → boxes_at as' bs k ≡ boxes_at cs ds k) → changed_boxes as' bs ≡ changed_boxes cs ds
same_boxes as' bs cs ds same =
    let numbers = births_of (cs ++ ds) in
    changed_among as' bs numbers (rises-births (cs ++ ds)) (λ k h. same k ∙ unknown_none cs ds k h)
    ∙ flat_same (boxes_at as' bs) (boxes_at cs ds) numbers (λ k h. same k)

-- entries in another order
pub changed_moved : (as' bs cs ds : List Entry) → HasDistinctBirths as' → HasDistinctBirths bs → IsPermutation as' cs → IsPermutation bs ds
    → changed_boxes as' bs ≡ changed_boxes cs ds
changed_moved as' bs cs ds p q m n =
    same_boxes as' bs cs ds (λ k.
    ap (λ o. boxes_of o (entry_with k bs)) (entry_moved as' cs k p m) ∙ ap (λ o. boxes_of (entry_with k cs) o) (entry_moved bs ds k q n))

-- ---- boxes, one after another
pub cut-append : (w : Bounds) (xs ys : List Bounds) → cut_to w (xs ++ ys) ≡ cut_to w xs ++ cut_to w ys
cut-append w xs ys = ap (filter (λ b. not (is_empty b))) (map-append (meet w) xs ys) ∙ filter-append (λ b. not (is_empty b)) (map (meet w) xs) (map (meet w) ys)

-- ---- lent entries
pub lent_from_none : (rs : List (Bor Entry)) (made more : List Entry) → rs ≡ [] → made ≡ lent rs ++ more → made ≡ more
lent_from_none rs made more none is = is ∙ ap (λ l. lent l ++ more) none

pub boxes_sorted : (w : Bounds) (made : List Bounds) (as' bs : List Entry) (ps qs rs ss : List (Bor Entry))
    → made ≡ cut_to w (changed_boxes (lent ps) (lent qs)) → ps ≡ rs → qs ≡ ss → HasDistinctBirths as' → HasDistinctBirths bs
    → IsPermutation as' (lent rs) → IsPermutation bs (lent ss) → made ≡ cut_to w (changed_boxes as' bs)
boxes_sorted w made as' bs ps qs rs ss is p q d e m n =
    is ∙ ap (cut_to w) (ap (λ l. changed_boxes (lent l) (lent qs)) p ∙ (ap (λ l. changed_boxes (lent rs) (lent l)) q
    ∙ sym (changed_moved as' bs (lent rs) (lent ss) d e m n)))
