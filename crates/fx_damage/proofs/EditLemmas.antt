-- The damage that edits make is that between what stood at their places and what stands there then.
use Rattle.std.proofs.Common.{◌≡◌, ◌<◌, ◌+◌, ◌==◌, ◌||◌, ℕ, suc, zero, Bool, true, false, List, [], ◌∷◌, ◌++◌, length, get_or, set, Option, Some, None, refl, sym, ap, ◌∙◌, inl, inr, arith, ◌⊎◌, pos, drop}
use Rattle.std.proofs.lemmas.Bool.Decides.{Decides-eqb, nat_tests}
use Rattle.std.proofs.lemmas.List.{get_or-set_same, get_or-map, get_or-set_other, length-map}
use Rattle.std.proofs.lemmas.List.Folds.{list_any-append}
use Rattle.std.proofs.Math.ListN.{length-set}
use Rattle.fx_picture.specs.declared.entries.Entry.{Entry}
use Rattle.fx_picture.specs.Entries.{HasDistinctBirths, entry_with}
use Rattle.fx_damage.specs.declared.edits.Edit.{Edit}
use Rattle.fx_damage.specs.Births.{AllAbove, RisesStrictly, is_among}
use Rattle.fx_damage.specs.Changes.{changed_nows, changed_olds, if_changed}
use Rattle.fx_damage.specs.Damage.{births_of, boxes_at, boxes_of, changed_boxes}
use Rattle.fx_damage.specs.Edits.{AreEdits, edited, entries_of, places_of, replaced}
use Rattle.fx_damage.proofs.BirthLemmas.{has_birth, among-births, rises-births}
use Rattle.fx_damage.proofs.BoxLemmas.{changed_among, flat_same, or_false, same_none}
use Rattle.fx_damage.proofs.ChangeLemmas.{nows_more, olds_more}
use Rattle.fx_damage.proofs.FindingLemmas.{Found, any_default, entry_at, entry_none, found, none_at, one_place}

or_true : (a b : Bool) → (a || b) ≡ true → (a ≡ true) ⊎ (b ≡ true)
or_true true b h = inl refl
or_true false b h = inr h

-- ---- entries picked from a list by rising places
pub record Picks (ps : List ℕ) (xs zs : List Entry) : Type 0 where
  pub long : length zs ≡ length ps
  pub at : (i : ℕ) → i < length ps → (d : Entry) → get_or zs i d ≡ get_or xs (get_or ps i 0) d
  pub within : (i : ℕ) → i < length ps → get_or ps i 0 < length xs

-- elsewhere the lists are the same
pub record SameElsewhere (ps : List ℕ) (xs ys : List Entry) : Type 0 where
  pub long : length ys ≡ length xs
  pub same : (k : ℕ) → is_among ps k ≡ false → (d : Entry) → get_or ys k d ≡ get_or xs k d

above_at : (a : ℕ) (ps : List ℕ) (j : ℕ) → AllAbove a ps → j < length ps → a < get_or ps j 0
above_at a [] j h l = absurd (omega (arith, l))
above_at a (p ∷ ps) zero h l = h.0
above_at a (p ∷ ps) (suc j) h l = above_at a ps j h.1 (omega (arith, l))

pub rising_at : (ps : List ℕ) (i j : ℕ) → RisesStrictly ps → i < j → j < length ps → get_or ps i 0 < get_or ps j 0
rising_at [] i j h a b = absurd (omega (arith, b))
rising_at (p ∷ ps) zero zero h a b = absurd (omega (arith, a))
rising_at (p ∷ ps) (suc i) zero h a b = absurd (omega (arith, a))
rising_at (p ∷ ps) zero (suc j) h a b = above_at p ps j h.0 (omega (arith, b))
rising_at (p ∷ ps) (suc i) (suc j) h a b = rising_at ps i j h.1 (omega (arith, a)) (omega (arith, b))

pub distinct_from : (zs : List Entry) → ((i j : ℕ) (d : Entry) → i < j → j < length zs → (get_or zs i d).key.birth ≡ (get_or zs j d).key.birth → ⊥)
    → HasDistinctBirths zs
distinct_from [] h = tt
distinct_from (z ∷ zs) h = (
  entry_none zs z.key.birth (λ j d b e. h 0 (suc j) d (omega arith) (omega (arith, b)) (sym e)),
  distinct_from zs (λ i j d a b e. h (suc i) (suc j) d (omega (arith, a)) (omega (arith, b)) e),
)

pub picks_distinct : (ps : List ℕ) (xs zs : List Entry) → RisesStrictly ps → Picks ps xs zs → HasDistinctBirths xs → HasDistinctBirths zs
picks_distinct ps xs zs rises picks distinct = distinct_from zs (λ i j d a b e.
    (let long = picks.long in
    let jn : j < length ps = omega (arith, b) in
    let in' : i < length ps = omega (arith, a, b) in
    let one : (get_or xs (get_or ps i 0) d).key.birth ≡ (get_or xs (get_or ps j 0) d).key.birth =
    ap (λ (g : Entry). g.key.birth) (sym (picks.at i in' d)) ∙ (e ∙ ap (λ (g : Entry). g.key.birth) (picks.at j jn d)) in
    let same = one_place xs (get_or xs (get_or ps j 0) d).key.birth (get_or ps i 0) (get_or ps j 0) d distinct (picks.within i in') (picks.within j jn) one refl in
    let less = rising_at ps i j rises a jn in
    omega (arith, same, less)))

-- which of the places it is
pub record Index (ps : List ℕ) (k : ℕ) : Type 0 where
  pub index : ℕ
  pub within : index < length ps
  pub is : get_or ps index 0 ≡ k

pub index_of : (ps : List ℕ) (k : ℕ) → is_among ps k ≡ true → Index ps k
index_of [] k h = cc
index_of (p ∷ ps) k h = one (p == k) refl h (λ r. index_of ps k r)
  where
    one : (t : Bool) → (p == k) ≡ t → (t || is_among ps k) ≡ true → (is_among ps k ≡ true → Index ps k) → Index (p ∷ ps) k
    one true q h go = record { index = 0; within = omega arith; is = (Decides-eqb p k).0 q }
    one false q h go = let r = go h in record { index = suc r.index; within = omega (arith, r.within); is = r.is }

pub among_at : (ps : List ℕ) (i : ℕ) → i < length ps → is_among ps (get_or ps i 0) ≡ true
among_at [] i h = absurd (omega (arith, h))
among_at (p ∷ ps) zero h = let t : (p == p) ≡ true = (Decides-eqb p p).1 refl in rw t refl
among_at (p ∷ ps) (suc i) h = later (p == get_or ps i 0) (is_among ps (get_or ps i 0)) (among_at ps i (omega (arith, h)))
  where
    later : (a b : Bool) → b ≡ true → (a || b) ≡ true
    later true b q = refl
    later false b q = q

-- a birth number that an entry has
pub record HasBirth (zs : List Entry) (b : ℕ) : Type 0 where
  pub index : ℕ
  pub within : index < length zs
  pub is : (d : Entry) → (get_or zs index d).key.birth ≡ b

pub birth_index : (zs : List Entry) (b : ℕ) → has_birth zs b ≡ true → HasBirth zs b
birth_index [] b h = cc
birth_index (z ∷ zs) b h = one (z.key.birth == b) refl h (λ r. birth_index zs b r)
  where
    one : (t : Bool) → (z.key.birth == b) ≡ t → (t || has_birth zs b) ≡ true → (has_birth zs b ≡ true → HasBirth zs b) → HasBirth (z ∷ zs) b
    one true q h go = record { index = 0; within = omega arith; is = λ d. (Decides-eqb z.key.birth b).0 q }
    one false q h go = let r = go h in record { index = suc r.index; within = omega (arith, r.within); is = λ d. r.is d }

pub birth_at : (zs : List Entry) (b i : ℕ) (d : Entry) → i < length zs → (get_or zs i d).key.birth ≡ b → has_birth zs b ≡ true
birth_at [] b i d h e = absurd (omega (arith, h))
birth_at (z ∷ zs) b zero d h e = let t : (z.key.birth == b) ≡ true = (Decides-eqb z.key.birth b).1 e in rw t refl
birth_at (z ∷ zs) b (suc i) d h e = later (z.key.birth == b) (has_birth zs b) (birth_at zs b i d (omega (arith, h)) e)
  where
    later : (a b : Bool) → b ≡ true → (a || b) ≡ true
    later true b q = refl
    later false b q = q

by_option : (o : Option Entry) (P : Type 0) → (o ≡ None → P) → ((e : Entry) → o ≡ Some e → P) → P
by_option None P n s = n refl
by_option (Some e) P n s = s e refl

by_test : (t : Bool) (P : Type 0) → (t ≡ true → P) → (t ≡ false → P) → P
by_test true P n s = n refl
by_test false P n s = s refl

no_entry : Entry
no_entry = record { key = record { slot = 0; birth = 0 }; path = []; rect = record { x = pos 0; y = pos 0; w = pos 0; h = pos 0 }; shapes = []; disabled = false; focusable = false }

module _ (ps : List ℕ) (xs ys zx zy : List Entry) (left : Picks ps xs zx) (right : Picks ps ys zy) (other : SameElsewhere ps xs ys)
    (dx : HasDistinctBirths xs) (dy : HasDistinctBirths ys) (rises : RisesStrictly ps) where
  -- nothing was picked with this number: the node is as it was
  pub unpicked : (b : ℕ) → has_birth zx b ≡ false → has_birth zy b ≡ false → entry_with b xs ≡ entry_with b ys
  unpicked b nx ny = by_option (entry_with b xs) (entry_with b xs ≡ entry_with b ys) none some
    where
      none : entry_with b xs ≡ None → entry_with b xs ≡ entry_with b ys
      none h = h ∙ sym (entry_none ys b (λ k d q e. by_test (is_among ps k) ⊥
          (λ t. (let i = index_of ps k t in
          let long = right.long in
          let here : get_or zy i.index d ≡ get_or ys k d = right.at i.index i.within d ∙ ap (λ n. get_or ys n d) i.is in
          let has = birth_at zy b i.index d (omega (arith, i.within)) (ap (λ (g : Entry). g.key.birth) here ∙ e) in cc))
          (λ t. none_at xs b k d h (let long = other.long in omega (arith, q)) (ap (λ (g : Entry). g.key.birth) (sym (other.same k t d)) ∙ e))))

      some : (e : Entry) → entry_with b xs ≡ Some e → entry_with b xs ≡ entry_with b ys
      some e h =
          let f = found xs b e h in
          by_test (is_among ps f.place) (entry_with b xs ≡ entry_with b ys)
          (λ t. (let i = index_of ps f.place t in
          let long = left.long in
          let here : get_or zx i.index no_entry ≡ e = left.at i.index i.within no_entry ∙ (ap (λ n. get_or xs n no_entry) i.is ∙ f.is no_entry) in
          let has = birth_at zx b i.index no_entry (omega (arith, i.within)) (ap (λ (g : Entry). g.key.birth) here ∙ f.birth) in absurd (cc)))
          (λ t. h ∙ sym (entry_at ys b f.place no_entry dy (record { within = (let long = other.long in omega (arith, f.within)); is = λ d. ap (λ (g : Entry). g.key.birth) (other.same f.place t d ∙ f.is d) ∙ f.birth })
          ∙ ap Some (other.same f.place t no_entry ∙ f.is no_entry)))

  -- something was: the node is among those that were picked
  pub picked : (b : ℕ) → (has_birth zx b || has_birth zy b) ≡ true → entry_with b xs ≡ entry_with b zx
  picked b has = by_option (entry_with b xs) (entry_with b xs ≡ entry_with b zx) none some
    where
      none : entry_with b xs ≡ None → entry_with b xs ≡ entry_with b zx
      none h = h ∙ sym (entry_none zx b (λ i d q e. (let long = left.long in
          let l : i < length ps = omega (arith, q) in
          none_at xs b (get_or ps i 0) d h (left.within i l) (ap (λ (g : Entry). g.key.birth) (sym (left.at i l d)) ∙ e))))

      outside : (e : Entry) (f : Found xs b e) → is_among ps f.place ≡ false → ⊥
      outside e f t = elim (or_true (has_birth zx b) (has_birth zy b) has) [
        | inl hx ↦ (let i = birth_index zx b hx in
            let long = left.long in
            let l : i.index < length ps = omega (arith, i.within) in
            let same = one_place xs b (get_or ps i.index 0) f.place no_entry dx (left.within i.index l) f.within
            (ap (λ (g : Entry). g.key.birth) (sym (left.at i.index l no_entry)) ∙ i.is no_entry) (ap (λ (g : Entry). g.key.birth) (f.is no_entry) ∙ f.birth) in
            let in' : is_among ps f.place ≡ true = ap (is_among ps) (sym same) ∙ among_at ps i.index l in cc)
        | inr hy ↦ (let i = birth_index zy b hy in
            let long = right.long in
            let wide = other.long in
            let l : i.index < length ps = omega (arith, i.within) in
            let same = one_place ys b (get_or ps i.index 0) f.place no_entry dy (right.within i.index l) (omega (arith, f.within))
            (ap (λ (g : Entry). g.key.birth) (sym (right.at i.index l no_entry)) ∙ i.is no_entry)
            (ap (λ (g : Entry). g.key.birth) (other.same f.place t no_entry ∙ f.is no_entry) ∙ f.birth) in
            let in' : is_among ps f.place ≡ true = ap (is_among ps) (sym same) ∙ among_at ps i.index l in cc)
      ]

      some : (e : Entry) → entry_with b xs ≡ Some e → entry_with b xs ≡ entry_with b zx
      some e h =
          let f = found xs b e h in
          by_test (is_among ps f.place) (entry_with b xs ≡ entry_with b zx)
          (λ t. (let i = index_of ps f.place t in
          let long = left.long in
          let here : (d : Entry) → get_or zx i.index d ≡ e = λ d. left.at i.index i.within d ∙ (ap (λ n. get_or xs n d) i.is ∙ f.is d) in
          h ∙ sym (entry_at zx b i.index no_entry (picks_distinct ps xs zx rises left dx)
          (record { within = omega (arith, i.within); is = λ d. ap (λ (g : Entry). g.key.birth) (here d) ∙ f.birth }) ∙ ap Some (here no_entry))))
          (λ t. absurd (outside e f t))

pub elsewhere-back : (ps : List ℕ) (xs ys : List Entry) → SameElsewhere ps xs ys → SameElsewhere ps ys xs
elsewhere-back ps xs ys o = record { long = sym o.long; same = λ k h d. sym (o.same k h d) }

or_turn : (a b : Bool) → (a || b) ≡ true → (b || a) ≡ true
or_turn true true h = refl
or_turn true false h = refl
or_turn false true h = refl
or_turn false false h = h

pub changed_picked : (ps : List ℕ) (xs ys zx zy : List Entry) → Picks ps xs zx → Picks ps ys zy → SameElsewhere ps xs ys
    → HasDistinctBirths xs → HasDistinctBirths ys → RisesStrictly ps → changed_boxes xs ys ≡ changed_boxes zx zy
changed_picked ps xs ys zx zy left right other dx dy rises =
    let numbers = births_of (zx ++ zy) in
    changed_among xs ys numbers (rises-births (zx ++ zy))
    (λ b h. (let parts = or_false (has_birth zx b) (has_birth zy b) (sym (either b) ∙ h) in
    same_none (entry_with b xs) (entry_with b ys) (unpicked ps xs ys zx zy left right other dx dy rises b parts.0 parts.1)))
    ∙ flat_same (boxes_at xs ys) (boxes_at zx zy) numbers
    (λ b h. (let has : (has_birth zx b || has_birth zy b) ≡ true = sym (either b) ∙ h in
    ap (λ o. boxes_of o (entry_with b ys)) (picked ps xs ys zx zy left right other dx dy rises b has)
    ∙ ap (λ o. boxes_of (entry_with b zx) o) (picked ps ys xs zy zx right left (elsewhere-back ps xs ys other) dy dx rises b (or_turn (has_birth zx b) (has_birth zy b) has))))
  where
    either : (b : ℕ) → is_among (births_of (zx ++ zy)) b ≡ (has_birth zx b || has_birth zy b)
    either b = among-births (zx ++ zy) b ∙ list_any-append (λ (e : Entry). e.key.birth == b) zx zy

-- ---- edits
pub length-edited : (es : List Edit) (xs : List Entry) → length (edited es xs) ≡ length xs
length-edited [] xs = refl
length-edited (e ∷ es) xs = length-edited es (set xs e.place e.entry) ∙ length-set xs e.place e.entry

edited_other : (es : List Edit) (xs : List Entry) (k : ℕ) → is_among (places_of es) k ≡ false → (d : Entry) → get_or (edited es xs) k d ≡ get_or xs k d
edited_other [] xs k h d = refl
edited_other (e ∷ es) xs k h d =
    let parts = or_false (e.place == k) (is_among (places_of es) k) h in
    edited_other es (set xs e.place e.entry) k parts.1 d
    ∙ get_or-set_other xs e.place k e.entry d (λ same. (let t : (e.place == k) ≡ true = (Decides-eqb e.place k).1 (sym same) in cc))

above_none : (a : ℕ) (ps : List ℕ) → AllAbove a ps → is_among ps a ≡ false
above_none a [] h = refl
above_none a (p ∷ ps) h = let t : (p == a) ≡ false = grind (arith, nat_tests, h.0) in let r = above_none a ps h.1 in rw (t, r) refl

edited_at : (es : List Edit) (xs : List Entry) (i : ℕ) (d : Entry) → RisesStrictly (places_of es) → i < length es
    → ((j : ℕ) → j < length es → get_or (places_of es) j 0 < length xs) → get_or (edited es xs) (get_or (places_of es) i 0) d ≡ get_or (entries_of es) i d
edited_at [] xs i d h l w = absurd (omega (arith, l))
edited_at (e ∷ es) xs zero d h l w =
    edited_other es (set xs e.place e.entry) e.place (above_none e.place (places_of es) h.0) d
    ∙ get_or-set_same xs e.place e.entry d (w 0 (omega arith))
edited_at (e ∷ es) xs (suc i) d h l w =
    let long = length-set xs e.place e.entry in
    edited_at es (set xs e.place e.entry) i d h.1 (omega (arith, l))
    (λ j b. (let n = w (suc j) (omega (arith, b)) in omega (arith, n, long)))

replaced_at : (es : List Edit) (xs : List Entry) (i : ℕ) (d : Entry) → i < length es
    → ((j : ℕ) → j < length es → get_or (places_of es) j 0 < length xs) → get_or (replaced es xs) i d ≡ get_or xs (get_or (places_of es) i 0) d
replaced_at [] xs i d l w = absurd (omega (arith, l))
replaced_at (e ∷ es) xs zero d l w = any_default xs e.place e.entry d (w 0 (omega arith))
replaced_at (e ∷ es) xs (suc i) d l w = replaced_at es xs i d (omega (arith, l)) (λ j b. w (suc j) (omega (arith, b)))

pub all_within : (es : List Edit) (count : ℕ) → AreEdits es count → (j : ℕ) → j < length (places_of es) → get_or (places_of es) j 0 < count
all_within es count a j b = a.within (get_or (places_of es) j 0) (among_at (places_of es) j b)

pub picks_replaced : (es : List Edit) (xs : List Entry) → AreEdits es (length xs) → Picks (places_of es) xs (replaced es xs)
picks_replaced es xs a = record {
  long = length-map es _ ∙ sym (length-map es _);
  at = λ i b d. (let long : length (places_of es) ≡ length es = length-map es _ in
      replaced_at es xs i d (omega (arith, b)) (λ j c. all_within es (length xs) a j (omega (arith, c))));
  within = all_within es (length xs) a;
}

pub picks_edited : (es : List Edit) (xs : List Entry) → AreEdits es (length xs) → Picks (places_of es) (edited es xs) (entries_of es)
picks_edited es xs a = record {
  long = length-map es _ ∙ sym (length-map es _);
  at = λ i b d. (let long : length (places_of es) ≡ length es = length-map es _ in
      sym (edited_at es xs i d a.rise (omega (arith, b)) (λ j c. all_within es (length xs) a j (omega (arith, c)))));
  within = λ i b. (let long = length-edited es xs in let n = all_within es (length xs) a i b in omega (arith, n));
}

pub edited_elsewhere : (es : List Edit) (xs : List Entry) → SameElsewhere (places_of es) xs (edited es xs)
edited_elsewhere es xs = record { long = length-edited es xs; same = edited_other es xs }

-- the damage of edits is that between what they replace and what they put there
pub changed_edited : (es : List Edit) (xs : List Entry) → AreEdits es (length xs) → HasDistinctBirths xs → HasDistinctBirths (edited es xs)
    → changed_boxes xs (edited es xs) ≡ changed_boxes (replaced es xs) (entries_of es)
changed_edited es xs a dx dy =
    changed_picked (places_of es) xs (edited es xs) (replaced es xs) (entries_of es) (picks_replaced es xs a) (picks_edited es xs a)
    (edited_elsewhere es xs) dx dy a.rise

pub replaced_distinct : (es : List Edit) (xs : List Entry) → AreEdits es (length xs) → HasDistinctBirths xs → HasDistinctBirths (replaced es xs)
replaced_distinct es xs a d = picks_distinct (places_of es) xs (replaced es xs) a.rise (picks_replaced es xs a) d

pub put_distinct : (es : List Edit) (xs : List Entry) → AreEdits es (length xs) → HasDistinctBirths (edited es xs) → HasDistinctBirths (entries_of es)
put_distinct es xs a d = picks_distinct (places_of es) (edited es xs) (entries_of es) a.rise (picks_edited es xs a) d

-- ---- one edit: what it replaces and what it puts there
pub replaced_item : (es : List Edit) (xs : List Entry) (k : ℕ) (e : Edit) (x : Entry) → k < length es → (get_or es k e).place < length xs
    → get_or (replaced es xs) k x ≡ get_or xs (get_or es k e).place x
replaced_item es xs k e x h within =
    get_or-map (λ (f : Edit). get_or xs f.place f.entry) es k e x h ∙ any_default xs (get_or es k e).place (get_or es k e).entry x within

pub put_item : (es : List Edit) (k : ℕ) (e : Edit) (d : Entry) → k < length es → get_or (entries_of es) k d ≡ (get_or es k e).entry
put_item es k e d h = get_or-map (λ (f : Edit). f.entry) es k e d h

pub place_within : (es : List Edit) (count k : ℕ) (e : Edit) → AreEdits es count → k < length es → (get_or es k e).place < count
place_within es count k e a h =
    let long : length (places_of es) ≡ length es = length-map es _ in
    let n = all_within es count a k (omega (arith, h)) in
    let same : get_or (places_of es) k 0 ≡ (get_or es k e).place = get_or-map (λ (f : Edit). f.place) es k e 0 h in
    omega (arith, n, same)

edit_at : (es : List Edit) (xs : List Entry) (i : ℕ) (item : Edit) (x : Entry) → i < length es → item ≡ get_or es i item → AreEdits es (length xs)
    → x ≡ get_or xs item.place x
    → (i < length (replaced es xs)) × (i < length (entries_of es)) × (x ≡ get_or (replaced es xs) i x) × (item.entry ≡ get_or (entries_of es) i item.entry)
edit_at es xs i item x l item_is a x_is =
    let long = length-map es (λ (e : Edit). get_or xs e.place e.entry) in
    let other = length-map es (λ (e : Edit). e.entry) in (
      omega (arith, long, l),
      omega (arith, other, l),
      x_is ∙ (ap (λ (e : Edit). get_or xs e.place x) item_is ∙ sym (replaced_item es xs i item x l (place_within es (length xs) i item a l))),
      ap (λ (e : Edit). e.entry) item_is ∙ sym (put_item es i item item.entry l),
    )

-- ---- the loop over edits
pub edited_olds : (done more : List Entry) (es : List Edit) (xs : List Entry) (i : ℕ) (item : Edit) (x : Entry) → i < length es
    → item ≡ get_or es i item → AreEdits es (length xs) → x ≡ get_or xs item.place x → more ≡ done ++ if_changed x item.entry x
    → more ++ changed_olds (drop (i + 1) (replaced es xs)) (drop (i + 1) (entries_of es)) ≡ done ++ changed_olds (drop i (replaced es xs)) (drop i (entries_of es))
edited_olds done more es xs i item x l item_is a x_is made =
    let at = edit_at es xs i item x l item_is a x_is in
    olds_more done more (replaced es xs) (entries_of es) i x item.entry at.0 at.1 at.2 at.3 made

pub edited_nows : (done more : List Entry) (es : List Edit) (xs : List Entry) (i : ℕ) (item : Edit) (x : Entry) → i < length es
    → item ≡ get_or es i item → AreEdits es (length xs) → x ≡ get_or xs item.place x → more ≡ done ++ if_changed x item.entry item.entry
    → more ++ changed_nows (drop (i + 1) (replaced es xs)) (drop (i + 1) (entries_of es)) ≡ done ++ changed_nows (drop i (replaced es xs)) (drop i (entries_of es))
edited_nows done more es xs i item x l item_is a x_is made =
    let at = edit_at es xs i item x l item_is a x_is in
    nows_more done more (replaced es xs) (entries_of es) i x item.entry at.0 at.1 at.2 at.3 made
