-- Nodes that stay at one place have no box: the boxes are those between the entries that may have changed.
use Rattle.std.proofs.Common.{◌≡◌, ◌<◌, ◌+◌, ◌-◌, ◌==◌, ℕ, Bool, true, false, cond, List, [], ◌∷◌, ◌++◌, length, drop, take, get_or, min, Some, None, refl, sym, ap, ◌∙◌, arith, append_assoc, ◌⊎◌, inl, inr, length-drop}
use Rattle.std.proofs.lemmas.Bool.Decides.{Decides-eqb, leb_tells}
use Rattle.std.proofs.lemmas.Grind.{common_steps}
use Rattle.std.proofs.lemmas.List.{take_all}
use Rattle.fx_picture.specs.declared.edges.Bounds.{Bounds}
use Rattle.fx_picture.specs.declared.entries.Entry.{Entry}
use Rattle.fx_picture.specs.Entries.{HasDistinctBirths, entry_with}
use Rattle.fx_picture.proofs.BoundsLemmas.{both_true}
use Rattle.fx_damage.specs.Changes.{begins_kept, changed_nows, changed_olds, if_changed, is_kept}
use Rattle.fx_damage.specs.Damage.{boxes_at, boxes_of, changed_boxes, cut_to, stays}
use Rattle.fx_damage.proofs.BoxLemmas.{same_boxes}
use Rattle.fx_damage.proofs.FindingLemmas.{none_parts, number_gone}

-- ---- what is left out has the numbers of both pictures
one_birth : (e f : Entry) → is_kept e f ≡ true → e.key.birth ≡ f.key.birth
one_birth e f h = (Decides-eqb e.key.birth f.key.birth).0 (both_true (e.key.birth == f.key.birth) (stays (Some e) (Some f)) h).0

nows_step : (e f : Entry) (fs ns : List Entry) (b : ℕ) (t : Bool) → is_kept e f ≡ t → (e.key.birth == b) ≡ false
    → entry_with b fs ≡ entry_with b ns → entry_with b (f ∷ fs) ≡ entry_with b (cond t [] (f ∷ []) ++ ns)
nows_step e f fs ns b true q n go =
    let other : (f.key.birth == b) ≡ false = ap (λ k. k == b) (sym (one_birth e f q)) ∙ n in rw other go
nows_step e f fs ns b false q n go = ap (λ o. cond (f.key.birth == b) (Some f) o) go

olds_step : (e f : Entry) (es os : List Entry) (b : ℕ) (t : Bool) → is_kept e f ≡ t → (f.key.birth == b) ≡ false
    → entry_with b es ≡ entry_with b os → entry_with b (e ∷ es) ≡ entry_with b (cond t [] (e ∷ []) ++ os)
olds_step e f es os b true q n go =
    let other : (e.key.birth == b) ≡ false = ap (λ k. k == b) (one_birth e f q) ∙ n in rw other go
olds_step e f es os b false q n go = ap (λ o. cond (e.key.birth == b) (Some e) o) go

unkept_nows : (es fs : List Entry) (b : ℕ) → entry_with b es ≡ None → entry_with b fs ≡ entry_with b (changed_nows es fs)
unkept_nows [] fs b h = refl
unkept_nows (e ∷ es) [] b h = refl
unkept_nows (e ∷ es) (f ∷ fs) b h =
    let parts = none_parts e es b h in
    nows_step e f fs (changed_nows es fs) b (is_kept e f) refl parts.0 (unkept_nows es fs b parts.1)

unkept_olds : (es fs : List Entry) (b : ℕ) → entry_with b fs ≡ None → entry_with b es ≡ entry_with b (changed_olds es fs)
unkept_olds [] fs b h = refl
unkept_olds (e ∷ es) [] b h = refl
unkept_olds (e ∷ es) (f ∷ fs) b h =
    let parts = none_parts f fs b h in
    olds_step e f es (changed_olds es fs) b (is_kept e f) refl parts.0 (unkept_olds es fs b parts.1)

-- ---- the boxes of each number
unkept_step : (e f : Entry) (es fs os ns : List Entry) (b : ℕ) (s t : Bool) → (s ≡ true → entry_with b fs ≡ entry_with b ns)
    → (t ≡ true → entry_with b es ≡ entry_with b os) → boxes_at es fs b ≡ boxes_at os ns b
    → boxes_of (cond s (Some e) (entry_with b es)) (cond t (Some f) (entry_with b fs))
    ≡ boxes_of (cond s (Some e) (entry_with b os)) (cond t (Some f) (entry_with b ns))
unkept_step e f es fs os ns b true true p q go = refl
unkept_step e f es fs os ns b true false p q go = ap (λ o. boxes_of (Some e) o) (p refl)
unkept_step e f es fs os ns b false true p q go = ap (λ o. boxes_of o (Some f)) (q refl)
unkept_step e f es fs os ns b false false p q go = go

kept_step : (e f : Entry) (es fs os ns : List Entry) (b : ℕ) (s : Bool) → (e.key.birth == b) ≡ s → e.key.birth ≡ f.key.birth
    → stays (Some e) (Some f) ≡ true → (s ≡ true → boxes_at os ns b ≡ []) → boxes_at es fs b ≡ boxes_at os ns b
    → boxes_at (e ∷ es) (f ∷ fs) b ≡ boxes_at os ns b
kept_step e f es fs os ns b true q same kept none go =
    let other : (f.key.birth == b) ≡ true = ap (λ k. k == b) (sym same) ∙ q in rw (q, other, kept) (sym (none refl))
kept_step e f es fs os ns b false q same kept none go =
    let other : (f.key.birth == b) ≡ false = ap (λ k. k == b) (sym same) ∙ q in rw (q, other) go

none_left : (es fs : List Entry) (b : ℕ) → entry_with b es ≡ None → entry_with b fs ≡ None → boxes_at (changed_olds es fs) (changed_nows es fs) b ≡ []
none_left es fs b p q =
    let old : entry_with b (changed_olds es fs) ≡ None = sym (unkept_olds es fs b q) ∙ p in
    let now : entry_with b (changed_nows es fs) ≡ None = sym (unkept_nows es fs b p) ∙ q in
    rw (old, now) refl

pair_boxes : (e f : Entry) (es fs : List Entry) (b : ℕ) (t : Bool) → is_kept e f ≡ t → HasDistinctBirths (e ∷ es) → HasDistinctBirths (f ∷ fs)
    → boxes_at es fs b ≡ boxes_at (changed_olds es fs) (changed_nows es fs) b
    → boxes_at (e ∷ es) (f ∷ fs) b ≡ boxes_at (cond t [] (e ∷ []) ++ changed_olds es fs) (cond t [] (f ∷ []) ++ changed_nows es fs) b
pair_boxes e f es fs b true h p q go =
    let parts = both_true (e.key.birth == f.key.birth) (stays (Some e) (Some f)) h in
    let same = one_birth e f h in
    kept_step e f es fs (changed_olds es fs) (changed_nows es fs) b (e.key.birth == b) refl same parts.1
    (λ s. none_left es fs b (number_gone e es b s p) (number_gone f fs b (ap (λ k. k == b) (sym same) ∙ s) q)) go
pair_boxes e f es fs b false h p q go =
    unkept_step e f es fs (changed_olds es fs) (changed_nows es fs) b (e.key.birth == b) (f.key.birth == b)
    (λ s. unkept_nows es fs b (number_gone e es b s p)) (λ s. unkept_olds es fs b (number_gone f fs b s q)) go

boxes_left : (es fs : List Entry) (b : ℕ) → HasDistinctBirths es → HasDistinctBirths fs
    → boxes_at es fs b ≡ boxes_at (changed_olds es fs) (changed_nows es fs) b
boxes_left [] fs b p q = refl
boxes_left (e ∷ es) [] b p q = refl
boxes_left (e ∷ es) (f ∷ fs) b p q = pair_boxes e f es fs b (is_kept e f) refl p q (boxes_left es fs b p.1 q.1)

-- the boxes of all nodes are those between what may have changed
pub changed_left : (es fs : List Entry) → HasDistinctBirths es → HasDistinctBirths fs
    → changed_boxes es fs ≡ changed_boxes (changed_olds es fs) (changed_nows es fs)
changed_left es fs p q = same_boxes es fs (changed_olds es fs) (changed_nows es fs) (λ b. boxes_left es fs b p q)

pub boxes_made : (w : Bounds) (made : List Bounds) (os ns es fs : List Entry) → made ≡ cut_to w (changed_boxes os ns)
    → os ≡ changed_olds es fs → ns ≡ changed_nows es fs → HasDistinctBirths es → HasDistinctBirths fs → made ≡ cut_to w (changed_boxes es fs)
boxes_made w made os ns es fs is p q d e =
    is ∙ ap (cut_to w) (ap (λ l. changed_boxes l ns) p ∙ (ap (λ l. changed_boxes (changed_olds es fs) l) q ∙ sym (changed_left es fs d e)))

-- ---- what is left has distinct numbers
none_olds : (es fs : List Entry) (b : ℕ) → entry_with b es ≡ None → entry_with b (changed_olds es fs) ≡ None
none_olds [] fs b h = refl
none_olds (e ∷ es) [] b h = h
none_olds (e ∷ es) (f ∷ fs) b h = step (is_kept e f) (none_olds es fs b (none_parts e es b h).1)
  where
    step : (t : Bool) → entry_with b (changed_olds es fs) ≡ None → entry_with b (cond t [] (e ∷ []) ++ changed_olds es fs) ≡ None
    step true go = go
    step false go = rw (none_parts e es b h).0 go

none_nows : (es fs : List Entry) (b : ℕ) → entry_with b fs ≡ None → entry_with b (changed_nows es fs) ≡ None
none_nows [] fs b h = h
none_nows (e ∷ es) [] b h = refl
none_nows (e ∷ es) (f ∷ fs) b h = step (is_kept e f) (none_nows es fs b (none_parts f fs b h).1)
  where
    step : (t : Bool) → entry_with b (changed_nows es fs) ≡ None → entry_with b (cond t [] (f ∷ []) ++ changed_nows es fs) ≡ None
    step true go = go
    step false go = rw (none_parts f fs b h).0 go

with_one : (e : Entry) (os : List Entry) (t : Bool) → entry_with e.key.birth os ≡ None → HasDistinctBirths os → HasDistinctBirths (cond t [] (e ∷ []) ++ os)
with_one e os true n d = d
with_one e os false n d = (n, d)

pub distinct_olds : (es fs : List Entry) → HasDistinctBirths es → HasDistinctBirths (changed_olds es fs)
distinct_olds [] fs h = tt
distinct_olds (e ∷ es) [] h = h
distinct_olds (e ∷ es) (f ∷ fs) h = with_one e (changed_olds es fs) (is_kept e f) (none_olds es fs e.key.birth h.0) (distinct_olds es fs h.1)

pub distinct_nows : (es fs : List Entry) → HasDistinctBirths fs → HasDistinctBirths (changed_nows es fs)
distinct_nows [] fs h = h
distinct_nows (e ∷ es) [] h = tt
distinct_nows (e ∷ es) (f ∷ fs) h = with_one f (changed_nows es fs) (is_kept e f) (none_nows es fs f.key.birth h.0) (distinct_nows es fs h.1)

-- ---- the loop over places
one : (xs : List Entry) (i : ℕ) (x : Entry) → i < length xs → x ≡ get_or xs i x → drop i xs ≡ x ∷ drop (i + 1) xs
one xs i x h e = grind (arith, common_steps)

-- what a function of two lists makes of the entries at a place and of those behind it
pub pair_step : (F : List Entry → List Entry → List Entry) (G : Entry → Entry → List Entry)
    → ((e f : Entry) (es fs : List Entry) → F (e ∷ es) (f ∷ fs) ≡ G e f ++ F es fs) → (done more : List Entry) (es fs : List Entry) (i : ℕ) (e f : Entry)
    → i < length es → i < length fs → e ≡ get_or es i e → f ≡ get_or fs i f → more ≡ done ++ G e f
    → more ++ F (drop (i + 1) es) (drop (i + 1) fs) ≡ done ++ F (drop i es) (drop i fs)
pair_step F G steps done more es fs i e f p q left right made =
    ap (λ l. l ++ F (drop (i + 1) es) (drop (i + 1) fs)) made
    ∙ (append_assoc done (G e f) (F (drop (i + 1) es) (drop (i + 1) fs))
    ∙ ap (λ l. done ++ l) (sym (ap (λ l. F l (drop i fs)) (one es i e p left)
    ∙ (ap (λ l. F (e ∷ drop (i + 1) es) l) (one fs i f q right) ∙ steps e f (drop (i + 1) es) (drop (i + 1) fs)))))

pub olds_more : (done more : List Entry) (es fs : List Entry) (i : ℕ) (e f : Entry) → i < length es → i < length fs → e ≡ get_or es i e → f ≡ get_or fs i f
    → more ≡ done ++ if_changed e f e → more ++ changed_olds (drop (i + 1) es) (drop (i + 1) fs) ≡ done ++ changed_olds (drop i es) (drop i fs)
olds_more done more es fs i e f p q left right made =
    pair_step changed_olds (λ a b. if_changed a b a) (λ a b as' bs. refl) done more es fs i e f p q left right made

pub nows_more : (done more : List Entry) (es fs : List Entry) (i : ℕ) (e f : Entry) → i < length es → i < length fs → e ≡ get_or es i e → f ≡ get_or fs i f
    → more ≡ done ++ if_changed e f f → more ++ changed_nows (drop (i + 1) es) (drop (i + 1) fs) ≡ done ++ changed_nows (drop i es) (drop i fs)
nows_more done more es fs i e f p q left right made =
    pair_step changed_nows (λ a b. if_changed a b b) (λ a b as' bs. refl) done more es fs i e f p q left right made

pub begins_at : (es fs : List Entry) (i : ℕ) (e f : Entry) → i < length es → i < length fs → e ≡ get_or es i e → f ≡ get_or fs i f
    → begins_kept (drop i es) (drop i fs) ≡ is_kept e f
begins_at es fs i e f p q left right =
    ap (λ l. begins_kept l (drop i fs)) (one es i e p left) ∙ ap (begins_kept (e ∷ drop (i + 1) es)) (one fs i f q right)

pub pair_added : (done more : List Entry) (e f g : Entry) → is_kept e f ≡ false → more ≡ done ++ g ∷ [] → more ≡ done ++ if_changed e f g
pair_added done more e f g changed made = rw changed made

behind : (xs : List Entry) (i : ℕ) → take (length xs - i) (drop i xs) ≡ drop i xs
behind xs i = take_all (length xs - i) (drop i xs) (omega (arith, length-drop i xs))

ended : (es fs : List Entry) (i : ℕ) → i ≡ min (length es) (length fs) → (length (drop i es) ≡ 0) ⊎ (length (drop i fs) ≡ 0)
ended es fs i least = elim (leb_tells (length es) (length fs)) [
  | inl t ↦ inl (omega (arith, t.1, length-drop i es))
  | inr t ↦ inr (omega (arith, t.1, length-drop i fs))
]

rest_olds : (es fs : List Entry) → (length es ≡ 0) ⊎ (length fs ≡ 0) → changed_olds es fs ≡ es
rest_olds [] fs h = refl
rest_olds (e ∷ es) [] h = refl
rest_olds (e ∷ es) (f ∷ fs) h = absurd (elim h [ inl p ↦ omega (arith, p) | inr p ↦ omega (arith, p) ])

rest_nows : (es fs : List Entry) → (length es ≡ 0) ⊎ (length fs ≡ 0) → changed_nows es fs ≡ fs
rest_nows [] fs h = refl
rest_nows (e ∷ es) [] h = refl
rest_nows (e ∷ es) (f ∷ fs) h = absurd (elim h [ inl p ↦ omega (arith, p) | inr p ↦ omega (arith, p) ])

pub olds_end : (done more : List Entry) (es fs : List Entry) (place i : ℕ) → place ≡ i → i ≡ min (length es) (length fs)
    → more ≡ done ++ take (length es - i) (drop i es) → more ≡ done ++ changed_olds (drop place es) (drop place fs)
olds_end done more es fs place i at least made =
    made ∙ ap (λ l. done ++ l) (behind es i ∙ (sym (rest_olds (drop i es) (drop i fs) (ended es fs i least))
    ∙ ap (λ k. changed_olds (drop k es) (drop k fs)) (sym at)))

pub nows_end : (done more : List Entry) (es fs : List Entry) (place i : ℕ) → place ≡ i → i ≡ min (length es) (length fs)
    → more ≡ done ++ take (length fs - i) (drop i fs) → more ≡ done ++ changed_nows (drop place es) (drop place fs)
nows_end done more es fs place i at least made =
    made ∙ ap (λ l. done ++ l) (behind fs i ∙ (sym (rest_nows (drop i es) (drop i fs) (ended es fs i least))
    ∙ ap (λ k. changed_nows (drop k es) (drop k fs)) (sym at)))
