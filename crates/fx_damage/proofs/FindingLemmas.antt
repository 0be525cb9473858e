-- The entry at a place with a birth number is the one that the number names.
use Rattle.std.proofs.Common.{◌≡◌, ◌<◌, ℕ, suc, zero, List, [], ◌∷◌, length, get_or, Option, Some, None, refl, ap, sym, ◌∙◌, inl, inr, arith, Bool, true, false, cond, ◌==◌, ◌||◌}
use Rattle.std.specs.List.{Contains}
use Rattle.std.specs.List.Sorted.{IsPermutation}
use Rattle.std.proofs.lemmas.Bool.Decides.{Decides-eqb}
use Rattle.std.proofs.lemmas.List.Sorted.{Contains-permutation, IsPermutation-sym, list_any-IsPermutation}
use Rattle.fx_picture.specs.declared.entries.Entry.{Entry}
use Rattle.fx_picture.specs.Entries.{HasDistinctBirths, entry_with}
use Rattle.fx_damage.proofs.BirthLemmas.{has_birth}
use Rattle.fx_damage.proofs.MergeLemmas.{Among}
use Rattle.fx_damage.proofs.OutsideLemmas.{entry-among, none_among}

-- the entry at this place has the number
pub record HasBirthAt (entries : List Entry) (birth place : ℕ) : Type 0 where
  pub within : place < length entries
  pub is : (d : Entry) → (get_or entries place d).key.birth ≡ birth

-- no entry has it
abbrev pub HasNoBirth : List Entry → ℕ → Type 0
HasNoBirth entries birth = (j : ℕ) → (d : Entry) → j < length entries → (get_or entries j d).key.birth ≡ birth → ⊥

among-at : (es : List Entry) (k : ℕ) (d : Entry) → k < length es → Among es (get_or es k d)
among-at [] k d h = absurd (omega (arith, h))
among-at (e ∷ es) zero d h = inl refl
among-at (e ∷ es) (suc k) d h = inr (among-at es k d (omega (arith, h)))

pub entry_at : (es : List Entry) (birth place : ℕ) (d : Entry) → HasDistinctBirths es → HasBirthAt es birth place → entry_with birth es ≡ Some (get_or es place d)
entry_at es birth place d distinct at =
    ap (λ b. entry_with b es) (sym (at.is d)) ∙ entry-among es (get_or es place d) distinct (among-at es place d at.within)

pub entry_none : (es : List Entry) (birth : ℕ) → HasNoBirth es birth → entry_with birth es ≡ None
entry_none [] birth h = refl
entry_none (e ∷ es) birth h = none (e.key.birth == birth) refl (entry_none es birth (λ j d q. h (suc j) d (omega (arith, q))))
  where
    none : (t : Bool) → (e.key.birth == birth) ≡ t → entry_with birth es ≡ None → cond t (Some e) (entry_with birth es) ≡ None
    none true q rest = absurd (h 0 e (omega arith) ((Decides-eqb e.key.birth birth).0 q))
    none false q rest = rest

or_false : (a b : Bool) → (a || b) ≡ false → (a ≡ false) × (b ≡ false)
or_false true b h = cc
or_false false b h = (refl, h)

pub none_with : (es : List Entry) (b : ℕ) → has_birth es b ≡ false → entry_with b es ≡ None
none_with [] b h = refl
none_with (e ∷ es) b h = let parts = or_false (e.key.birth == b) (has_birth es b) h in rw parts.0 (none_with es b parts.1)

-- neither the first entry nor another has the number
pub none_parts : (e : Entry) (es : List Entry) (b : ℕ) → entry_with b (e ∷ es) ≡ None → ((e.key.birth == b) ≡ false) × (entry_with b es ≡ None)
none_parts e es b h = parts (e.key.birth == b) refl h
  where
    parts : (t : Bool) → (e.key.birth == b) ≡ t → cond t (Some e) (entry_with b es) ≡ None → ((e.key.birth == b) ≡ false) × (entry_with b es ≡ None)
    parts true q h = cc
    parts false q h = (q, h)

-- the number of the first entry is that of no other
pub number_gone : (e : Entry) (es : List Entry) (b : ℕ) → (e.key.birth == b) ≡ true → HasDistinctBirths (e ∷ es) → entry_with b es ≡ None
number_gone e es b t d = ap (λ n. entry_with n es) (sym ((Decides-eqb e.key.birth b).0 t)) ∙ d.0

-- ---- where an entry stands
pub record Found (es : List Entry) (b : ℕ) (e : Entry) : Type 0 where
  pub place : ℕ
  pub within : place < length es
  pub is : (d : Entry) → get_or es place d ≡ e
  pub birth : e.key.birth ≡ b

pub found : (es : List Entry) (b : ℕ) (e : Entry) → entry_with b es ≡ Some e → Found es b e
found [] b e h = cc
found (f ∷ fs) b e h = one (f.key.birth == b) refl h (λ r. found fs b e r)
  where
    one : (t : Bool) → (f.key.birth == b) ≡ t → cond t (Some f) (entry_with b fs) ≡ Some e → (entry_with b fs ≡ Some e → Found fs b e) → Found (f ∷ fs) b e
    one true q h go =
        let same : f ≡ e = cc in
        record { place = 0; within = omega arith; is = λ d. same; birth = sym (ap (λ (g : Entry). g.key.birth) same) ∙ (Decides-eqb f.key.birth b).0 q }
    one false q h go = let r = go h in record { place = suc r.place; within = omega (arith, r.within); is = λ d. r.is d; birth = r.birth }

pub none_at : (es : List Entry) (b k : ℕ) (d : Entry) → entry_with b es ≡ None → k < length es → (get_or es k d).key.birth ≡ b → ⊥
none_at [] b k d h l e = omega (arith, l)
none_at (f ∷ fs) b zero d h l e = first (f.key.birth == b) refl h
  where
    first : (t : Bool) → (f.key.birth == b) ≡ t → cond t (Some f) (entry_with b fs) ≡ None → ⊥
    first true q h = cc
    first false q h = let t : (f.key.birth == b) ≡ true = (Decides-eqb f.key.birth b).1 e in cc
none_at (f ∷ fs) b (suc k) d h l e = later (f.key.birth == b) h (λ r. none_at fs b k d r (omega (arith, l)) e)
  where
    later : (t : Bool) → cond t (Some f) (entry_with b fs) ≡ None → (entry_with b fs ≡ None → ⊥) → ⊥
    later true h go = cc
    later false h go = go h

-- one birth number stands at one place
pub one_place : (es : List Entry) (b i j : ℕ) (d : Entry) → HasDistinctBirths es → i < length es → j < length es
    → (get_or es i d).key.birth ≡ b → (get_or es j d).key.birth ≡ b → i ≡ j
one_place [] b i j d h p q e f = omega (arith, p)
one_place (g ∷ gs) b zero zero d h p q e f = refl
one_place (g ∷ gs) b zero (suc j) d h p q e f = absurd (none_at gs g.key.birth j d h.0 (omega (arith, q)) (f ∙ sym e))
one_place (g ∷ gs) b (suc i) zero d h p q e f = absurd (none_at gs g.key.birth i d h.0 (omega (arith, p)) (e ∙ sym f))
one_place (g ∷ gs) b (suc i) (suc j) d h p q e f = ap suc (one_place gs b i j d h.1 (omega (arith, p)) (omega (arith, q)) e f)

-- ---- the same entries in another order
pub any_default : (xs : List Entry) (i : ℕ) (d e : Entry) → i < length xs → get_or xs i d ≡ get_or xs i e
any_default [] i d e h = absurd (omega (arith, h))
any_default (x ∷ xs) zero d e h = refl
any_default (x ∷ xs) (suc i) d e h = any_default xs i d e (omega (arith, h))

by_entry : (o : Option Entry) (P : Type 0) → (o ≡ None → P) → ((e : Entry) → o ≡ Some e → P) → P
by_entry None P n s = n refl
by_entry (Some e) P n s = s e refl

pub entry_moved : (xs ys : List Entry) (b : ℕ) → HasDistinctBirths xs → IsPermutation xs ys → entry_with b xs ≡ entry_with b ys
entry_moved xs ys b distinct moved = by_entry (entry_with b ys) (entry_with b xs ≡ entry_with b ys) none some
  where
    none : entry_with b ys ≡ None → entry_with b xs ≡ entry_with b ys
    none h =
        let same : has_birth xs b ≡ has_birth ys b = list_any-IsPermutation (λ (e : Entry). e.key.birth == b) xs ys moved in
        none_with xs b (same ∙ none_among ys b h) ∙ sym h

    some : (e : Entry) → entry_with b ys ≡ Some e → entry_with b xs ≡ entry_with b ys
    some e h =
        let f = found ys b e h in
        let there : Contains ys e = (f.place, f.within, f.is e) in
        let here : Contains xs e = Contains-permutation ys xs e (IsPermutation-sym xs ys moved) there in
        entry_at xs b here.0 e distinct (record { within = here.1; is = λ d. ap (λ (g : Entry). g.key.birth) (any_default xs here.0 d e here.1 ∙ here.2) ∙ f.birth })
        ∙ (ap Some here.2 ∙ sym h)
