-- Birth numbers in order: two rising lists with the same members are one.
use Rattle.std.proofs.Common.{ℕ, Bool, ◌≡◌, ◌<◌, ◌≤◌, ◌==◌, ◌∙◌, refl, sym, ap, true, false, cond, List, [], ◌∷◌, ◌++◌, arith, ◌||◌, ◌&&◌, subst, inl, inr}
use Rattle.std.specs.List.{list_any, filter, flat_map}
use Rattle.std.proofs.lemmas.Bool.{cases_order, cases_eq}
use Rattle.fx_picture.specs.declared.entries.Entry.{Entry}
use Rattle.fx_damage.specs.Births.{AllAbove, RisesStrictly, is_among}
use Rattle.fx_damage.specs.Damage.{with_birth, births_of}

-- by what inserting does
by_step : (P : List ℕ → Type 0) (b c : ℕ) (cs : List ℕ) → (b < c → P (b ∷ c ∷ cs)) → (b ≡ c → P (c ∷ cs)) → (c < b → P (c ∷ with_birth b cs))
    → P (with_birth b (c ∷ cs))
by_step P b c cs l e g = elim (cases_order b c) [
  | inl h ↦ (let q : c ∷ cs ≡ with_birth b (c ∷ cs) = grind (arith, h) in subst P q (e h))
  | inr o ↦ elim o [
    | inl h ↦ (let q : b ∷ c ∷ cs ≡ with_birth b (c ∷ cs) = grind (arith, h) in subst P q (l h))
    | inr h ↦ (let q : c ∷ with_birth b cs ≡ with_birth b (c ∷ cs) = grind (arith, h) in subst P q (g h))
  ]
]

among-with_birth : (b : ℕ) (cs : List ℕ) (k : ℕ) → is_among (with_birth b cs) k ≡ (b == k || is_among cs k)
among-with_birth b [] k = refl
among-with_birth b (c ∷ cs) k = grind (arith, among-with_birth b cs k)

pub AllAbove-trans : (b c : ℕ) (cs : List ℕ) → b < c → AllAbove c cs → AllAbove b cs
AllAbove-trans b c [] l a = tt
AllAbove-trans b c (d ∷ ds) l a = (omega (arith, l, a.0), AllAbove-trans b c ds l a.1)

AllAbove-with : (a b : ℕ) (cs : List ℕ) → a < b → AllAbove a cs → AllAbove a (with_birth b cs)
AllAbove-with a b [] l h = (l, tt)
AllAbove-with a b (c ∷ cs) l h = by_step (λ r. AllAbove a r) b c cs (λ p. (l, h)) (λ p. h) (λ p. (h.0, AllAbove-with a b cs l h.1))

rises-with : (b : ℕ) (cs : List ℕ) → RisesStrictly cs → RisesStrictly (with_birth b cs)
rises-with b [] h = (tt, tt)
rises-with b (c ∷ cs) h = by_step (λ r. RisesStrictly r) b c cs
    (λ p. ((p, AllAbove-trans b c cs p h.0), h)) (λ p. h) (λ p. (AllAbove-with c b cs p h.0, rises-with b cs h.1))

pub rises-births : (entries : List Entry) → RisesStrictly (births_of entries)
rises-births [] = tt
rises-births (e ∷ es) = rises-with e.key.birth (births_of es) (rises-births es)

-- whether an entry has this birth number
abbrev pub has_birth : List Entry → ℕ → Bool
has_birth entries k = list_any (λ e. e.key.birth == k) entries

pub among-births : (entries : List Entry) (k : ℕ) → is_among (births_of entries) k ≡ has_birth entries k
among-births [] k = refl
among-births (e ∷ es) k = among-with_birth e.key.birth (births_of es) k ∙ ap (λ t. e.key.birth == k || t) (among-births es k)

pub above_none : (b : ℕ) (cs : List ℕ) (k : ℕ) → k ≤ b → AllAbove b cs → is_among cs k ≡ false
above_none b [] k l h = refl
above_none b (c ∷ cs) k l h = let n = above_none b cs k l h.1 in let g : k < c = omega (arith, l, h.0) in grind (arith, n, g)

-- the heads are one, and so are the tails' members
same_head : (a b : ℕ) (as' bs : List ℕ) → AllAbove a as' → AllAbove b bs
    → ((k : ℕ) → is_among (a ∷ as') k ≡ is_among (b ∷ bs) k) → a ≡ b
same_head a b as' bs p q s =
    let n1 : b < a → ⊥ = λ l. (let z = above_none a as' b (omega (arith, l)) p in let t = s b in grind (arith, z, t, l)) in
    let n2 : a < b → ⊥ = λ l. (let z = above_none b bs a (omega (arith, l)) q in let t = s a in grind (arith, z, t, l)) in
    omega (arith, n1, n2)

same_tail : (a : ℕ) (as' bs : List ℕ) → AllAbove a as' → AllAbove a bs
    → ((k : ℕ) → is_among (a ∷ as') k ≡ is_among (a ∷ bs) k) → (k : ℕ) → is_among as' k ≡ is_among bs k
same_tail a as' bs p q s k = elim (cases_order a k) [
  | inl h ↦ (let z1 = above_none a as' k (omega (arith, h)) p in let z2 = above_none a bs k (omega (arith, h)) q in z1 ∙ sym z2)
  | inr o ↦ (let t = s k in let n : a ≡ k → ⊥ = λ e. (elim o [ inl l ↦ omega (arith, l, e) | inr l ↦ omega (arith, l, e) ]) in grind (arith, t, n))
]

rising_same_more : (a : ℕ) (as' : List ℕ) (b : ℕ) (bs : List ℕ) → a ≡ b → RisesStrictly (a ∷ as') → RisesStrictly (b ∷ bs)
    → ((k : ℕ) → is_among (a ∷ as') k ≡ is_among (b ∷ bs) k) → (((k : ℕ) → is_among as' k ≡ is_among bs k) → as' ≡ bs) → a ∷ as' ≡ b ∷ bs
rising_same_more a as' b bs e p q s go =
    let P : ℕ → Type 0 = λ x. AllAbove x bs → ((k : ℕ) → is_among (a ∷ as') k ≡ is_among (x ∷ bs) k) → a ∷ as' ≡ x ∷ bs in
    subst P e (λ above same. ap (λ r. a ∷ r) (go (same_tail a as' bs p.0 above same))) q.0 s

pub rising_same : (as' bs : List ℕ) → RisesStrictly as' → RisesStrictly bs → ((k : ℕ) → is_among as' k ≡ is_among bs k) → as' ≡ bs
rising_same [] [] p q s = refl
rising_same [] (b ∷ bs) p q s = let t = s b in grind (arith, t)
rising_same (a ∷ as') [] p q s = let t = s a in grind (arith, t)
rising_same (a ∷ as') (b ∷ bs) p q s =
    let e : a ≡ b = same_head a b as' bs p.0 q.0 s in
    rising_same_more a as' b bs e p q s (λ r. rising_same as' bs p.1 q.1 r)

among_step : (p : ℕ → Bool) (b : ℕ) (bs : List ℕ) (k : ℕ) (t : Bool) → p b ≡ t → is_among (filter p bs) k ≡ (p k && is_among bs k)
    → is_among (cond t (b ∷ filter p bs) (filter p bs)) k ≡ (p k && (b == k || is_among bs k))
among_step p b bs k true q n = elim (cases_eq b k) [
  | inl h ↦ (let e : p k ≡ true = ap p (sym h) ∙ q in grind (arith, e, h))
  | inr h ↦ grind (arith, n, h)
]
among_step p b bs k false q n = elim (cases_eq b k) [
  | inl h ↦ (let e : p k ≡ false = ap p (sym h) ∙ q in grind (arith, e, h, n))
  | inr h ↦ grind (arith, n, h)
]

pub among-filter : (p : ℕ → Bool) (bs : List ℕ) (k : ℕ) → is_among (filter p bs) k ≡ (p k && is_among bs k)
among-filter p [] k = elim (p k) as (λ t. false ≡ (t && false)) [ true ↦ refl | false ↦ refl ]
among-filter p (b ∷ bs) k = among_step p b bs k (p b) refl (among-filter p bs k)

AllAbove-filter : (p : ℕ → Bool) (a : ℕ) (bs : List ℕ) → AllAbove a bs → AllAbove a (filter p bs)
AllAbove-filter p a [] h = tt
AllAbove-filter p a (b ∷ bs) h = elim (p b) as (λ t. AllAbove a (cond t (b ∷ filter p bs) (filter p bs))) [
  | true ↦ (h.0, AllAbove-filter p a bs h.1)
  | false ↦ AllAbove-filter p a bs h.1
]

pub rises-filter : (p : ℕ → Bool) (bs : List ℕ) → RisesStrictly bs → RisesStrictly (filter p bs)
rises-filter p [] h = tt
rises-filter p (b ∷ bs) h = elim (p b) as (λ t. RisesStrictly (cond t (b ∷ filter p bs) (filter p bs))) [
  | true ↦ (AllAbove-filter p b bs h.0, rises-filter p bs h.1)
  | false ↦ rises-filter p bs h.1
]

filter_test : {B : Type 0} (f : ℕ → List B) (p : ℕ → Bool) (b : ℕ) (bs : List ℕ) (t : Bool) → p b ≡ t → flat_map f bs ≡ flat_map f (filter p bs)
    → (p b ≡ false → f b ≡ []) → f b ++ flat_map f bs ≡ flat_map f (cond t (b ∷ filter p bs) (filter p bs))
filter_test f p b bs true q e h = ap (λ r. f b ++ r) e
filter_test f p b bs false q e h = rw (h q) e

-- where nothing is made of what the test leaves out
pub flat_map-filter : {B : Type 0} (f : ℕ → List B) (p : ℕ → Bool) (bs : List ℕ) → ((b : ℕ) → p b ≡ false → f b ≡ [])
    → flat_map f bs ≡ flat_map f (filter p bs)
flat_map-filter f p [] h = refl
flat_map-filter f p (b ∷ bs) h = let e = flat_map-filter f p bs h in filter_test f p b bs (p b) refl e (h b)
