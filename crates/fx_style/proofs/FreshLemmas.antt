-- Entries made anew, one after another.
use Rattle.std.proofs.Common.{◌≡◌, ◌++◌, ◌∷◌, [], ◌<◌, ◌≤◌, ℕ, zero, suc, Bool, true, false, ◌||◌, cond, eqb, List, Option, Some, None, map, get_or, length, set, refl, sym, ◌∙◌, ap, subst, inl, inr, arith, eq-eqb}
use Rattle.std.specs.Prelude.{slice_get}
use Rattle.std.specs.Option.{option_map}
use Rattle.std.proofs.lemmas.Bool.{cases_eq, ne_eqb}
use Rattle.std.proofs.lemmas.List.{get_or-set_other, get_or-set_same, length-set}
use Rattle.fx_style.specs.declared.kept.Entry.{Entry}
use Rattle.fx_style.specs.declared.kept.Fresh.{Fresh}
use Rattle.fx_base.specs.Answers.{or_else}
use Rattle.fx_style.specs.Kept.{fresh_at, if_at, is_among}
use Rattle.fx_style.specs.Plans.{AreSteps, made_fresh, put_step, step_entry}

or_none : {X : Type 0} (o : Option X) → or_else o None ≡ o
or_none None = refl
or_none (Some x) = refl

pub or_assoc : {X : Type 0} (a b c : Option X) → or_else (or_else a b) c ≡ or_else a (or_else b c)
or_assoc None b c = refl
or_assoc (Some x) b c = refl

fresh-push : (fs : List Fresh) (g : Fresh) (k : ℕ) → fresh_at (fs ++ g ∷ []) k ≡ or_else (if_at g k) (fresh_at fs k)
fresh-push [] g k = sym (or_none (if_at g k))
fresh-push (f ∷ fs) g k =
    ap (λ (o : Option Entry). or_else o (if_at f k)) (fresh-push fs g k)
    ∙ or_assoc (if_at g k) (fresh_at fs k) (if_at f k)

-- at another place nothing changes
pub fresh-other : (fs : List Fresh) (at : ℕ) (o : Option Entry) (k : ℕ) → (at ≡ k → ⊥)
    → fresh_at (fs ++ made_fresh at o) k ≡ fresh_at fs k
fresh-other fs at None k differ = ap (λ (l : List Fresh). fresh_at l k) (append-none fs)
  where
    append-none : (l : List Fresh) → l ++ [] ≡ l
    append-none [] = refl
    append-none (x ∷ xs) = ap (λ (l : List Fresh). x ∷ l) (append-none xs)
fresh-other fs at (Some e) k differ =
    fresh-push fs (record { at = at; entry = e }) k
    ∙ ap (λ (b : Bool). or_else (cond b (Some e) None) (fresh_at fs k)) (ne_eqb at k differ)

-- at its place stands the new one, where there is one
pub fresh-here : (fs : List Fresh) (at : ℕ) (o : Option Entry) → fresh_at fs at ≡ None
    → fresh_at (fs ++ made_fresh at o) at ≡ o
fresh-here fs at None none = ap (λ (l : List Fresh). fresh_at l at) (append-none fs) ∙ none
  where
    append-none : (l : List Fresh) → l ++ [] ≡ l
    append-none [] = refl
    append-none (x ∷ xs) = ap (λ (l : List Fresh). x ∷ l) (append-none xs)
fresh-here fs at (Some e) none =
    fresh-push fs (record { at = at; entry = e }) at
    ∙ ap (λ (b : Bool). or_else (cond b (Some e) None) (fresh_at fs at)) (eq-eqb at at refl)

get-push : {X : Type 0} (xs : List X) (y : X) (k : ℕ) → k < length xs → slice_get (xs ++ y ∷ []) k ≡ slice_get xs k
get-push [] y k within = absurd (omega arith)
get-push (x ∷ xs) y zero within = refl
get-push (x ∷ xs) y (suc k) within = get-push xs y k (omega (arith, within))

get-last : {X : Type 0} (xs : List X) (y : X) → slice_get (xs ++ y ∷ []) (length xs) ≡ Some y
get-last [] y = refl
get-last (x ∷ xs) y = get-last xs y

-- each step names a fresh entry that is there
pub record AreFew (fresh : List Fresh) (steps : List (Option ℕ)) : Type 0 where
  pub each : (k s : ℕ) → get_or steps k None ≡ Some s → s < length fresh

length-made : (fs : List Fresh) (at : ℕ) (o : Option Entry) → length fs ≤ length (fs ++ made_fresh at o)
length-made [] at o = omega arith
length-made (f ∷ fs) at o = omega (arith, length-made fs at o)

length-some : (fs : List Fresh) (at : ℕ) (e : Entry) → length fs < length (fs ++ made_fresh at (Some e))
length-some [] at e = omega arith
length-some (f ∷ fs) at e = omega (arith, length-some fs at e)

-- a step that names an entry that is there names it still
step-kept : (fs : List Fresh) (at : ℕ) (o : Option Entry) (step : Option ℕ)
    → ((s : ℕ) → step ≡ Some s → s < length fs)
    → step_entry (fs ++ made_fresh at o) step ≡ step_entry fs step
step-kept fs at o None few = refl
step-kept fs at None (Some s) few = ap (λ (l : List Fresh). step_entry l (Some s)) (append-none fs)
  where
    append-none : (l : List Fresh) → l ++ [] ≡ l
    append-none [] = refl
    append-none (x ∷ xs) = ap (λ (l : List Fresh). x ∷ l) (append-none xs)
step-kept fs at (Some e) (Some s) few =
    ap (option_map (λ (f : Fresh). f.entry)) (get-push fs (record { at = at; entry = e }) s (few s refl))

pub append-none : (fs : List Fresh) → fs ++ [] ≡ fs
append-none [] = refl
append-none (f ∷ fs) = ap (λ (l : List Fresh). f ∷ l) (append-none fs)

-- the steps after one more place
pub steps_more : (fs : List Fresh) (steps : List (Option ℕ)) (at : ℕ) (o : Option Entry) → AreSteps fs steps
    → AreFew fs steps → fresh_at fs at ≡ None
    → AreSteps (fs ++ made_fresh at o) (put_step steps at o (length fs))
steps_more fs steps at None are few none k within =
    subst (λ (l : List Fresh). AreSteps l steps) (sym (append-none fs)) are k within
steps_more fs steps at (Some e) are few none k within = elim (cases_eq k at) [
  | inl same ↦
      let there : at < length steps = let h : k < length steps =
      subst (λ (n : ℕ). k < n) (length-set steps at (Some (length fs))) within in omega (arith, h, same) in
      ap (fresh_at (fs ++ made_fresh at (Some e))) same
      ∙ fresh-here fs at (Some e) none
      ∙ sym (ap (option_map (λ (f : Fresh). f.entry)) (get-last fs (record { at = at; entry = e })))
      ∙ ap (step_entry (fs ++ made_fresh at (Some e)))
      (sym (ap (λ (n : ℕ). get_or (set steps at (Some (length fs))) n None) same
      ∙ get_or-set_same steps at (Some (length fs)) None there))
  | inr other ↦
      let below : k < length steps =
      subst (λ (n : ℕ). k < n) (length-set steps at (Some (length fs))) within in
      fresh-other fs at (Some e) k (λ s. other (sym s)) ∙ are k below
      ∙ sym (step-kept fs at (Some e) (get_or steps k None) (λ s g. few.each k s g))
      ∙ ap (step_entry (fs ++ made_fresh at (Some e)))
      (sym (get_or-set_other steps at k (Some (length fs)) None other))
]

pub few_more : (fs : List Fresh) (steps : List (Option ℕ)) (at : ℕ) (o : Option Entry) → at < length steps
    → AreFew fs steps → AreFew (fs ++ made_fresh at o) (put_step steps at o (length fs))
few_more fs steps at None within few =
    subst (λ (l : List Fresh). AreFew l steps) (sym (append-none fs)) few
few_more fs steps at (Some e) within few = record {
  each = λ k s is. elim (cases_eq k at) [
    | inl same ↦
        let here : Some (length fs) ≡ Some s =
        sym (ap (λ (n : ℕ). get_or (set steps at (Some (length fs))) n None) same
        ∙ get_or-set_same steps at (Some (length fs)) None within) ∙ is in
        let one : length fs ≡ s = cc in
        omega (arith, length-some fs at e, one)
    | inr other ↦
        let h : s < length fs =
        few.each k s (sym (get_or-set_other steps at k (Some (length fs)) None other) ∙ is) in
        omega (arith, h, length-made fs at (Some e))
  ];
}

pub long_more : (steps : List (Option ℕ)) (at : ℕ) (o : Option Entry) (count : ℕ)
    → length (put_step steps at o count) ≡ length steps
long_more steps at None count = refl
long_more steps at (Some e) count = length-set steps at (Some count)

-- of places without step

-- a place that no entry is for
pub not_among : (fs : List Fresh) (at : ℕ) → is_among (map (λ (f : Fresh). f.at) fs) at ≡ false → fresh_at fs at ≡ None
not_among [] at off = refl
not_among (f ∷ fs) at off =
    let parts = parts_of (eqb f.at at) (is_among (map (λ (f : Fresh). f.at) fs) at) off in
    ap (λ (o : Option Entry). or_else o (if_at f at)) (not_among fs at parts.1)
    ∙ ap (λ (b : Bool). cond b (Some f.entry) None) parts.0
  where
    parts_of : (a b : Bool) → (a || b) ≡ false → (a ≡ false) × (b ≡ false)
    parts_of true b e = absurd (cc)
    parts_of false b e = (refl, e)
