-- Fronts of texts, and small facts on tests and options that the readers' proofs share.
use Rattle.std.proofs.Common.{◌≡◌, ℕ, suc, ◌+◌, ◌⊎◌, inl, inr, Bool, true, false, cond, ◌||◌, List, [], ◌∷◌, ◌++◌, length, take, drop, Option, Some, None, refl, sym, ap, ◌∙◌, arith}
use Rattle.std.specs.List.{list_all, prefix_len}
use Rattle.std.specs.Option.{option_and_then, option_map}
use Rattle.std.specs.Cmp.Derive.{both_true}
use Rattle.std.specs.Str.{bytes_eq}
use Rattle.std.proofs.lemmas.Slice.Eq.{bytes_eq-Decides}
use Rattle.std.proofs.lemmas.Bool.{and_parts, not-true}
use Rattle.std.proofs.lemmas.List.{take-append-drop}
use Rattle.std.proofs.lemmas.List.Folds.{length-prefix_len}
use Rattle.std.proofs.Math.Seq.{take-append_seam, drop-append_seam}
use Rattle.fx_text.specs.Fronts.{front, behind, stops}

pub tells : (b : Bool) → (b ≡ true) ⊎ (b ≡ false)
tells true = inl refl
tells false = inr refl

pub bytes_tell : (xs ys : List ℕ) → ((bytes_eq xs ys ≡ true) × (xs ≡ ys)) ⊎ (bytes_eq xs ys ≡ false)
bytes_tell xs ys = elim (tells (bytes_eq xs ys)) [ inl e ↦ inl (e, (bytes_eq-Decides xs ys).0 e) | inr e ↦ inr e ]

pub or_parts : (a b : Bool) → (a || b) ≡ true → (a ≡ true) ⊎ (b ≡ true)
or_parts true b e = inl refl
or_parts false b e = inr e

pub else_gives : {A : Type 0} (b : Bool) (o : Option A) (y : A) → cond b None o ≡ Some y → (b ≡ false) × (o ≡ Some y)
else_gives true o y e = absurd (cc)
else_gives false o y e = (refl, e)

pub then_gives : {A : Type 0} (b : Bool) (o : Option A) (y : A) → cond b o None ≡ Some y → (b ≡ true) × (o ≡ Some y)
then_gives true o y e = (refl, e)
then_gives false o y e = absurd (cc)

pub map_gives : {A B : Type 0} (f : A → B) (o : Option A) (y : B) → option_map f o ≡ Some y → (x : A) × (o ≡ Some x) × (f x ≡ y)
map_gives f None y e = absurd (cc)
map_gives f (Some x) y e = (x, refl, cc)

pub bind_gives : {A B : Type 0} (f : A → Option B) (o : Option A) (y : B) → option_and_then f o ≡ Some y → (x : A) × (o ≡ Some x) × (f x ≡ Some y)
bind_gives f None y e = absurd (cc)
bind_gives f (Some x) y e = (x, refl, e)

pub prefix_len-stop : (test : ℕ → Bool) (xs rest : List ℕ) → list_all test xs ≡ true → stops test rest ≡ true → prefix_len test (xs ++ rest) ≡ length xs
prefix_len-stop test [] [] p s = refl
prefix_len-stop test [] (y ∷ ys) p s = rw (not-true (test y) s) refl
prefix_len-stop test (x ∷ xs) rest p s =
    let q = and_parts (test x) (list_all test xs) p in
    let ih = prefix_len-stop test xs rest q.1 s in
    rw q.0 (omega (arith, ih))

pub front-stop : (test : ℕ → Bool) (xs rest : List ℕ) → list_all test xs ≡ true → stops test rest ≡ true → front test (xs ++ rest) ≡ xs
front-stop test xs rest p s = rw (prefix_len-stop test xs rest p s) (take-append_seam xs rest)

pub behind-stop : (test : ℕ → Bool) (xs rest : List ℕ) → list_all test xs ≡ true → stops test rest ≡ true → behind test (xs ++ rest) ≡ rest
behind-stop test xs rest p s = rw (prefix_len-stop test xs rest p s) (drop-append_seam xs rest)

passes_by : (test : ℕ → Bool) (x : ℕ) (xs : List ℕ) (b : Bool) → test x ≡ b → list_all test (front test xs) ≡ true → list_all test (take (cond b (1 + prefix_len test xs) 0) (x ∷ xs)) ≡ true
passes_by test x xs true e ih =
    let one : 1 + prefix_len test xs ≡ suc (prefix_len test xs) = omega arith in
    rw one (both_true e ih)
passes_by test x xs false e ih = refl

pub front-passes : (test : ℕ → Bool) (xs : List ℕ) → list_all test (front test xs) ≡ true
front-passes test [] = refl
front-passes test (x ∷ xs) = passes_by test x xs (test x) refl (front-passes test xs)

pub front_and_behind : (test : ℕ → Bool) (xs : List ℕ) → xs ≡ front test xs ++ behind test xs
front_and_behind test xs = sym (take-append-drop (prefix_len test xs) xs)

pub front_some : (test : ℕ → Bool) (xs : List ℕ) → (prefix_len test xs ≡ 0 → ⊥) → front test xs ≡ [] → ⊥
front_some test xs some e = some (sym (length-prefix_len test xs) ∙ ap length e)

-- a text whose characters all pass one test and fail another, at whose end the other may stop
pub stops_by : (test : ℕ → Bool) (x : ℕ) (xs : List ℕ) → test x ≡ false → stops test (x ∷ xs) ≡ true
stops_by test x xs e = rw e refl

stops_after : (test : ℕ → Bool) (x : ℕ) (xs : List ℕ) (b : Bool) → test x ≡ b → stops test (behind test xs) ≡ true → stops test (drop (cond b (1 + prefix_len test xs) 0) (x ∷ xs)) ≡ true
stops_after test x xs true e ih =
    let one : 1 + prefix_len test xs ≡ suc (prefix_len test xs) = omega arith in
    rw one ih
stops_after test x xs false e ih = rw e refl

-- what is behind the longest front begins with no character that passes
pub behind_stops : (test : ℕ → Bool) (xs : List ℕ) → stops test (behind test xs) ≡ true
behind_stops test [] = refl
behind_stops test (x ∷ xs) = stops_after test x xs (test x) refl (behind_stops test xs)
