-- Walks of uses, and what follows for names that lead to others. Above this file nothing looks into `leads`.
use Rattle.std.proofs.Common.{◌≡◌, ℕ, zero, suc, ◌+◌, ◌<◌, ◌≤◌, Bool, true, false, ◌||◌, ◌==◌, List, [], ◌∷◌, length, arith, refl, sym, ap, subst, inl, inr}
use Rattle.std.specs.List.{Contains}
use Rattle.std.proofs.lemmas.Bool.{cases_lt, false≢true, eqb-true, eq-eqb, or_cases, or_left, or_right, false_from_ne_true}
use Rattle.std.proofs.lemmas.List.{get_or_past}
use Rattle.fx_graph_model.specs.declared.entries.Entry.{Entry}
use Rattle.fx_graph_model.specs.Uses.{nothing, operands_in, uses, reaches_in, reaches, leads, Ranked}
use Rattle.fx_graph_model.specs.Unread.{leads_to_any}
use Rattle.fx_graph_model.proofs.Members.{any_from, any_at}

-- so many uses lead from the one to the other
abbrev pub Walk : ℕ → List Entry → ℕ → ℕ → Type 0
Walk zero es a b = a ≡ b
Walk (suc n) es a b = (o : ℕ) × Contains (uses es a) o × Walk n es o b

pub walk_from_reaches : (most : ℕ) (es : List Entry) (a b : ℕ) → reaches_in most es a b ≡ true → (n : ℕ) × Walk (suc n) es a b
unfolding reaches_in
walk_from_reaches zero es a b e = absurd (false≢true e)
walk_from_reaches (suc most) es a b e =
    let found = any_from (λ (o : ℕ). (o == b) || reaches_in most es o b) (uses es a) e in
    elim (or_cases (found.0 == b) (reaches_in most es found.0 b) found.2) [
      | inl here ↦ (0, (found.0, found.1, eqb-true _ _ here))
      | inr more ↦
          let rest = walk_from_reaches most es found.0 b more in
          (suc rest.0, (found.0, found.1, rest.1))
    ]

pub reaches_from_walk : (most n : ℕ) (es : List Entry) (a b : ℕ) → n < most → Walk (suc n) es a b → reaches_in most es a b ≡ true
unfolding reaches_in
reaches_from_walk zero n es a b h w = absurd (omega arith)
reaches_from_walk (suc most) zero es a b h w =
    any_at (λ (o : ℕ). (o == b) || reaches_in most es o b) (uses es a) w.0 w.1 (or_left _ _ (eq-eqb w.0 b w.2))
reaches_from_walk (suc most) (suc n) es a b h w =
    any_at (λ (o : ℕ). (o == b) || reaches_in most es o b) (uses es a) w.0 w.1
    (or_right _ _ (reaches_from_walk most n es w.0 b (omega arith) w.2))

pub walk_push : (n : ℕ) (es : List Entry) (a o b : ℕ) → Walk n es a o → Contains (uses es o) b → Walk (suc n) es a b
walk_push zero es a o b w c =
    let P : ℕ → Type 0 = λ x. Contains (uses es x) b in
    (b, subst P (sym w) c, refl)
walk_push (suc n) es a o b w c = (w.0, w.1, walk_push n es w.0 o b w.2 c)

pub walk_falls : (es : List Entry) (rank : ℕ → ℕ) → Ranked es rank → (n a b : ℕ) → Walk n es a b → rank b + n ≤ rank a
walk_falls es rank ranked zero a b w = let e : rank a ≡ rank b = ap rank w in omega arith
walk_falls es rank ranked (suc n) a b w =
    let rest : rank b + n ≤ rank w.0 = walk_falls es rank ranked n w.0 b w.2 in
    let step : rank w.0 < rank a = ranked.falls a w.0 w.1 in
    omega arith

pub user_within : (es : List Entry) (a b : ℕ) → Contains (uses es a) b → a < length es
user_within es a b c =
    elim (cases_lt a (length es)) [
      | inl within ↦ within
      | inr past ↦
          let none : length (uses es a) ≡ 0 = ap (λ (e : Entry). length (operands_in e.definition)) (get_or_past es a nothing past) in
          let some : c.0 < length (uses es a) = c.1 in
          absurd (omega arith)
    ]

pub leads_from_walk : (es : List Entry) (rank : ℕ → ℕ) → Ranked es rank → (n a b : ℕ) → Walk n es a b → leads es a b ≡ true
unfolding leads
leads_from_walk es rank ranked zero a b w = or_left _ _ (eq-eqb a b w)
leads_from_walk es rank ranked (suc n) a b w =
    let fall : rank b + suc n ≤ rank a = walk_falls es rank ranked (suc n) a b w in
    let low : rank a < length es = ranked.small a (user_within es a w.0 w.1) in
    or_right _ _ (reaches_from_walk (length es) n es a b (omega arith) w)

pub walk_from_leads : (es : List Entry) (a b : ℕ) → leads es a b ≡ true → (n : ℕ) × Walk n es a b
unfolding leads
walk_from_leads es a b e =
    elim (or_cases (a == b) (reaches es a b) e) [
      | inl here ↦ (0, eqb-true a b here)
      | inr more ↦ let walk = walk_from_reaches (length es) es a b more in (suc walk.0, walk.1)
    ]

-- no name reaches itself
pub acyclic : (es : List Entry) (rank : ℕ → ℕ) → Ranked es rank → (name : ℕ) → reaches es name name ≡ false
acyclic es rank ranked name =
    false_from_ne_true (reaches es name name)
    (λ e.
    let walk = walk_from_reaches (length es) es name name e in
    let fall : rank name + suc walk.0 ≤ rank name = walk_falls es rank ranked (suc walk.0) name name walk.1 in
    omega arith)

pub leads-refl : (es : List Entry) (a : ℕ) → leads es a a ≡ true
unfolding leads
leads-refl es a = or_left _ _ (eq-eqb a a refl)

-- one more use at the start
pub leads-first : (es : List Entry) (rank : ℕ → ℕ) → Ranked es rank → (a o b : ℕ) → Contains (uses es a) o → leads es o b ≡ true
    → leads es a b ≡ true
leads-first es rank ranked a o b c e =
    let walk = walk_from_leads es o b e in
    leads_from_walk es rank ranked (suc walk.0) a b (o, c, walk.1)

-- one more use at the end
pub leads-last : (es : List Entry) (rank : ℕ → ℕ) → Ranked es rank → (a o b : ℕ) → leads es a o ≡ true → Contains (uses es o) b
    → leads es a b ≡ true
leads-last es rank ranked a o b e c =
    let walk = walk_from_leads es a o e in
    leads_from_walk es rank ranked (suc walk.0) a b (walk_push walk.0 es a o b walk.1 c)

walk_up : (es : List Entry) (P : ℕ → Type 0) → ((a o : ℕ) → Contains (uses es a) o → P o → P a)
    → (n from to : ℕ) → P to → Walk n es from to → P from
walk_up es P step zero from to here w = subst P (sym w) here
walk_up es P step (suc n) from to here w = step from w.0 w.1 (walk_up es P step n w.0 to here w.2)

walk_down : (es : List Entry) (P : ℕ → Type 0) → ((a o : ℕ) → Contains (uses es a) o → P a → P o)
    → (n from to : ℕ) → P from → Walk n es from to → P to
walk_down es P step zero from to here w = subst P w here
walk_down es P step (suc n) from to here w = walk_down es P step n w.0 to (step from w.0 w.1 here) w.2

-- what goes from operands to users, from the end of a walk to its start
pub leads-up : (es : List Entry) (P : ℕ → Type 0) (from to : ℕ) → P to → ((a o : ℕ) → Contains (uses es a) o → P o → P a)
    → leads es from to ≡ true → P from
leads-up es P from to here step e =
    let walk = walk_from_leads es from to e in
    walk_up es P step walk.0 from to here walk.1

-- what goes from users to operands, from the start of a walk to its end
pub leads-down : (es : List Entry) (P : ℕ → Type 0) (from to : ℕ) → P from → ((a o : ℕ) → Contains (uses es a) o → P a → P o)
    → leads es from to ≡ true → P to
leads-down es P from to here step e =
    let walk = walk_from_leads es from to e in
    walk_down es P step walk.0 from to here walk.1

pub any-member : (es : List Entry) (names : List ℕ) (name : ℕ) → Contains names name → leads_to_any es names name ≡ true
unfolding leads_to_any
any-member es names name c = any_at (leads es name) names name c (leads-refl es name)

pub any-at : (es : List Entry) (names : List ℕ) (name to : ℕ) → Contains names to → leads es name to ≡ true
    → leads_to_any es names name ≡ true
unfolding leads_to_any
any-at es names name to c e = any_at (leads es name) names to c e

pub any-to : (es : List Entry) (names : List ℕ) (name : ℕ) → leads_to_any es names name ≡ true
    → (to : ℕ) × Contains names to × (leads es name to ≡ true)
unfolding leads_to_any
any-to es names name e = any_from (leads es name) names e

-- one more use at the start
pub any-first : (es : List Entry) (rank : ℕ → ℕ) → Ranked es rank → (names : List ℕ) (a o : ℕ) → Contains (uses es a) o
    → leads_to_any es names o ≡ true → leads_to_any es names a ≡ true
any-first es rank ranked names a o c e =
    let found = any-to es names o e in
    any-at es names a found.0 found.1 (leads-first es rank ranked a o found.0 c found.2)

pub any-one : (es : List Entry) (to name : ℕ) → leads_to_any es (to ∷ []) name ≡ leads es name to
unfolding leads_to_any
any-one es to name = or-false (leads es name to)
  where
    or-false : (b : Bool) → (b || false) ≡ b
    or-false true = refl
    or-false false = refl
