-- Rows that are written one by one, as a binding's edges are made and ended.
use Rattle.std.proofs.Common.{◌≡◌, ◌<◌, ◌≤◌, ◌+◌, ◌==◌, ℕ, Bool, not, filter, List, [], ◌∷◌, ◌++◌, length, set, Contains, sym, ap, subst, ◌∙◌, inl, inr, arith}
use Rattle.std.proofs.lemmas.List.{get_or-set_same, length-set}
use Rattle.std.proofs.lemmas.Bool.{cases_eq, not-true, not_from_false, eqb-false, ne_eqb}
use Rattle.fx_graph_model.specs.Users.{Row, no_row, users_of, room_of, Unlinks, Links, Roomier}
use Rattle.fx_graph_model.proofs.Members.{contains_filter, filter_contains}
use Rattle.fx_graph_model.proofs.Edges.{room-set_other, users-set_other, unlinks_more, links_more, roomier_more}
use Rattle.fx_graph_edges.specs.Rows.{row_of}

-- a row that was written stands there
pub row_written : (users : List Row) (place : ℕ) (row : Row) → place < length users → set users place row ≡ set users place (row_of (set users place row) place)
row_written users place row h = ap (set users place) (sym (get_or-set_same users place row no_row h))

module _ (before now after : List Row) (user place : ℕ) (within : place < length now) (written : after ≡ set now place (row_of after place)) where
  pub same_length : length after ≡ length now
  same_length = ap length written ∙ length-set now place (row_of after place)

  others_rooms : (name : ℕ) → (name ≡ place → ⊥) → room_of after name ≡ room_of now name
  others_rooms name e = ap (λ (rows : List Row). room_of rows name) written ∙ room-set_other now place name (row_of after place) e

  pub rooms_grow : room_of now place ≤ (row_of after place).room → (name : ℕ) → room_of now name ≤ room_of after name
  rooms_grow h name =
      elim (cases_eq name place) [
        | inl e ↦ subst (λ n. room_of now n ≤ room_of after n) (sym e) h
        | inr e ↦ omega (arith, others_rooms name e)
      ]

  pub rooms_used : room_of now place ≤ (row_of after place).room + 1 → (name : ℕ) → room_of now name ≤ room_of after name + 1
  rooms_used h name =
      elim (cases_eq name place) [
        | inl e ↦ subst (λ n. room_of now n ≤ room_of after n + 1) (sym e) h
        | inr e ↦ omega (arith, others_rooms name e)
      ]

  pub users_same : (row_of after place).items ≡ users_of now place → (name : ℕ) → users_of after name ≡ users_of now name
  users_same h name =
      elim (cases_eq name place) [
        | inl e ↦ subst (λ n. users_of after n ≡ users_of now n) (sym e) h
        | inr e ↦ ap (λ (rows : List Row). users_of rows name) written ∙ users-set_other now place name (row_of after place) e
      ]

  pub roomier_step : (names : List ℕ) (count : ℕ) → Roomier names count before now → (row_of after place).items ≡ users_of now place → count ≤ (row_of after place).room
      → Roomier (names ++ place ∷ []) count before after
  roomier_step names count r kept enough =
      subst (Roomier (names ++ place ∷ []) count before) (sym written) (roomier_more names count before now place (row_of after place) r within kept enough)

  pub unlinks_step : (names : List ℕ) → Unlinks user names before now → (row_of after place).items ≡ filter (λ k. not (k == user)) (users_of now place)
      → Unlinks user (names ++ place ∷ []) before after
  unlinks_step names u kept =
      let test : ℕ → Bool = λ k. not (k == user) in
      subst (Unlinks user (names ++ place ∷ []) before) (sym written)
      (unlinks_more user names before now place (row_of after place) u within
      (λ other c.
      let found = filter_contains test (users_of now place) other (subst (λ (xs : List ℕ). Contains xs other) kept c) in
      (eqb-false other user (not-true (other == user) found.1), found.0))
      (λ other e c.
      subst (λ (xs : List ℕ). Contains xs other) (sym kept)
      (contains_filter test (users_of now place) other c (not_from_false (other == user) (ne_eqb other user e)))))

  pub links_step : (names : List ℕ) → Links user names before now → (row_of after place).items ≡ users_of now place ++ user ∷ []
      → Links user (names ++ place ∷ []) before after
  links_step names l pushed =
      subst (Links user (names ++ place ∷ []) before) (sym written) (links_more user names before now place (row_of after place) l within pushed)
