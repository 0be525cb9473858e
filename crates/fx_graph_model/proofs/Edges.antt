-- The rows of users while a name is taken out of them and put into others.
use Rattle.std.proofs.Common.{◌≡◌, ℕ, ◌+◌, ◌<◌, ◌≤◌, List, [], ◌∷◌, ◌++◌, length, set, arith, refl, sym, ◌∙◌, ap, subst, inl, inr, ◌⊎◌}
use Rattle.std.specs.List.{Contains}
use Rattle.std.proofs.lemmas.Bool.{cases_lt, cases_eq}
use Rattle.std.proofs.lemmas.List.{get_or-set_same, get_or-set_other, length-set, length_push, get_or_push, get_or_append_left, get_or_past}
use Rattle.std.proofs.lemmas.List.Elements.{Contains-append_left, Contains-push, Contains-push_cases}
use Rattle.fx_graph_model.specs.declared.entries.Entry.{Entry}
use Rattle.fx_graph_model.specs.Uses.{nothing, operands_in, uses}
use Rattle.fx_graph_model.specs.Users.{Row, no_row, users_of, room_of, Mirrors, Unlinks, Links, Roomier}
use Rattle.fx_graph_model.proofs.Members.{none_in_nil}
use Rattle.fx_graph_model.proofs.Walks.{user_within}
use Rattle.fx_graph_model.proofs.Ranks.{uses-set_same, uses-set_other, uses-set_cases, uses-declared}

pub users-set_same : (users : List Row) (name : ℕ) (row : Row) → name < length users → users_of (set users name row) name ≡ row.items
users-set_same users name row h = ap (λ (r : Row). r.items) (get_or-set_same users name row no_row h)

pub users-set_other : (users : List Row) (name other : ℕ) (row : Row) → (other ≡ name → ⊥)
    → users_of (set users name row) other ≡ users_of users other
users-set_other users name other row differs = ap (λ (r : Row). r.items) (get_or-set_other users name other row no_row differs)

pub room-set_same : (users : List Row) (name : ℕ) (row : Row) → name < length users → room_of (set users name row) name ≡ row.room
room-set_same users name row h = ap (λ (r : Row). r.room) (get_or-set_same users name row no_row h)

pub room-set_other : (users : List Row) (name other : ℕ) (row : Row) → (other ≡ name → ⊥)
    → room_of (set users name row) other ≡ room_of users other
room-set_other users name other row differs = ap (λ (r : Row). r.room) (get_or-set_other users name other row no_row differs)

pub unlinks_none : (user : ℕ) (users : List Row) → Unlinks user [] users users
unlinks_none user users = record {
  rows = refl;
  fewer = λ name other c. c;
  gone = λ name c _. none_in_nil name c;
  kept = λ name other c _. c;
}

-- the row of one name more, without the user
pub unlinks_more : (user : ℕ) (names : List ℕ) (before now : List Row) (name : ℕ) (row : Row) → Unlinks user names before now
    → name < length now
    → ((other : ℕ) → Contains row.items other → (other ≡ user → ⊥) × Contains (users_of now name) other)
    → ((other : ℕ) → (other ≡ user → ⊥) → Contains (users_of now name) other → Contains row.items other)
    → Unlinks user (names ++ name ∷ []) before (set now name row)
unlinks_more user names before now name row u within taken left = record {
  rows = length-set now name row ∙ u.rows;
  fewer = λ n other c. fewer n other (cases_eq n name) c;
  gone = λ n m c. gone n (cases_eq n name) (Contains-push_cases names name n m) c;
  kept = λ n other c free. kept n other c free (cases_eq n name);
}
  where
    at_name : (n other : ℕ) → n ≡ name → Contains (users_of (set now name row) n) other → Contains row.items other
    at_name n other e c =
        let P : ℕ → Type 0 = λ k. Contains (users_of (set now name row) k) other in
        let Q : List ℕ → Type 0 = λ xs. Contains xs other in
        subst Q (users-set_same now name row within) (subst P e c)

    elsewhere : (n other : ℕ) → (n ≡ name → ⊥) → Contains (users_of (set now name row) n) other → Contains (users_of now n) other
    elsewhere n other differs c = let Q : List ℕ → Type 0 = λ xs. Contains xs other in subst Q (users-set_other now name n row differs) c

    fewer : (n other : ℕ) → (n ≡ name) ⊎ (n ≡ name → ⊥) → Contains (users_of (set now name row) n) other → Contains (users_of before n) other
    fewer n other (inl e) c =
        let P : ℕ → Type 0 = λ k. Contains (users_of before k) other in
        subst P (sym e) (u.fewer name other (taken other (at_name n other e c)).1)
    fewer n other (inr differs) c = u.fewer n other (elsewhere n other differs c)

    gone : (n : ℕ) → (n ≡ name) ⊎ (n ≡ name → ⊥) → Contains names n ⊎ (name ≡ n) → Contains (users_of (set now name row) n) user → ⊥
    gone n (inl e) _ c = (taken user (at_name n user e c)).0 refl
    gone n (inr differs) (inl m) c = u.gone n m (elsewhere n user differs c)
    gone n (inr differs) (inr e) c = differs (sym e)

    shorter : (n : ℕ) → (Contains (names ++ name ∷ []) n → ⊥) → Contains names n → ⊥
    shorter n out m = out (Contains-append_left names (name ∷ []) n m)

    kept : (n other : ℕ) → Contains (users_of before n) other → (other ≡ user → ⊥) ⊎ (Contains (names ++ name ∷ []) n → ⊥)
        → (n ≡ name) ⊎ (n ≡ name → ⊥) → Contains (users_of (set now name row) n) other
    kept n other c (inl free) (inl e) =
        let P : ℕ → Type 0 = λ k. Contains (users_of (set now name row) k) other in
        let Q : List ℕ → Type 0 = λ xs. Contains xs other in
        let R : ℕ → Type 0 = λ k. Contains (users_of before k) other in
        subst P (sym e)
        (subst Q (sym (users-set_same now name row within)) (left other free (u.kept name other (subst R e c) (inl free))))
    kept n other c (inl free) (inr differs) =
        let Q : List ℕ → Type 0 = λ xs. Contains xs other in
        subst Q (sym (users-set_other now name n row differs)) (u.kept n other c (inl free))
    kept n other c (inr out) (inl e) = absurd (out (subst (Contains (names ++ name ∷ [])) (sym e) (Contains-push names name)))
    kept n other c (inr out) (inr differs) =
        let Q : List ℕ → Type 0 = λ xs. Contains xs other in
        subst Q (sym (users-set_other now name n row differs)) (u.kept n other c (inr (shorter n out)))

pub links_none : (user : ℕ) (users : List Row) → Links user [] users users
links_none user users = record {
  rows = refl;
  more = λ name other c. c;
  linked = λ name c. absurd (none_in_nil name c);
  only = λ name other c. inl c;
}

-- the row of one name more, with the user at its end
pub links_more : (user : ℕ) (names : List ℕ) (before now : List Row) (name : ℕ) (row : Row) → Links user names before now
    → name < length now → row.items ≡ users_of now name ++ user ∷ []
    → Links user (names ++ name ∷ []) before (set now name row)
links_more user names before now name row l within pushed = record {
  rows = length-set now name row ∙ l.rows;
  more = λ n other c. still n other (cases_eq n name) (l.more n other c);
  linked = λ n m. linked n (cases_eq n name) (Contains-push_cases names name n m);
  only = λ n other c. only n other (cases_eq n name) c;
}
  where
    still : (n other : ℕ) → (n ≡ name) ⊎ (n ≡ name → ⊥) → Contains (users_of now n) other → Contains (users_of (set now name row) n) other
    still n other (inl e) c =
        let P : ℕ → Type 0 = λ k. Contains (users_of (set now name row) k) other in
        let Q : List ℕ → Type 0 = λ xs. Contains xs other in
        let R : ℕ → Type 0 = λ k. Contains (users_of now k) other in
        subst P (sym e)
        (subst Q (sym (users-set_same now name row within ∙ pushed))
        (Contains-append_left (users_of now name) (user ∷ []) other (subst R e c)))
    still n other (inr differs) c =
        let Q : List ℕ → Type 0 = λ xs. Contains xs other in
        subst Q (sym (users-set_other now name n row differs)) c

    here : (n : ℕ) → n ≡ name → Contains (users_of (set now name row) n) user
    here n e =
        let P : ℕ → Type 0 = λ k. Contains (users_of (set now name row) k) user in
        let Q : List ℕ → Type 0 = λ xs. Contains xs user in
        subst P (sym e) (subst Q (sym (users-set_same now name row within ∙ pushed)) (Contains-push (users_of now name) user))

    linked : (n : ℕ) → (n ≡ name) ⊎ (n ≡ name → ⊥) → Contains names n ⊎ (name ≡ n) → Contains (users_of (set now name row) n) user
    linked n (inl e) _ = here n e
    linked n (inr differs) (inl m) = still n user (inr differs) (l.linked n m)
    linked n (inr differs) (inr e) = absurd (differs (sym e))

    longer : (n other : ℕ) → Contains (users_of before n) other ⊎ ((other ≡ user) × Contains names n)
        → Contains (users_of before n) other ⊎ ((other ≡ user) × Contains (names ++ name ∷ []) n)
    longer n other (inl c) = inl c
    longer n other (inr new) = inr (new.0, Contains-append_left names (name ∷ []) n new.1)

    only : (n other : ℕ) → (n ≡ name) ⊎ (n ≡ name → ⊥) → Contains (users_of (set now name row) n) other
        → Contains (users_of before n) other ⊎ ((other ≡ user) × Contains (names ++ name ∷ []) n)
    only n other (inl e) c =
        let P : ℕ → Type 0 = λ k. Contains (users_of (set now name row) k) other in
        let Q : List ℕ → Type 0 = λ xs. Contains xs other in
        let R : ℕ → Type 0 = λ k. Contains (users_of now k) other in
        elim (Contains-push_cases (users_of now name) user other (subst Q (users-set_same now name row within ∙ pushed) (subst P e c))) [
          | inl old ↦ longer n other (l.only n other (subst R (sym e) old))
          | inr new ↦ inr (sym new, subst (Contains (names ++ name ∷ [])) (sym e) (Contains-push names name))
        ]
    only n other (inr differs) c =
        let Q : List ℕ → Type 0 = λ xs. Contains xs other in
        longer n other (l.only n other (subst Q (users-set_other now name n row differs) c))

pub roomier_none : (count : ℕ) (users : List Row) → Roomier [] count users users
roomier_none count users = record {
  rows = refl;
  same = λ name. refl;
  room = λ name c. absurd (none_in_nil name c);
}

-- the row of one name more got room
pub roomier_more : (names : List ℕ) (count : ℕ) (before now : List Row) (name : ℕ) (row : Row) → Roomier names count before now
    → name < length now → row.items ≡ users_of now name → count ≤ row.room
    → Roomier (names ++ name ∷ []) count before (set now name row)
roomier_more names count before now name row r within kept enough = record {
  rows = length-set now name row ∙ r.rows;
  same = λ n. same n (cases_eq n name);
  room = λ n m. room n (cases_eq n name) (Contains-push_cases names name n m);
}
  where
    same : (n : ℕ) → (n ≡ name) ⊎ (n ≡ name → ⊥) → users_of (set now name row) n ≡ users_of before n
    same n (inl e) =
        ap (users_of (set now name row)) e ∙ users-set_same now name row within ∙ kept ∙ r.same name ∙ ap (users_of before) (sym e)
    same n (inr differs) = users-set_other now name n row differs ∙ r.same n

    room : (n : ℕ) → (n ≡ name) ⊎ (n ≡ name → ⊥) → Contains names n ⊎ (name ≡ n) → count ≤ room_of (set now name row) n
    room n (inl e) _ =
        let is : room_of (set now name row) n ≡ row.room = ap (room_of (set now name row)) e ∙ room-set_same now name row within in
        omega arith
    room n (inr differs) (inl m) =
        let is : room_of (set now name row) n ≡ room_of now n = room-set_other now name n row differs in
        let old : count ≤ room_of now n = r.room n m in
        omega arith
    room n (inr differs) (inr e) = absurd (differs (sym e))

-- rows that hold the same mirror the same uses
pub mirrors_same : (es : List Entry) (before now : List Row) → Mirrors es before → length now ≡ length before
    → ((name : ℕ) → users_of now name ≡ users_of before name) → Mirrors es now
mirrors_same es before now m long same = record {
  rows = long ∙ m.rows;
  listed = λ user name c. let Q : List ℕ → Type 0 = λ xs. Contains xs user in subst Q (sym (same name)) (m.listed user name c);
  using = λ user name c. let Q : List ℕ → Type 0 = λ xs. Contains xs user in m.using user name (subst Q (same name) c);
}

-- an entry is written, and its name is taken out of the rows of its old operands and put into those of its new ones
pub mirrors_bound : (es : List Entry) (before mid now : List Row) (name : ℕ) (entry : Entry) → Mirrors es before
    → Unlinks name (uses es name) before mid → Links name (operands_in entry.definition) mid now → name < length es
    → Mirrors (set es name entry) now
mirrors_bound es before mid now name entry m u l within = record {
  rows = l.rows ∙ u.rows ∙ m.rows ∙ sym (length-set es name entry);
  listed = λ user used c. listed user used (uses-set_cases es name entry user used c);
  using = λ user used c. using user used (cases_eq user name) (l.only used user c);
}
  where
    listed : (user used : ℕ)
        → ((user ≡ name) × Contains (operands_in entry.definition) used) ⊎ ((user ≡ name → ⊥) × Contains (uses es user) used)
        → Contains (users_of now used) user
    listed user used (inl new) = subst (Contains (users_of now used)) (sym new.0) (l.linked used new.1)
    listed user used (inr old) = l.more used user (u.kept used user (m.listed user used old.1) (inl old.0))

    using : (user used : ℕ) → (user ≡ name) ⊎ (user ≡ name → ⊥)
        → Contains (users_of mid used) user ⊎ ((user ≡ name) × Contains (operands_in entry.definition) used)
        → Contains (uses (set es name entry) user) used
    using user used (inl e) (inl c) =
        let was : Contains (uses es user) used = m.using user used (u.fewer used user c) in
        let P : ℕ → Type 0 = λ n. Contains (uses es n) used in
        let Q : ℕ → Type 0 = λ n. Contains (users_of mid used) n in
        absurd (u.gone used (subst P e was) (subst Q e c))
    using user used (inr differs) (inl c) =
        let Q : List ℕ → Type 0 = λ xs. Contains xs used in
        subst Q (sym (uses-set_other es name user entry differs)) (m.using user used (u.fewer used user c))
    using user used _ (inr new) =
        let P : ℕ → Type 0 = λ n. Contains (uses (set es name entry) n) used in
        let Q : List ℕ → Type 0 = λ xs. Contains xs used in
        subst P (sym new.0) (subst Q (sym (uses-set_same es name entry within)) new.1)

-- the same where the new entry has no operands
pub mirrors_plain : (es : List Entry) (before now : List Row) (name : ℕ) (entry : Entry) → Mirrors es before
    → Unlinks name (uses es name) before now → operands_in entry.definition ≡ [] → name < length es → Mirrors (set es name entry) now
mirrors_plain es before now name entry m u none within =
    mirrors_bound es before now now name entry m u (subst (λ xs. Links name xs now now) (sym none) (links_none name now)) within

-- a declared name has a row for itself
pub mirrors_declared : (es : List Entry) (users : List Row) (entry : Entry) (row : Row) → Mirrors es users
    → operands_in entry.definition ≡ [] → row.items ≡ []
    → ((user used : ℕ) → Contains (uses es user) used → used < length es)
    → Mirrors (es ++ entry ∷ []) (users ++ row ∷ [])
mirrors_declared es users entry row m none empty within =
    let long : length (es ++ entry ∷ []) ≡ length es + 1 = length_push es entry in
    let more : length (users ++ row ∷ []) ≡ length users + 1 = length_push users row in
    let rows : length users ≡ length es = m.rows in
    record {
      rows = omega arith;
      listed = λ user used c. listed user used (uses-declared es entry none user used c);
      using = λ user used c. using user used c (cases_lt used (length users));
    }
  where
    listed : (user used : ℕ) → Contains (uses es user) used → Contains (users_of (users ++ row ∷ []) used) user
    listed user used c =
        let rows : length users ≡ length es = m.rows in
        let low : used < length es = within user used c in
        let Q : List ℕ → Type 0 = λ xs. Contains xs user in
        subst Q (sym (ap (λ (r : Row). r.items) (get_or_append_left users (row ∷ []) no_row used (omega arith)))) (m.listed user used c)

    using : (user used : ℕ) → Contains (users_of (users ++ row ∷ []) used) user → (used < length users) ⊎ (length users ≤ used)
        → Contains (uses (es ++ entry ∷ []) user) used
    using user used c (inl low) =
        let Q : List ℕ → Type 0 = λ xs. Contains xs user in
        let old : Contains (uses es user) used =
        m.using user used (subst Q (ap (λ (r : Row). r.items) (get_or_append_left users (row ∷ []) no_row used low)) c) in
        let P : List ℕ → Type 0 = λ xs. Contains xs used in
        subst P
        (sym (ap (λ (e : Entry). operands_in e.definition)
        (get_or_append_left es (entry ∷ []) nothing user (user_within es user used old))))
        old
    using user used c (inr past) =
        let Q : List ℕ → Type 0 = λ xs. Contains xs user in
        absurd (none_in_nil user (subst Q (gone (cases_eq used (length users))) c))
      where
        gone : (used ≡ length users) ⊎ (used ≡ length users → ⊥) → users_of (users ++ row ∷ []) used ≡ []
        gone (inl e) = ap (λ (r : Row). r.items) (get_or_push users row no_row used (sym e)) ∙ empty
        gone (inr differs) =
            let more : length (users ++ row ∷ []) ≡ length users + 1 = length_push users row in
            ap (λ (r : Row). r.items) (get_or_past (users ++ row ∷ []) used no_row (omega arith))
