-- Rows that were read by their place, names by their numbers, and the turns of marking upwards.
use Rattle.std.proofs.Common.{◌≡◌, ◌<◌, ◌≤◌, ◌+◌, ℕ, List, [], ◌∷◌, ◌++◌, Bool, length, get_or, take, All, Contains, slice_index, ap, ◌∙◌, arith}
use Rattle.std.proofs.lemmas.List.{get_or_read, map-append, take_more}
use Rattle.std.proofs.lemmas.List.Elements.{Contains-get_or}
use Rattle.fx_base.specs.declared.keys.Name.{Name}
use Rattle.fx_graph_model.specs.declared.entries.Entry.{Entry}
use Rattle.fx_base.specs.Names.{numbers}
use Rattle.fx_graph_model.specs.Uses.{Ranked}
use Rattle.fx_graph_model.specs.Unread.{unmarked}
use Rattle.fx_graph_model.specs.Marking.{IsClosedBut, MarksAll}
use Rattle.fx_graph_model.specs.Users.{Row, no_row, users_of, Mirrors}
use Rattle.fx_graph_model.proofs.Flags.{unmarked_most}
use Rattle.fx_graph_model.proofs.Members.{contains_map}
use Rattle.fx_graph_model.proofs.Spreading.{Spreads}
use Rattle.fx_graph_model.proofs.Walks.{user_within}

-- a row that was read by its place, and the list that it lends
pub row_read : (rows : List Row) (i : ℕ) (row : Row) → i < length rows → row ≡ get_or rows i row → (items : List ℕ) → items ≡ row.items → items ≡ users_of rows i
row_read rows i row h e items f = f ∙ ap (λ (r : Row). r.items) (get_or_read rows i row h e no_row)

-- who uses a name is one of the names
pub rows_within : (es : List Entry) (rows : List Row) (rank : ℕ → ℕ) → Ranked es rank → Mirrors es rows → (name : ℕ) → All (λ user. user < length es) (users_of rows name)
rows_within es rows rank ranked m name =
    λ k d h. user_within es _ name (m.using _ name (Contains-get_or (users_of rows name) k d h))

-- one name more of a list, by its number
pub numbers_more : (names : List Name) (i : ℕ) (d : Name) → i < length names → numbers (take (i + 1) names) ≡ numbers (take i names) ++ (get_or names i d).0 ∷ []
numbers_more names i d h =
    ap numbers (take_more names i d h) ∙ map-append (λ (name : Name). name.0) (take i names) (get_or names i d ∷ [])

-- a name of a list is one of its numbers
pub number_at : (names : List Name) (i : ℕ) (d : Name) → i < length names → Contains (numbers names) (get_or names i d).0
number_at names i d h = contains_map (λ (name : Name). name.0) names (get_or names i d) (Contains-get_or names i d h)

-- The turns of marking upwards, wherever it began: the list has room, and the listed are places of rows.
pub record GoesUp (es : List Entry) (size : ℕ) (start : List Bool) (first : List ℕ) (count : ℕ) (unread : List Bool) (work : List ℕ) (done end : ℕ) : Type 0 where
  pub few : end ≤ length work
  pub within : (i : ℕ) → i < end → slice_index work i < size
  pub room : end + unmarked unread ≤ length work
  pub spreads : (names w : List ℕ) (was : List Bool) → IsClosedBut es was names → MarksAll names was w 0 start first count
      → Spreads es names was unread work done end

pub goes_up : (es : List Entry) (size : ℕ) (start : List Bool) (first : List ℕ) (count : ℕ) (unread : List Bool) (work : List ℕ) (done end : ℕ)
    → (names w : List ℕ) (was : List Bool) → IsClosedBut es was names → MarksAll names was w 0 start first count
    → length was ≡ size → length work ≡ size
    → ((names w : List ℕ) (was : List Bool) → IsClosedBut es was names → MarksAll names was w 0 start first count → Spreads es names was unread work done end)
    → GoesUp es size start first count unread work done end
goes_up es size start first count unread work done end names w was closed marks long places all =
    let s = all names w was closed marks in
    let most : unmarked was ≤ length was = unmarked_most was in
    let sum : end + unmarked unread ≡ unmarked was = s.listed.room in
    record {
      few = omega arith;
      within = λ i h. let here : slice_index work i < length was = (s.listed.listed i h).0 in omega arith;
      room = omega arith;
      spreads = all;
    }
