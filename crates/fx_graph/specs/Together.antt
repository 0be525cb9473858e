-- Properties that are declared one after another.
use Rattle.std.specs.Prelude.{ℕ, ◌≡◌, ◌≤◌, ◌+◌, Bool, List, take, vec_capacity, vec_len}
use Rattle.std.specs.List.{fold}
use Rattle.fx_base.specs.Printing.{kind_of}
use Rattle.fx_base.specs.declared.values.Value.{Value}
use Rattle.fx_graph_model.specs.Changes.{State, after_declare}
use Rattle.fx_graph.specs.declared.lists.Lists.{Lists}

-- a further property with this value, which the player alone changes or not
abbrev pub after_row : State → Bool × Value → State
after_row state row = after_declare (kind_of row.1) row.0 row.1 state

abbrev pub after_rows : List (Bool × Value) → State → State
after_rows rows state = fold after_row state rows

-- so many of them are declared, and no others
pub record AreFirstDeclared (rows : List (Bool × Value)) (before now : State) : Type 0 where
  pub count : ℕ
  pub first : now ≡ after_rows (take count rows) before

-- each list has room for so many more
pub record HasRoom (more : ℕ) (l : Lists) : Type 0 where
  pub entries : vec_len l.entries + more ≤ vec_capacity l.entries
  pub users : vec_len l.users + more ≤ vec_capacity l.users
  pub unread : vec_len l.unread + more ≤ vec_capacity l.unread
  pub spare : vec_len l.spare + more ≤ vec_capacity l.spare
  pub newly : vec_len l.newly + more ≤ vec_capacity l.newly
  pub cache : vec_len l.cache + more ≤ vec_capacity l.cache
  pub work : vec_len l.work + more ≤ vec_capacity l.work
