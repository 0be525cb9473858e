-- What the graph keeps, and what of it contracts see.
use Rattle.std.specs.Prelude.{ℕ, ◌≡◌, ◌≤◌, Bool, false, List, length, replicate, take}
use Rattle.fx_base.specs.declared.keys.Name.{Name}
use Rattle.fx_base.specs.declared.values.Value.{Value}
use Rattle.fx_graph_model.specs.declared.entries.Entry.{Entry}
use Rattle.fx_base.specs.Names.{numbers}
use Rattle.fx_graph_model.specs.Uses.{Ranked}
use Rattle.fx_graph_model.specs.Sound.{AreSound, IsSettled}
use Rattle.fx_graph_model.specs.Users.{Row, Mirrors}
use Rattle.fx_graph_model.specs.Refusals.{operand_count}
use Rattle.fx_graph_model.specs.Unread.{after_marking, newly_marked}
use Rattle.fx_graph_model.specs.Changes.{State}
use Rattle.fx_graph.specs.declared.lists.Lists.{Lists}

abbrev pub state_of : List Entry → List Bool → List Name → ℕ → State
state_of entries unread newly count = record { entries = entries; unread = unread; newly = numbers (take count newly) }

-- The entries rank along uses and are sound, each has its flag, its kept value and a row of just those that use it, and
-- the other lists have a place for each.
pub record IsStore
    (entries : List Entry) (users : List Row) (unread spare : List Bool) (newly : List Name) (newly_count : ℕ)
    (cache : List Value) (work : List ℕ) (operands : ℕ)
    : Type 0 where
  pub ranks : (rank : ℕ → ℕ) × Ranked entries rank
  pub sound : AreSound entries
  pub settled : IsSettled entries unread cache
  pub mirrors : Mirrors entries users
  pub spare_unset : spare ≡ replicate (length entries) false
  pub newly_length : length newly ≡ length entries
  pub newly_few : newly_count ≤ length entries
  pub work_length : length work ≡ length entries
  pub few : length entries ≤ 4000000
  pub counted : operands ≡ operand_count entries
  pub operands_few : operands ≤ 1000000

abbrev pub Holds : Lists → Type 0
Holds l =
    IsStore l.entries.items l.users.items l.unread.items l.spare.items l.newly.items l.newly_count l.cache.items
    l.work.items l.operand_count

-- what contracts see of the lists
abbrev pub shown : Lists → State
shown l = state_of l.entries.items l.unread.items l.newly.items l.newly_count

-- the flags and the lists to mark in have a place for each name
pub record IsRoomy (l : Lists) : Type 0 where
  pub flags : length l.unread.items ≡ length l.entries.items
  pub work : length l.work.items ≡ length l.entries.items
  pub newly : length l.newly.items ≡ length l.entries.items
  pub few : length l.entries.items ≤ 4000000

-- these names and all that reads them are marked, where these were marked before, and what is new is listed
pub record IsMarked (names : List ℕ) (was : List Bool) (l : Lists) : Type 0 where
  pub unread : l.unread.items ≡ after_marking l.entries.items names was
  pub newly : numbers (take l.newly_count l.newly.items) ≡ newly_marked l.entries.items names was
