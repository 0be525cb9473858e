-- What is looked at before a change: all that are watched, or those that the change will make unread.
use Rattle.std.specs.Prelude.{ℕ, ◌≡◌, ◌⊎◌, ◌++◌, Bool, false, List, length, AllPairs, Contains}
use Rattle.fx_base.specs.declared.keys.Name.{Name}
use Rattle.fx_base.specs.Names.{numbers}
use Rattle.fx_listen.specs.declared.entries.Listener.{Listener}
use Rattle.fx_listen.specs.declared.entries.ListenKind.TheVariants.{Change}
use Rattle.fx_graph_model.specs.declared.entries.Entry.{Entry}
use Rattle.fx_listen.specs.Listening.{IsBefore}
use Rattle.fx_graph_model.specs.Unread.{marked, newly_marked}
use Rattle.fx_graph_model.specs.Uses.{Ranked}
use Rattle.fx_store.specs.Kept.{AreAllRead}
use Rattle.fx_store.specs.Watching.{heard_of, heard_on, names_of, watch_list}

-- all that are watched
pub record IsWhole
    (pairs : List (ℕ × ℕ)) (listeners : List Listener) (heard : List (Name × ℕ)) (names : List Name)
    : Type 0 where
  pub listening : heard ≡ heard_of listeners
  pub watched : numbers names ≡ watch_list pairs listeners

-- All watched names are read. The listeners are those on names that become unread where these change, and the names are
-- theirs and some more. Names have ranks, each has a flag, and listeners stand by property.
pub record IsNear
    (entries : List Entry) (unread : List Bool) (pairs : List (ℕ × ℕ)) (listeners : List Listener)
    (changing more : List ℕ) (heard : List (Name × ℕ)) (names : List Name)
    : Type 0 where
  pub ranks : (rank : ℕ → ℕ) × Ranked entries rank
  pub flags : length unread ≡ length entries
  pub sorted : AllPairs IsBefore listeners
  pub read : AreAllRead pairs listeners unread
  pub listening : heard ≡ heard_on Change (newly_marked entries changing unread) listeners
  pub watched : numbers names ≡ names_of heard ++ more

-- what is looked at before these names change
abbrev pub IsLook :
    List Entry → List Bool → List (ℕ × ℕ) → List Listener → List ℕ → List ℕ → List (Name × ℕ) → List Name → Type 0
IsLook entries unread pairs listeners changing more heard names =
    IsWhole pairs listeners heard names ⊎ IsNear entries unread pairs listeners changing more heard names

-- reads of the names are as good as reads of all that are watched
pub record IsEnough (unread : List Bool) (watched names : List ℕ) : Type 0 where
  pub only : (name : ℕ) → Contains names name → Contains watched name
  pub all : (name : ℕ) → Contains watched name → Contains names name ⊎ (marked unread name ≡ false)
