-- How names come to be unread: a list of names that were marked, which grows while marks spread to users.
use Rattle.std.specs.Prelude.{ℕ, ◌+◌, ◌≡◌, ◌≢◌, ◌<◌, ◌≤◌, ◌⊎◌, Bool, true, false, List, length, slice_index_or, Contains}
use Rattle.fx_graph_model.specs.declared.entries.Entry.{Entry}
use Rattle.fx_graph_model.specs.Unread.{marked, unmarked}
use Rattle.fx_graph_model.specs.Uses.{uses}

-- the number at a place of a list
abbrev pub at : List ℕ → ℕ → ℕ
at numbers place = slice_index_or numbers place 0

-- the first so many of the work list are, each once, the names that are marked now and weren't before
pub record Listed (before now : List Bool) (work : List ℕ) (count : ℕ) : Type 0 where
  pub flags : length now ≡ length before
  pub room : count + unmarked now ≡ unmarked before
  pub kept : (name : ℕ) → marked before name ≡ true → marked now name ≡ true
  pub listed : (i : ℕ) → i < count
      → (at work i < length before) × (marked before (at work i) ≡ false) × (marked now (at work i) ≡ true)
  pub each : (name : ℕ) → marked before name ≡ false → marked now name ≡ true
      → (i : ℕ) × (i < count) × (at work i ≡ name)
  pub once : (i j : ℕ) → i < j → j < count → at work i ≢ at work j

-- a list that began anywhere is still such a list
abbrev pub GoesOn : List Bool → List ℕ → ℕ → List Bool → List ℕ → ℕ → Type 0
GoesOn flags work count flags' work' count' =
    (before : List Bool) → Listed before flags work count → Listed before flags' work' count'

-- just these names were marked besides, and those that are new stand behind the first so many of the work list
pub record MarksAll
    (names : List ℕ) (before : List Bool) (work : List ℕ) (count : ℕ) (now : List Bool) (after : List ℕ) (end : ℕ)
    : Type 0 where
  pub flags : length now ≡ length before
  pub places : length after ≡ length work
  pub room : end + unmarked now ≡ count + unmarked before
  pub more : count ≤ end
  pub kept : (name : ℕ) → marked before name ≡ true → marked now name ≡ true
  pub each : (name : ℕ) → Contains names name → marked now name ≡ true
  pub only : (name : ℕ) → marked now name ≡ true → (marked before name ≡ true) ⊎ Contains names name
  pub front : (i : ℕ) → i < count → at after i ≡ at work i
  pub fresh : (i : ℕ) → count ≤ i → i < end → Contains names (at after i)
  pub found : (name : ℕ) → marked before name ≡ false → marked now name ≡ true
      → (i : ℕ) × (count ≤ i) × (i < end) × (at after i ≡ name)
  pub goes_on : GoesOn before work count now after end

-- who uses an unread name is unread, or is one of these
abbrev pub IsClosedBut : List Entry → List Bool → List ℕ → Type 0
IsClosedBut entries flags names =
    (user name : ℕ) → Contains (uses entries user) name → marked flags name ≡ true
    → (marked flags user ≡ true) ⊎ Contains names user

-- who uses an unread name is unread, or the name stands in this part of the work list
abbrev pub IsPending : List Entry → List Bool → List ℕ → ℕ → ℕ → Type 0
IsPending entries flags work done end =
    (user name : ℕ) → Contains (uses entries user) name → marked flags name ≡ true
    → (marked flags user ≡ true) ⊎ ((i : ℕ) × (done ≤ i) × (i < end) × (at work i ≡ name))
