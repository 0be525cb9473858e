-- Laws of tables of listeners: what holds over every list of calls, and what a layer above sees of the living.
use Rattle.std.specs.Prelude.{ℕ, ◌+◌, ◌≡◌, ◌≤◌, Bool, true, not, List, [], ◌∷◌, ◌++◌, length, filter, All, Contains, IfSome, Option, Some}
use Rattle.std.specs.List.{range_with_len}
use Rattle.fx_handles.specs.declared.Owner.{Owner}
use Rattle.fx_handles.specs.Living.{Register, after_make, after_release}
use Rattle.fx_listen.specs.declared.entries.ListenKind.{ListenKind}
use Rattle.fx_listen.specs.declared.entries.Listener.{Listener}
use Rattle.fx_listen.specs.Listening as spec

-- calls lead from the first table to this one, and these listeners were added on the way
pub data LeadsTo (first : spec.Table) : List Listener → spec.Table → Type 0 where
  none : LeadsTo first [] first
  added : {listeners : List Listener} {table : spec.Table} (living : List Owner) (listener : Listener)
      → listener.number ≡ table.given + 1 → LeadsTo first listeners table
      → LeadsTo first (listeners ++ listener ∷ []) (spec.after_add living listener table)
  removed : {listeners : List Listener} {table : spec.Table} (test : Listener → Bool)
      → LeadsTo first listeners table → LeadsTo first listeners (spec.after_remove test table)
  forgotten : {listeners : List Listener} {table : spec.Table} (name : ℕ)
      → LeadsTo first listeners table → LeadsTo first listeners (spec.after_forget name table)
  all_forgotten : {listeners : List Listener} {table : spec.Table} (names : List ℕ)
      → LeadsTo first listeners table → LeadsTo first listeners (spec.after_forget_all names table)

-- the listeners that are added from the start on have the numbers 1, 2, 3 and so on
abbrev pub EachNumberOnce : Type 0
EachNumberOnce =
    (listeners : List Listener) (table : spec.Table) → LeadsTo spec.nobody listeners table
    → spec.numbers_of listeners ≡ range_with_len 1 (length listeners)

-- where the dead stay dead, pruning changes nobody who is live later
abbrev pub PruningIsSilent : Type 0
PruningIsSilent =
    (living later : List Owner) (entries : List Listener)
    → ((listener : Listener) → Contains entries listener → spec.is_live later listener ≡ true
    → spec.is_live living listener ≡ true)
    → spec.living_in later (spec.pruned living entries) ≡ spec.living_in later entries

-- a live listener is placed among the living as among all
abbrev pub PlacingCommutes : Type 0
PlacingCommutes =
    (living : List Owner) (listener : Listener) (entries : List Listener) → spec.is_live living listener ≡ true
    → spec.living_in living (spec.placed listener entries) ≡ spec.placed listener (spec.living_in living entries)

-- who is removed among all is removed among the living
abbrev pub RemovingCommutes : Type 0
RemovingCommutes =
    (living : List Owner) (name : ℕ) (kind : ListenKind) (owner : Option Owner) (tag : ℕ) (entries : List Listener)
    → spec.living_in living (spec.without_first (spec.is_equal name kind owner tag) entries)
    ≡ spec.without_first (spec.is_equal name kind owner tag) (spec.living_in living entries)

-- who is forgotten among all is forgotten among the living
abbrev pub ForgettingCommutes : Type 0
ForgettingCommutes =
    (living : List Owner) (name : ℕ) (entries : List Listener)
    → spec.living_in living (filter (spec.is_elsewhere name) entries)
    ≡ filter (spec.is_elsewhere name) (spec.living_in living entries)

-- a release ends the owner's listeners, and no others
abbrev pub ReleaseEndsItsOwn : Type 0
ReleaseEndsItsOwn =
    (register : Register) (owner : Owner) (entries : List Listener)
    → spec.living_in (after_release register owner).living entries
    ≡ filter (λ (listener : Listener). not (spec.same_owner listener.owner (Some owner)))
    (spec.living_in register.living entries)

-- the listener has no owner, or one whose birth number was given
abbrev pub HasBornOwner : ℕ → Listener → Type 0
HasBornOwner born listener = IfSome listener.owner (λ (owner : Owner). owner.birth ≤ born)

-- a further owner brings nobody back, whatever its slot held
abbrev pub BirthRevivesNobody : Type 0
BirthRevivesNobody =
    (register : Register) (owner : Owner) (entries : List Listener)
    → owner.birth ≡ register.born + 1 → All (HasBornOwner register.born) entries
    → spec.living_in (after_make register owner).living entries ≡ spec.living_in register.living entries
