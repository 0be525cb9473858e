-- What a change leaves of the properties, and who speaks against taking some of them away.
use Rattle.std.specs.Prelude.{ℕ, ◌≡◌, ◌≤◌, ◌⊎◌, ◌↔◌, Bool, true, false, List, length, Err, Ok, Result}
use Rattle.fx_base.specs.Names.{numbers}
use Rattle.fx_base.specs.declared.keys.Name.{Name}
use Rattle.fx_graph_model.specs.declared.entries.Entry.{Entry}
use Rattle.fx_graph_model.specs.Refusals.{IsFree, kind_at, read_only_in}
use Rattle.fx_graph_model.specs.Uses.{entry_of, unknown_in}
use Rattle.fx_store_model.specs.Applied.{Applied}
use Rattle.fx_store_model.specs.declared.changes.Change.{Change}
use Rattle.fx_store_model.specs.declared.changes.Change.TheVariants.{Set, Publish, Bind, Unbind, Pair, Forget}
use Rattle.fx_store_model.specs.declared.changes.Notices.{Notices}
use Rattle.fx_store_model.specs.declared.errors.StoreError.{StoreError}
use Rattle.fx_store_model.specs.declared.errors.StoreError.TheVariants as error
use Rattle.fx_store_model.specs.Refusals.{IsForgetAnswer, is_read_outside}
use Rattle.fx_store_model.specs.Step.{IsReadSome, IsUnfinished, after}
use Rattle.fx_store_model.specs.Stored.{Stored}
use Rattle.fx_store_pairs.specs.Pairs.{is_among}

-- it takes properties away
abbrev pub takes_away : Change → Bool
takes_away (Forget names) = true
takes_away change = false

-- it gives properties their definitions
abbrev pub defines : Change → Bool
defines (Set name value) = true
defines (Publish pairs) = true
defines (Bind name expr operands) = true
defines (Unbind name) = true
defines (Pair one other) = true
defines change = false

-- each name keeps its kind and its rights, a known one stays known, and no name comes or goes
pub record KeepsNames (before now : List Entry) : Type 0 where
  pub count : length now ≡ length before
  pub kinds : (name : ℕ) → kind_at now name ≡ kind_at before name
  pub rights : (name : ℕ) → read_only_in now name ≡ read_only_in before name
  pub known : (name : ℕ) → unknown_in before name ≡ false → unknown_in now name ≡ false

-- just these names are unknown now, and every other one is as before
pub record LosesNames (names : List ℕ) (before now : List Entry) : Type 0 where
  pub count : length now ≡ length before
  pub gone : (name : ℕ) → is_among names name ≡ true → unknown_in now name ≡ true
  pub others : (name : ℕ) → is_among names name ≡ false → entry_of now name ≡ entry_of before name

abbrev pub ChangesKeepNames : Type 0
ChangesKeepNames =
    (change : Change) (stored : Stored) → takes_away change ≡ false
    → KeepsNames stored.entries (after change stored).entries

abbrev pub OnlyDefinitionsChangeEntries : Type 0
OnlyDefinitionsChangeEntries =
    (change : Change) (stored : Stored) → takes_away change ≡ false → defines change ≡ false
    → (after change stored).entries ≡ stored.entries

abbrev pub ForgettingTakesTheNames : Type 0
ForgettingTakesTheNames =
    (names : List Name) (stored : Stored)
    → LosesNames (numbers names) stored.entries (after (Forget names) stored).entries

abbrev pub NumbersDontFall : Type 0
NumbersDontFall = (change : Change) (stored : Stored) → stored.given ≤ (after change stored).given

abbrev pub ReadsKeepEntries : Type 0
ReadsKeepEntries = (before now : Stored) → IsReadSome before now → now.entries ≡ before.entries

-- where memory was wanting
abbrev pub UnfinishedChangesKeepNames : Type 0
UnfinishedChangesKeepNames =
    (change : Change) (before now : Stored) → takes_away change ≡ false → IsUnfinished change before now
    → KeepsNames before.entries now.entries

abbrev pub UnfinishedForgettingTakesAllOrNone : Type 0
UnfinishedForgettingTakesAllOrNone =
    (names : List Name) (before now : Stored) → IsUnfinished (Forget names) before now
    → (now.entries ≡ before.entries) ⊎ LosesNames (numbers names) before.entries now.entries

abbrev pub UnfinishedNumbersDontFall : Type 0
UnfinishedNumbersDontFall =
    (change : Change) (before now : Stored) → IsUnfinished change before now → before.given ≤ now.given

-- whatever the answer is
abbrev pub AppliedChangesKeepNames : Type 0
AppliedChangesKeepNames =
    (change : Change) (before now : Stored) (result : Result Notices StoreError) (evaluated evaluations : ℕ)
    → takes_away change ≡ false → Applied change before now result evaluated evaluations
    → KeepsNames before.entries now.entries

abbrev pub AppliedNumbersDontFall : Type 0
AppliedNumbersDontFall =
    (change : Change) (before now : Stored) (result : Result Notices StoreError) (evaluated evaluations : ℕ)
    → Applied change before now result evaluated evaluations → before.given ≤ now.given

-- nobody outside reads one of the names
abbrev pub ReadersOutsideAreFound : Type 0
ReadersOutsideAreFound =
    (names : List ℕ) (entries : List Entry) → (is_read_outside names entries ≡ false) ↔ IsFree names entries

-- names are in use just where one outside reads them, and then they aren't forgotten
abbrev pub ReadersOutsideRefuse : Type 0
ReadersOutsideRefuse =
    (names : List Name) (entries : List Entry) (notices : Notices) (user : Name)
    → (IsForgetAnswer {T = Notices} names entries (Ok notices) → is_read_outside (numbers names) entries ≡ false)
    × (IsForgetAnswer {T = Notices} names entries (Err (error.InUse user))
    → is_read_outside (numbers names) entries ≡ true)
