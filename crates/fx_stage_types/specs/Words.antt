-- The words of refusals, and which of them the parts' own refusals are.
use Rattle.std.specs.Prelude.{ℕ, List, codes}
use Rattle.fx_events.specs.declared.EventError.{EventError}
use Rattle.fx_events.specs.declared.EventError.TheVariants as event
use Rattle.fx_store_model.specs.declared.errors.StoreError.{StoreError}
use Rattle.fx_store_model.specs.declared.errors.StoreError.TheVariants as store
use Rattle.fx_tree.specs.declared.TreeError.{TreeError}
use Rattle.fx_tree.specs.declared.TreeError.TheVariants as tree
use Rattle.fx_stage_types.specs.declared.answers.StageError.{StageError}
use Rattle.fx_stage_types.specs.declared.answers.StageError.TheVariants.{Refused, Memory}
use Rattle.fx_stage_types.specs.declared.refusals.Refusal.{Refusal}
use Rattle.fx_stage_types.specs.declared.refusals.Refusal.TheVariants as word

abbrev pub word_of : Refusal → List ℕ
word_of word.Syntax = codes "syntax"
word_of word.Unknown = codes "unknown"
word_of word.Property = codes "property"
word_of word.ReadOnly = codes "readonly"
word_of word.Stale = codes "stale"
word_of word.Kinds = codes "type"
word_of word.Value = codes "value"
word_of word.Exists = codes "exists"
word_of word.Bound = codes "bound"
word_of word.Mixed = codes "mixed"
word_of word.Same = codes "same"
word_of word.Cycle = codes "cycle"
word_of word.WouldLoop = codes "wouldloop"
word_of word.Parent = codes "parent"
word_of word.Attached = codes "attached"
word_of word.Place = codes "place"
word_of word.Depth = codes "depth"
word_of word.Used = codes "used"
word_of word.Button = codes "button"
word_of word.Full = codes "full"

-- the place of a word in their order
abbrev pub rank : Refusal → ℕ
rank word.Syntax = 0
rank word.Unknown = 1
rank word.Property = 2
rank word.ReadOnly = 3
rank word.Stale = 4
rank word.Kinds = 5
rank word.Value = 6
rank word.Exists = 7
rank word.Bound = 8
rank word.Mixed = 9
rank word.Same = 10
rank word.Cycle = 11
rank word.WouldLoop = 12
rank word.Parent = 13
rank word.Attached = 14
rank word.Place = 15
rank word.Depth = 16
rank word.Used = 17
rank word.Button = 18
rank word.Full = 19

abbrev pub of_store : StoreError → StageError
of_store (store.Unknown name) = Refused word.Unknown
of_store (store.ReadOnly name) = Refused word.ReadOnly
of_store (store.WrongKind name) = Refused word.Kinds
of_store (store.Bound name) = Refused word.Bound
of_store (store.Cycle name) = Refused word.Cycle
of_store store.Full = Refused word.Full
of_store (store.InUse name) = Refused word.Used
of_store store.Same = Refused word.Same
of_store (store.Mixed name) = Refused word.Mixed
of_store store.StaleOwner = Refused word.Stale
of_store store.Memory = Memory

abbrev pub of_tree : TreeError → StageError
of_tree tree.StaleKey = Refused word.Unknown
of_tree tree.WouldLoop = Refused word.WouldLoop
of_tree tree.HasParent = Refused word.Parent
of_tree tree.Attached = Refused word.Attached
of_tree tree.Place = Refused word.Place
of_tree tree.Full = Refused word.Full
of_tree tree.Depth = Refused word.Depth
of_tree tree.NoParent = Refused word.Parent
of_tree tree.Memory = Memory

abbrev pub of_event : EventError → StageError
of_event event.Full = Refused word.Full
of_event event.Memory = Memory
