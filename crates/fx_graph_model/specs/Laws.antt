-- What is true of every store whose names have ranks.
use Rattle.std.specs.Prelude.{ℕ, ◌≡◌, Bool, false, List, length}
use Rattle.fx_base.specs.Printing.{kind_of}
use Rattle.fx_graph_model.specs.declared.entries.Entry.{Entry}
use Rattle.fx_graph_model.specs.Eager.{value_of_definition, eager}
use Rattle.fx_graph_model.specs.Marking.{IsClosedBut}
use Rattle.fx_graph_model.specs.Refusals.{kind_at}
use Rattle.fx_graph_model.specs.Sound.{AreSound, IsAcyclic}
use Rattle.fx_graph_model.specs.Unread.{after_marking, IsClosed}
use Rattle.fx_graph_model.specs.Uses.{entry_of, unknown_in, Ranked}

abbrev pub RanksForbidCycles : Type 0
RanksForbidCycles = (entries : List Entry) (rank : ℕ → ℕ) → Ranked entries rank → IsAcyclic entries

abbrev pub ValuesUnfold : Type 0
ValuesUnfold =
    (entries : List Entry) (rank : ℕ → ℕ) → Ranked entries rank
    → (name : ℕ) → eager entries name ≡ value_of_definition (eager entries) (entry_of entries name).definition

abbrev pub ValuesHaveTheirKinds : Type 0
ValuesHaveTheirKinds =
    (entries : List Entry) (rank : ℕ → ℕ) → Ranked entries rank → AreSound entries
    → (name : ℕ) → unknown_in entries name ≡ false → kind_of (eager entries name) ≡ kind_at entries name

abbrev pub MarksStayClosed : Type 0
MarksStayClosed =
    (entries : List Entry) (rank : ℕ → ℕ) → Ranked entries rank
    → (names : List ℕ) (flags : List Bool) → length flags ≡ length entries → IsClosedBut entries flags names
    → IsClosed entries (after_marking entries names flags)
