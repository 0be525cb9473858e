-- Pairs of a name and a value that it is given.
use Rattle.std.specs.Prelude.{◌≡◌, true, false, not, List, map, filter, All}
use Rattle.fx_base.specs.Printing.{kind_of, is_plain}
use Rattle.fx_base.specs.declared.keys.Name.{Name}
use Rattle.fx_base.specs.declared.values.Value.{Value}
use Rattle.fx_graph_model.specs.declared.entries.Entry.{Entry}
use Rattle.fx_graph_model.specs.Uses.{bound_in, unknown_in}
use Rattle.fx_graph_model.specs.Refusals.{kind_at, read_only_in}

-- no value is a text
abbrev pub ArePlain : List (Name × Value) → Type 0
ArePlain pairs = All (λ (pair : Name × Value). is_plain pair.1 ≡ true) pairs

-- the texts among some values
abbrev pub texts_of : List Value → List Value
texts_of values = filter (λ (value : Value). not (is_plain value)) values

-- the texts among the values of these pairs
abbrev pub texts_in : List (Name × Value) → List Value
texts_in pairs = texts_of (map (λ (pair : Name × Value). pair.1) pairs)

-- the name is known and has a value of its own, of this kind
abbrev pub IsBase : List Entry → Name × Value → Type 0
IsBase entries pair =
    (unknown_in entries pair.0.0 ≡ false) × (bound_in entries pair.0.0 ≡ false)
    × (kind_of pair.1 ≡ kind_at entries pair.0.0)

abbrev pub AreBase : List Entry → List (Name × Value) → Type 0
AreBase entries pairs = All (IsBase entries) pairs

-- the names of the pairs are read-only, or unknown
abbrev pub AreReadOnly : List Entry → List (Name × Value) → Type 0
AreReadOnly entries pairs =
    All
    (λ (pair : Name × Value). unknown_in entries pair.0.0 ≡ false → read_only_in entries pair.0.0 ≡ true)
    pairs
