-- What reading asks of an entry.
use Rattle.std.specs.Prelude.{ℕ, ◌≡◌, ◌<◌, Bool, true, false, List, length, slice_index_or, Option, Some, None, Contains}
use Rattle.fx_base.specs.declared.values.Value.{Value}
use Rattle.fx_expr.specs.Tree.{is_within}
use Rattle.fx_expr.specs.Meaning.{no_value}
use Rattle.fx_graph_model.specs.declared.entries.Definition.{Definition}
use Rattle.fx_graph_model.specs.declared.entries.Definition.TheVariants.{Base, Bound, Forgotten}
use Rattle.fx_graph_model.specs.Unread.{marked}

-- an unread one of these names, if there is one
abbrev pub IsUnreadAmong : List Bool → List ℕ → Option ℕ → Type 0
IsUnreadAmong flags names None = (name : ℕ) → Contains names name → marked flags name ≡ false
IsUnreadAmong flags names (Some name) = Contains names name × (marked flags name ≡ true)

abbrev pub kept_value : List Value → ℕ → Value
kept_value cache name = slice_index_or cache name no_value

-- all operands are among so many names, and the expression has no place without operand
abbrev pub IsEvaluable : ℕ → Definition → Type 0
IsEvaluable size (Base value) = Unit {0}
IsEvaluable size (Bound expr operands) =
    ((name : ℕ) → Contains operands name → name < size) × (is_within expr (length operands) ≡ true)
IsEvaluable size Forgotten = Unit {0}
