-- The value of a property where nothing is kept: of a binding the meaning of its expression over the values of its
-- operands.
use Rattle.std.specs.Prelude.{ℕ, zero, suc, List, length, map}
use Rattle.fx_base.specs.declared.values.Value.{Value}
use Rattle.fx_expr.specs.Meaning.{mean, no_value}
use Rattle.fx_graph_model.specs.declared.entries.Entry.{Entry}
use Rattle.fx_graph_model.specs.declared.entries.Definition.{Definition}
use Rattle.fx_graph_model.specs.declared.entries.Definition.TheVariants.{Base, Bound, Forgotten}
use Rattle.fx_graph_model.specs.Uses.{entry_of}

abbrev pub value_of_definition : (ℕ → Value) → Definition → Value
value_of_definition value (Base here) = here
value_of_definition value (Bound expr operands) = mean expr (map value operands)
value_of_definition value Forgotten = no_value

-- followed through at most so many bindings
unfoldable pub value_in : ℕ → List Entry → ℕ → Value
value_in zero entries name = no_value
value_in (suc depth) entries name = value_of_definition (value_in depth entries) (entry_of entries name).definition

abbrev pub eager : List Entry → ℕ → Value
eager entries name = value_in (length entries) entries name
