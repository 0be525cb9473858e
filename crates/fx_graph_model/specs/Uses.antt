-- Which properties read which: a bound name uses its operands.
use Rattle.std.specs.Prelude.{ℕ, zero, suc, ◌<◌, ◌==◌, Bool, true, false, ◌||◌, List, [], length, slice_index_or, Contains}
use Rattle.std.specs.List.{list_any}
use Rattle.fx_base.specs.declared.kinds.Kind.TheVariants as kind
use Rattle.fx_graph_model.specs.declared.entries.Entry.{Entry}
use Rattle.fx_graph_model.specs.declared.entries.Origin.TheVariants as origin
use Rattle.fx_graph_model.specs.declared.entries.Definition.{Definition}
use Rattle.fx_graph_model.specs.declared.entries.Definition.TheVariants.{Base, Bound, Forgotten}

-- what stands at a name that was never declared
abbrev pub nothing : Entry
nothing = record { kind = kind.Bool; read_only = false; origin = origin.Initial; definition = Forgotten }

abbrev pub entry_of : List Entry → ℕ → Entry
entry_of entries name = slice_index_or entries name nothing

-- the operands of a binding, in the order of its places; none of another definition
abbrev pub operands_in : Definition → List ℕ
operands_in (Base value) = []
operands_in (Bound expr operands) = operands
operands_in Forgotten = []

abbrev pub is_binding : Definition → Bool
is_binding (Base value) = false
is_binding (Bound expr operands) = true
is_binding Forgotten = false

-- the name was never declared, or was forgotten
abbrev pub is_gone : Definition → Bool
is_gone (Base value) = false
is_gone (Bound expr operands) = false
is_gone Forgotten = true

abbrev pub uses : List Entry → ℕ → List ℕ
uses entries name = operands_in (entry_of entries name).definition

abbrev pub bound_in : List Entry → ℕ → Bool
bound_in entries name = is_binding (entry_of entries name).definition

abbrev pub unknown_in : List Entry → ℕ → Bool
unknown_in entries name = is_gone (entry_of entries name).definition

-- a walk of uses leads from one name to the other, of at least one step and at most so many
unfoldable pub reaches_in : ℕ → List Entry → ℕ → ℕ → Bool
reaches_in zero entries from to = false
reaches_in (suc most) entries from to =
    list_any (λ (operand : ℕ). (operand == to) || reaches_in most entries operand to) (uses entries from)

abbrev pub reaches : List Entry → ℕ → ℕ → Bool
reaches entries from to = reaches_in (length entries) entries from to

-- it is the name, or reaches it
unfoldable pub leads : List Entry → ℕ → ℕ → Bool
leads entries from to = (from == to) || reaches entries from to

-- the names have numbers that fall along uses; so no name reaches itself
pub record Ranked (entries : List Entry) (rank : ℕ → ℕ) : Type 0 where
  pub falls : (from to : ℕ) → Contains (uses entries from) to → rank to < rank from
  pub within : (from to : ℕ) → Contains (uses entries from) to → to < length entries
  pub small : (name : ℕ) → name < length entries → rank name < length entries
