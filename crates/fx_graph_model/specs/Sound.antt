-- What is true of every store of properties.
use Rattle.std.specs.Prelude.{ℕ, ◌≡◌, ◌<◌, Bool, true, false, List, length, map, slice_index_or, Some, Contains}
use Rattle.fx_base.specs.Printing.{kind_of}
use Rattle.fx_base.specs.declared.values.Value.{Value}
use Rattle.fx_expr.specs.Tree.{is_within}
use Rattle.fx_expr.specs.Typing.{kind_in}
use Rattle.fx_expr.specs.Meaning.{no_value}
use Rattle.fx_graph_model.specs.declared.entries.Entry.{Entry}
use Rattle.fx_graph_model.specs.declared.entries.Definition.{Definition}
use Rattle.fx_graph_model.specs.declared.entries.Definition.TheVariants.{Base, Bound, Forgotten}
use Rattle.fx_graph_model.specs.Eager.{eager}
use Rattle.fx_graph_model.specs.Refusals.{kind_at, read_only_in}
use Rattle.fx_graph_model.specs.Unread.{marked, IsClosed}
use Rattle.fx_graph_model.specs.Uses.{entry_of, uses, bound_in, unknown_in, reaches}

-- the definition gives a value of the entry's kind: a value of this kind, or an expression of it over its operands
abbrev pub HasKind : List Entry → Entry → Definition → Type 0
HasKind entries entry (Base value) = kind_of value ≡ entry.kind
HasKind entries entry (Bound expr operands) =
    (kind_in expr (map (kind_at entries) operands) ≡ Some entry.kind)
    × (is_within expr (length operands) ≡ true)
HasKind entries entry Forgotten = Unit {0}

-- each entry has its kind, no operand is unknown, and no read-only name is bound
pub record AreSound (entries : List Entry) : Type 0 where
  pub kinds : (name : ℕ) → HasKind entries (entry_of entries name) (entry_of entries name).definition
  pub known : (user name : ℕ) → Contains (uses entries user) name → unknown_in entries name ≡ false
  pub free : (name : ℕ) → read_only_in entries name ≡ true → bound_in entries name ≡ false

-- each name has a flag and a kept value, which is the eager one where the name isn't unread
pub record IsSettled (entries : List Entry) (unread : List Bool) (cache : List Value) : Type 0 where
  pub flags : length unread ≡ length entries
  pub values : length cache ≡ length entries
  pub closed : IsClosed entries unread
  pub kept : (name : ℕ) → name < length entries → marked unread name ≡ false
      → slice_index_or cache name no_value ≡ eager entries name

-- no name reaches itself
abbrev pub IsAcyclic : List Entry → Type 0
IsAcyclic entries = (name : ℕ) → reaches entries name name ≡ false
