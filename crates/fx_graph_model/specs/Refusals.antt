-- When each call is refused, and with which error. The errors are tested in their order, each over all names.
use Rattle.std.specs.Prelude.{ℕ, ◌≡◌, ◌+◌, nat_lt, Bool, false, not, if◌then◌else◌, List, [], ◌∷◌, length, map, Option, Some, None, Result, Ok, Err, Contains}
use Rattle.fx_base.specs.Answers.{or_else, refused_first}
use Rattle.fx_base.specs.Names.{numbers}
use Rattle.fx_base.specs.Printing.{kind_of}
use Rattle.fx_base.specs.declared.keys.Name.{Name}
use Rattle.fx_base.specs.declared.kinds.Kind.{Kind}
use Rattle.fx_base.specs.declared.values.Value.{Value}
use Rattle.fx_expr.specs.Tree.{Tree}
use Rattle.fx_expr.specs.Typing.{kind_in}
use Rattle.fx_graph_model.specs.declared.entries.Entry.{Entry}
use Rattle.fx_graph_model.specs.declared.errors.GraphError.{GraphError}
use Rattle.fx_graph_model.specs.declared.errors.GraphError.TheVariants.{Unknown, ReadOnly, WrongKind, Bound, Cycle, Full, InUse}
use Rattle.fx_graph_model.specs.Changes.{with_binding}
use Rattle.fx_graph_model.specs.Equality.{same_kind}
use Rattle.fx_graph_model.specs.Uses.{entry_of, operands_in, uses, bound_in, unknown_in, leads}

abbrev pub unknown_name : List Entry → List Name → Option GraphError
unknown_name entries names = refused_first Unknown (λ (name : Name). unknown_in entries name.0) names

abbrev pub read_only_in : List Entry → ℕ → Bool
read_only_in entries name = (entry_of entries name).read_only

abbrev pub kind_at : List Entry → ℕ → Kind
kind_at entries name = (entry_of entries name).kind

-- the names of pairs of a name and a value
abbrev pub pair_names : List (Name × Value) → List Name
pair_names pairs = map (λ (pair : Name × Value). pair.0) pairs

-- a name is to have a value of another kind than its own
abbrev pub wrong_kind : List Entry → List (Name × Value) → Option GraphError
wrong_kind entries pairs =
    refused_first (λ (pair : Name × Value). WrongKind pair.0)
    (λ (pair : Name × Value). not (same_kind (kind_of pair.1) (kind_at entries pair.0.0)))
    pairs

abbrev pub declare_refusal : List Entry → Option GraphError
declare_refusal entries = if nat_lt (length entries) 4000000 then None else Some Full

unfoldable pub set_refusal : List (Name × Value) → List Entry → Option GraphError
set_refusal pairs entries =
    or_else (unknown_name entries (pair_names pairs))
    (or_else (refused_first ReadOnly (λ (name : Name). read_only_in entries name.0) (pair_names pairs))
    (or_else (wrong_kind entries pairs)
    (refused_first Bound (λ (name : Name). bound_in entries name.0) (pair_names pairs))))

unfoldable pub publish_refusal : List (Name × Value) → List Entry → Option GraphError
publish_refusal pairs entries = or_else (unknown_name entries (pair_names pairs)) (wrong_kind entries pairs)

-- it has this kind, and none is another
abbrev pub is_of : Option Kind → Kind → Bool
is_of None kind = false
is_of (Some found) kind = same_kind found kind

-- the expression has the property's kind over its operands
abbrev pub fits : List Entry → ℕ → Tree → List ℕ → Bool
fits entries name expr operands = is_of (kind_in expr (map (kind_at entries) operands)) (kind_at entries name)

-- how many operands all bindings together have
unfoldable pub operand_count : List Entry → ℕ
operand_count [] = 0
operand_count (entry ∷ entries) = length (operands_in entry.definition) + operand_count entries

-- the names are known, the property may be bound, and the expression has its kind
unfoldable pub fit_refusal : Name → Tree → List Name → List Entry → Option GraphError
fit_refusal name expr operands entries =
    or_else (unknown_name entries (name ∷ operands))
    (or_else (if read_only_in entries name.0 then Some (ReadOnly name) else None)
    (if fits entries name.0 expr (numbers operands) then None else Some (WrongKind name)))

-- no operand reads the property, and there is room for the operands
unfoldable pub link_refusal : Name → Tree → List Name → List Entry → Option GraphError
link_refusal name expr operands entries =
    or_else (refused_first Cycle (λ (operand : Name). leads entries operand.0 name.0) operands)
    (if nat_lt 1000000 (operand_count (with_binding name.0 expr (numbers operands) entries)) then Some Full else None)

unfoldable pub bind_refusal : Name → Tree → List Name → List Entry → Option GraphError
bind_refusal name expr operands entries =
    or_else (fit_refusal name expr operands entries) (link_refusal name expr operands entries)

-- of a read or an unbinding
abbrev pub unknown_refusal : Name → List Entry → Option GraphError
unknown_refusal name entries = if unknown_in entries name.0 then Some (Unknown name) else None

-- who uses one of the names is one of them
abbrev pub IsFree : List ℕ → List Entry → Type 0
IsFree names entries =
    (user used : ℕ) → Contains names used → Contains (uses entries user) used → Contains names user

-- all names are known, and this one, which isn't among them, uses one of them
abbrev pub IsForgetRefusal : List Name → List Entry → GraphError → Type 0
IsForgetRefusal names entries (Unknown name) = unknown_name entries names ≡ Some (Unknown name)
IsForgetRefusal names entries (InUse user) =
    (unknown_name entries names ≡ None) × (Contains (numbers names) user.0 → ⊥)
    × ((used : ℕ) × Contains (numbers names) used × Contains (uses entries user.0) used)
IsForgetRefusal names entries _ = ⊥

abbrev pub IsForgetAnswer : List Name → List Entry → Result Unit GraphError → Type 0
IsForgetAnswer names entries (Ok value) = (unknown_name entries names ≡ None) × IsFree (numbers names) entries
IsForgetAnswer names entries (Err error) = IsForgetRefusal names entries error
