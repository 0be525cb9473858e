-- When each change is refused, and with which error: in the order of the script's refusal words, each over all names.
use Rattle.std.specs.Prelude.{ℕ, ◌≡◌, ◌==◌, ◌⊎◌, nat_le, Bool, if◌then◌else◌, not, ◌&&◌, ◌||◌, List, [], ◌∷◌, length, Option, Some, None, Result, Ok, Err}
use Rattle.std.specs.List.{list_any, range_with_len}
use Rattle.std.specs.Option.{option_map}
use Rattle.fx_base.specs.Answers.{IsAnswer, or_else}
use Rattle.fx_base.specs.Names.{numbers}
use Rattle.fx_base.specs.declared.keys.Name.{Name}
use Rattle.fx_expr.specs.Tree.{Tree}
use Rattle.fx_handles.specs.declared.Owner.{Owner}
use Rattle.fx_handles.specs.Living.{Register}
use Rattle.fx_listen.specs.declared.entries.Listener.{Listener}
use Rattle.fx_listen.specs.Listening.{has_life}
use Rattle.fx_store_pairs.specs.Pairs.{is_among, is_paired}
use Rattle.fx_graph_model.specs.declared.entries.Entry.{Entry}
use Rattle.fx_graph_model.specs.declared.errors.GraphError.{GraphError}
use Rattle.fx_graph_model.specs.Equality.{same_kind}
use Rattle.fx_graph_model.specs.Refusals as graph
use Rattle.fx_graph_model.specs.Uses.{bound_in, uses}
use Rattle.fx_store_model.specs.declared.changes.Change.{Change}
use Rattle.fx_store_model.specs.declared.changes.Change.TheVariants.{Set, Publish, Bind, Unbind, Pair, Unpair, Listen, Unlisten, Forget}
use Rattle.fx_store_model.specs.declared.errors.StoreError.{StoreError}
use Rattle.fx_store_model.specs.declared.errors.StoreError.TheVariants as error
use Rattle.fx_store_model.specs.Causes.{of_graph}
use Rattle.fx_store_model.specs.Stored.{Stored}

abbrev pub of_graph_refusal : Option GraphError → Option StoreError
of_graph_refusal refusal = option_map of_graph refusal

-- the error, if it is so
abbrev pub refused_if : Bool → StoreError → Option StoreError
refused_if so cause = if so then Some cause else None

abbrev pub unknown_of : List Name → List Entry → Option StoreError
unknown_of names entries = of_graph_refusal (graph.unknown_name entries names)

-- of one or the other the first that is so
abbrev pub refused_pair : (Name → StoreError) → (ℕ → Bool) → Name → Name → Option StoreError
refused_pair cause test one other =
    or_else (refused_if (test one.0) (cause one)) (refused_if (test other.0) (cause other))

unfoldable pub pair_refusal : Name → Name → List Entry → List (ℕ × ℕ) → Option StoreError
pair_refusal one other entries pairs =
    or_else (unknown_of (one ∷ other ∷ []) entries)
    (or_else (refused_pair error.ReadOnly (graph.read_only_in entries) one other)
    (or_else
    (if same_kind (graph.kind_at entries one.0) (graph.kind_at entries other.0)
    then None else Some (error.WrongKind other))
    (or_else (refused_pair error.Mixed (bound_in entries) one other)
    (or_else (refused_if (one.0 == other.0) error.Same)
    (refused_if (nat_le 10000 (length pairs)) error.Full)))))

unfoldable pub unpair_refusal : Name → Name → List Entry → Option StoreError
unpair_refusal one other entries =
    or_else (unknown_of (one ∷ other ∷ []) entries) (refused_if (one.0 == other.0) error.Same)

-- the listeners are living ones
unfoldable pub listen_refusal : Name → Option Owner → List Entry → List Owner → List Listener → ℕ
    → Option StoreError
listen_refusal name owner entries living listeners given =
    or_else (unknown_of (name ∷ []) entries)
    (or_else (if has_life living owner then None else Some error.StaleOwner)
    (refused_if (nat_le 10000 (length listeners) || nat_le 4294967295 given) error.Full))

unfoldable pub unlisten_refusal : Name → Option Owner → List Entry → List Owner → Option StoreError
unlisten_refusal name owner entries living =
    or_else (unknown_of (name ∷ []) entries) (if has_life living owner then None else Some error.StaleOwner)

unfoldable pub bind_refusal : Name → Tree → List Name → List Entry → List (ℕ × ℕ) → Option StoreError
bind_refusal name expr operands entries pairs =
    or_else (of_graph_refusal (graph.fit_refusal name expr operands entries))
    (or_else (refused_if (is_paired pairs name.0) (error.Mixed name))
    (of_graph_refusal (graph.link_refusal name expr operands entries)))

-- of each change but the one that forgets
unfoldable pub refusal : Change → Stored → Option StoreError
refusal (Set name value) stored = of_graph_refusal (graph.set_refusal ((name, value) ∷ []) stored.entries)
refusal (Publish pairs) stored = of_graph_refusal (graph.publish_refusal pairs stored.entries)
refusal (Bind name expr operands) stored = bind_refusal name expr operands stored.entries stored.pairs
refusal (Unbind name) stored = unknown_of (name ∷ []) stored.entries
refusal (Pair one other) stored = pair_refusal one other stored.entries stored.pairs
refusal (Unpair one other) stored = unpair_refusal one other stored.entries
refusal (Listen name kind owner tag) stored =
    listen_refusal name owner stored.entries stored.owners.living stored.listeners stored.given
refusal (Unlisten name kind owner tag) stored = unlisten_refusal name owner stored.entries stored.owners.living
refusal (Forget names) stored = None

-- it isn't one of these names, and it is bound to one of them
abbrev pub is_outside_reader : List ℕ → List Entry → ℕ → Bool
is_outside_reader names entries user =
    not (is_among names user) && list_any (is_among names) (uses entries user)

-- a name outside reads one of these
unfoldable pub is_read_outside : List ℕ → List Entry → Bool
is_read_outside names entries = list_any (is_outside_reader names entries) (range_with_len 0 (length entries))

-- properties are forgotten just where all are known and no other one is bound to one of them
abbrev pub IsForgetAnswer : {T : Type 0} → List Name → List Entry → Result T StoreError → Type 0
IsForgetAnswer names entries (Ok value) =
    (graph.unknown_name entries names ≡ None) × graph.IsFree (numbers names) entries
IsForgetAnswer names entries (Err cause) =
    ((refused : GraphError) × graph.IsForgetRefusal names entries refused × (cause ≡ of_graph refused))
    ⊎ (cause ≡ error.Memory)

abbrev pub IsChangeAnswer : {T : Type 0} → Change → Stored → Result T StoreError → Type 0
IsChangeAnswer (Forget names) stored result = IsForgetAnswer names stored.entries result
IsChangeAnswer change stored result = IsAnswer error.Memory (refusal change stored) result

-- the change isn't refused
abbrev pub IsAllowed : Change → Stored → Type 0
IsAllowed change stored = IsChangeAnswer {T = Unit {0}} change stored (Ok tt)

-- at most 10,000 owners are alive, and their numbers end
abbrev pub owner_refusal : Register → Option StoreError
owner_refusal owners =
    refused_if ((length owners.living == 10000) || (owners.born == 4294967295)) error.Full
