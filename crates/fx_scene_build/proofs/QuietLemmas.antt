-- While a scene is built nobody watches a property, so no step evaluates an expression.
use Rattle.std.proofs.Common.{◌≡◌, ◌≤◌, ◌+◌, ◌&&◌, ◌∙◌, ℕ, Bool, true, false, not, List, [], ◌∷◌, filter, fold, Option, Some, None, Result, Ok, Err, OnOk, refl, sym, ap, ap₂, arith, subst, cond, is_some, nat_lt, ◌||◌, length}
use Rattle.std.specs.List.{range_with_len}
use Rattle.fx_base.specs.declared.keys.Name.{Name}
use Rattle.fx_base.specs.declared.keys.NodeKey.{NodeKey}
use Rattle.fx_base.specs.declared.values.Value.{Value}
use Rattle.fx_events.specs.declared.kinds.Phase.TheVariants.{Convenience}
use Rattle.fx_expr.specs.Tree.{Tree}
use Rattle.fx_graph_model.specs.declared.entries.Entry.{Entry}
use Rattle.fx_graph_model.specs.Unread.{evaluations_of, is_reached, marked, tally}
use Rattle.fx_graph_model.specs.Uses.{bound_in}
use Rattle.fx_kinds.specs.Classes.{is_node}
use Rattle.fx_kinds.specs.declared.classes.Class.{Class}
use Rattle.fx_kinds.specs.Constraints.{ConstraintEntry, constraint_named}
use Rattle.fx_kinds.specs.Properties.{PropertyRow, rows_of}
use Rattle.fx_listen.specs.declared.entries.Listener.{Listener}
use Rattle.fx_stage_model.specs.Answers.{Taken, and_then, cost_of, unless, or_word}
use Rattle.fx_stage_model.specs.Building.{built, class, constrain, convenience, dress, inline, living, make, name, root, tracks, takes}
use Rattle.fx_stage_model.specs.Dressing.{registered, is_full_of_classes}
use Rattle.fx_stage_model.specs.Graphs.{Graph, registration, attached, child_refusal, handler_refusal, rooted}
use Rattle.fx_stage_model.specs.Nodes.{by_tree, with_node, with_row, with_rows, has_no_room}
use Rattle.fx_stage_model.specs.Properties.{by_store, changed}
use Rattle.fx_stage_model.specs.Taking.{IsBuilt}
use Rattle.fx_stage_model.specs.World.{IsUnwatched, World}
use Rattle.fx_stage_types.specs.Tables.{node_at}
use Rattle.fx_stage_types.specs.declared.answers.StageError.{StageError}
use Rattle.fx_stage_types.specs.declared.refusals.Refusal.{Refusal}
use Rattle.fx_stage_types.specs.declared.refusals.Refusal.TheVariants as word
use Rattle.fx_stage_types.specs.declared.steps.BuildStep.{BuildStep}
use Rattle.fx_stage_types.specs.declared.steps.BuildStep.TheVariants as step
use Rattle.fx_store_model.specs.declared.changes.Change.{Change}
use Rattle.fx_store_model.specs.declared.changes.Change.TheVariants.{Bind, Set}
use Rattle.fx_store_model.specs.declared.errors.StoreError.{StoreError}
use Rattle.fx_store_model.specs.Making.{made}
use Rattle.fx_store_model.specs.Refusals.{refusal}
use Rattle.fx_store_model.specs.Step.{before_reads, cost, due, read_before}
use Rattle.fx_store_model.specs.Stored.{Stored, is_heard, watched_names}
use Rattle.fx_store_pairs.specs.Pairs.{is_paired}
use Rattle.fx_tree.specs.Refusals.{root_refusal}
use Rattle.fx_tree.specs.declared.TreeError.{TreeError}

-- what costs nothing leaves nothing watched
record Quiet (taken : Taken) : Type 0 where
  free : taken.cost ≡ 0
  world : IsUnwatched taken.world

abbrev IsQuiet : Result Taken Refusal → Type 0
IsQuiet (Ok taken) = Quiet taken
IsQuiet (Err refusal) = Unit {0}

then_quiet : {A : Type 0} (answer : Result A Refusal) (next : A → Result Taken Refusal) → ((a : A) → IsQuiet (next a))
    → IsQuiet (and_then answer next)
then_quiet (Ok a) next each = each a
then_quiet (Err refusal) next each = tt

unless_quiet : (so : Bool) (refusal : Refusal) (next : Result Taken Refusal) → IsQuiet next → IsQuiet (unless so refusal next)
unless_quiet true refusal next is = tt
unless_quiet false refusal next is = is

tree_quiet : (refused : Option TreeError) (graph : Graph) (world : World) → IsUnwatched world
    → IsQuiet (by_tree refused graph world)
tree_quiet None graph world is = record { free = refl; world = record { pairs = is.pairs; listeners = is.listeners } }
tree_quiet (Some error) graph world is = tt

-- nothing is due where nothing is watched

none_kept : (xs : List ℕ) → filter (λ (x : ℕ). false) xs ≡ []
none_kept [] = refl
none_kept (x ∷ xs) = none_kept xs

watched_none : (stored : Stored) → stored.pairs ≡ [] → stored.listeners ≡ [] → watched_names stored ≡ []
watched_none stored pairs listeners = by stored.pairs stored.listeners pairs listeners
  where
    by : (ps : List (ℕ × ℕ)) (ls : List Listener) → ps ≡ [] → ls ≡ []
        → watched_names (record stored { pairs = ps; listeners = ls }) ≡ []
    by ps ls p l = rw (p, l) (none_kept (range_with_len 0 (length stored.entries)))

no_test : (entries : List Entry) (flags : List Bool) (xs : List ℕ)
    → tally (λ (other : ℕ). bound_in entries other && (marked flags other && is_reached entries [] other)) xs ≡ 0
unfolding is_reached
no_test entries flags [] = refl
no_test entries flags (x ∷ xs) = by (bound_in entries x) (marked flags x) (no_test entries flags xs)
  where
    rest : ℕ
    rest = tally (λ (other : ℕ). bound_in entries other && (marked flags other && is_reached entries [] other)) xs

    by : (a b : Bool) → rest ≡ 0 → cond (a && (b && false)) 1 0 + rest ≡ 0
    by true true none = omega (arith, none)
    by true false none = omega (arith, none)
    by false b none = omega (arith, none)

none_due : (stored : Stored) → stored.pairs ≡ [] → stored.listeners ≡ [] → due stored ≡ 0
unfolding evaluations_of
none_due stored pairs listeners =
    ap (λ (names : List ℕ). evaluations_of stored.entries names stored.unread) (watched_none stored pairs listeners)
    ∙ no_test stored.entries stored.unread (range_with_len 0 _)

-- declaring the properties of a node makes none of them watched
rows_keep : (kind : Class) (rows : List PropertyRow) (stored : Stored)
    → ((with_rows kind rows stored).pairs ≡ stored.pairs) × ((with_rows kind rows stored).listeners ≡ stored.listeners)
rows_keep kind [] stored = (refl, refl)
rows_keep kind (row ∷ rows) stored = rows_keep kind rows (with_row kind stored row)

node_quiet : (slot : ℕ) (kind : Class) (world : World) → IsUnwatched world → IsQuiet (make slot kind world)
unfolding make with_node
node_quiet slot kind world is =
    let kept = rows_keep kind (rows_of kind) world.store in
    unless_quiet (not (is_node kind)) word.Value _
    (unless_quiet (has_no_room kind world) word.Full _
    (record {
      free = refl;
      world = record { pairs = kept.0 ∙ is.pairs; listeners = kept.1 ∙ is.listeners };
    }))

-- a change that neither joins properties nor adds a listener
module _ (change : Change) (world : World) (is : IsUnwatched world)
    (pairs : (made change world.store).pairs ≡ world.store.pairs)
    (listeners : (made change world.store).listeners ≡ world.store.listeners)
    (none : read_before change world.store ≡ 0) where
  behind_none : due (before_reads change world.store) ≡ 0
  unfolding before_reads
  behind_none = none_due (before_reads change world.store) (pairs ∙ is.pairs) (listeners ∙ is.listeners)

  change_free : cost change world.store ≡ 0
  unfolding cost
  change_free =
      let before : due world.store ≡ 0 = none_due world.store is.pairs is.listeners in
      let own : read_before change world.store ≡ 0 = none in
      let behind : due (before_reads change world.store) ≡ 0 = behind_none in
      omega (arith, before, own, behind)

  by_refusal : (o : Option StoreError) → IsQuiet (by_store change world o)
  unfolding before_reads
  by_refusal None = record {
    free = change_free;
    world = record { pairs = pairs ∙ is.pairs; listeners = listeners ∙ is.listeners };
  }
  by_refusal (Some error) = tt

  change_quiet : IsQuiet (changed change world)
  unfolding changed
  change_quiet = by_refusal (refusal change world.store)

set_quiet : (n : Name) (value : Value) (world : World) → IsUnwatched world → IsQuiet (changed (Set n value) world)
unfolding made
set_quiet n value world is = change_quiet (Set n value) world is refl refl refl

bind_quiet : (n : Name) (formula : Tree) (operands : List Name) (world : World) → IsUnwatched world
    → IsQuiet (changed (Bind n formula operands) world)
unfolding made
bind_quiet n formula operands world is = change_quiet (Bind n formula operands) world is refl refl refl

-- a step of building costs nothing, and leaves nothing watched
built_quiet : (slot : ℕ) (s : BuildStep) (world : World) → IsUnwatched world → IsQuiet (built slot s world)
unfolding built name root constrain class dress inline convenience tracks
built_quiet slot (step.Node kind) world is = node_quiet slot kind world is
built_quiet slot (step.Named key path) world is =
    then_quiet (living world key) _ (λ k.
    unless_quiet (is_some (node_at world.graph.paths path)) word.Exists _
    (record { free = refl; world = record { pairs = is.pairs; listeners = is.listeners } }))
built_quiet slot (step.Root key) world is =
    tree_quiet (root_refusal world.graph.tree key) (rooted key world.graph) world is
built_quiet slot (step.Child pane child spot) world is =
    tree_quiet (child_refusal pane child spot world.graph) (attached pane child spot world.graph) world is
built_quiet slot (step.Code n value) world is = set_quiet n value world is
built_quiet slot (step.Bind n formula operands) world is = bind_quiet n formula operands world is
built_quiet slot (step.Constraint key n value) world is =
    then_quiet (living world key) _ (λ k.
    then_quiet (or_word word.Property (constraint_named n)) _ (λ entry.
    unless_quiet (not (takes entry value)) word.Value _
    (record { free = refl; world = record { pairs = is.pairs; listeners = is.listeners } })))
built_quiet slot (step.Class key n) world is =
    then_quiet (living world key) _ (λ k.
    unless_quiet (is_full_of_classes world.graph.table k) word.Full _
    (record { free = refl; world = record { pairs = is.pairs; listeners = is.listeners } }))
built_quiet slot (step.Inline key sheet) world is =
    then_quiet (living world key) _ (λ k. record { free = refl; world = record { pairs = is.pairs; listeners = is.listeners } })
built_quiet slot (step.Sheet None sheet) world is =
    record { free = refl; world = record { pairs = is.pairs; listeners = is.listeners } }
built_quiet slot (step.Sheet (Some key) sheet) world is =
    then_quiet (living world key) _ (λ k. record { free = refl; world = record { pairs = is.pairs; listeners = is.listeners } })
built_quiet slot (step.Convenience key on action) world is =
    then_quiet (living world key) _ (λ k.
    unless_quiet (is_some (handler_refusal k (registration on Convenience action) world.graph)) word.Full _
    (record { free = refl; world = record { pairs = is.pairs; listeners = is.listeners } }))
built_quiet slot (step.Tracks key columns rows) world is =
    then_quiet (living world key) _ (λ k.
    unless_quiet (nat_lt 256 (length columns) || nat_lt 256 (length rows)) word.Full _
    (record { free = refl; world = record { pairs = is.pairs; listeners = is.listeners } }))

-- what a step that was made leaves
pub step_quiet : (slot : ℕ) (s : BuildStep) (world now : World) (old new : ℕ) (made : Option NodeKey)
    (answer : Result (Option NodeKey) StageError) → IsUnwatched world → IsBuilt (built slot s world) made world now answer
    → new ≤ old + cost_of (built slot s world) → OnOk answer ((new ≤ old) × IsUnwatched now)
step_quiet slot s world now old new made answer is taken few =
    by (built slot s world) answer (built_quiet slot s world is) taken few
  where
    by : (r : Result Taken Refusal) (a : Result (Option NodeKey) StageError) → IsQuiet r → IsBuilt r made world now a
        → new ≤ old + cost_of r → OnOk a ((new ≤ old) × IsUnwatched now)
    by (Ok t) (Ok key) quiet so less =
        let free : t.cost ≡ 0 = quiet.free in (
          omega (arith, less, free),
          subst IsUnwatched (sym so.0) quiet.world,
        )
    by (Ok t) (Err error) quiet so less = tt
    by (Err word) (Ok key) quiet so less = absurd so
    by (Err word) (Err error) quiet so less = tt

-- what is so whatever comes next
pub even_so : {T E : Type 0} {A : Type 0} (r : Result T E) → A → OnOk r A
even_so (Ok t) a = a
even_so (Err e) a = tt
