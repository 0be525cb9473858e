-- What a line of the world's own makes of a world in which no path that is printed holds a line feed.
use Rattle.std.proofs.Common.{◌+◌, ℕ, Bool, true, false, cond, List, [], ◌∷◌, Option, Some, None, Ok, Err}
use Rattle.std.specs.Prelude.{IfOk, Result, is_some, not, length, map}
use Rattle.std.specs.Map.{lookup}
use Rattle.std.specs.Str.{bytes_eq}
use Rattle.std.proofs.lemmas.List.Elements.{All-cons, All-filter, All-nil, All-push}
use Rattle.fx_base.specs.declared.keys.NodeKey.{NodeKey}
use Rattle.fx_events.specs.declared.kinds.Phase.{Phase}
use Rattle.fx_events.specs.declared.kinds.Phase.TheVariants as phase
use Rattle.fx_events.specs.declared.registrations.Registration.{Registration}
use Rattle.fx_expr.specs.Tree.{is_within}
use Rattle.fx_graph_model.specs.Refusals.{kind_at, read_only_in}
use Rattle.fx_kinds.specs.Constraints.{constraint_named}
use Rattle.fx_listen.specs.Listening.{has_life}
use Rattle.fx_look.specs.Readings.{value_at}
use Rattle.fx_script_commands.specs.Requests.{Expression, Numbered, Request, Requests, asks, bad, binds, defines, more, no_more}
use Rattle.fx_script_lines.specs.declared.instructions.Instruction.{Instruction}
use Rattle.fx_script_lines.specs.declared.instructions.Instruction.TheVariants as line
use Rattle.fx_stage_model.specs.Answers.{Taken, all, and_then, both, or_word, unless}
use Rattle.fx_stage_model.specs.Dressing as dressing
use Rattle.fx_stage_model.specs.Graphs.{Graph, handler_refusal}
use Rattle.fx_stage_model.specs.Lines.{define, instructed, lines_of, resize, side_of, taken}
use Rattle.fx_stage_model.specs.Listening as listening
use Rattle.fx_stage_model.specs.Looking.{find, find_node}
use Rattle.fx_stage_model.specs.Nodes as nodes
use Rattle.fx_stage_model.specs.Properties as property
use Rattle.fx_stage_model.specs.World.{World, with_store}
use Rattle.fx_stage_types.specs.Edits.{has_word}
use Rattle.fx_stage_types.specs.Tables.{node_at}
use Rattle.fx_stage_types.specs.declared.refusals.Refusal.{Refusal}
use Rattle.fx_stage_types.specs.declared.refusals.Refusal.TheVariants as word
use Rattle.fx_store_model.specs.Refusals.{is_read_outside, owner_refusal, refusal}
use Rattle.fx_store_model.specs.Stored.{Stored}
use Rattle.fx_store_model.specs.declared.changes.Change.{Change}
use Rattle.fx_store_model.specs.declared.changes.Change.TheVariants.{Bind, Pair, Set, Unbind, Unpair}
use Rattle.fx_store_model.specs.declared.errors.StoreError.{StoreError}
use Rattle.fx_tree.specs.Refusals.{drop_refusal}
use Rattle.fx_tree.specs.declared.TreeError.{TreeError}
use Rattle.fx_delta_runs.specs.Tame.{AreTame, AreTameLines, IsOnePath, IsTame, IsTameInstruction, IsTameLine, IsTameWorld}

-- what isn't refused makes such a world
abbrev pub Keeps : Result Taken Refusal → Type 0
Keeps answer = IfOk answer (λ (t : Taken). IsTameWorld t.world)

-- ---- parts of answers
pub then_keeps : {A : Type 0} (answer : Result A Refusal) (next : A → Result Taken Refusal) → ((a : A) → Keeps (next a))
    → Keeps (and_then answer next)
then_keeps (Ok a) next each = each a
then_keeps (Err refusal) next each = tt

then_taken : (answer : Result Taken Refusal) (next : Taken → Result Taken Refusal) → Keeps answer
    → ((t : Taken) → IsTameWorld t.world → Keeps (next t)) → Keeps (and_then answer next)
then_taken (Ok t) next is each = each t is
then_taken (Err refusal) next is each = tt

pub unless_keeps : (so : Bool) (refusal : Refusal) (next : Result Taken Refusal) → Keeps next
    → Keeps (unless so refusal next)
unless_keeps true refusal next is = tt
unless_keeps false refusal next is = is

if_keeps : (so : Bool) (one other : Result Taken Refusal) → Keeps one → Keeps other → Keeps (cond so one other)
if_keeps true one other is also = is
if_keeps false one other is also = also

-- of listeners that are gone nothing is written
pub stored_tame : (store : Stored) (world : World) → IsTameWorld world → IsTameWorld (with_store store world)
stored_tame store world is =
    record {
      written = All-filter _ (λ (entry : ℕ × List (List ℕ)). IsOnePath entry.1) world.names.written is.written;
      actions = is.actions;
    }

by_store_keeps : (change : Change) (world : World) (error : Option StoreError) → IsTameWorld world
    → Keeps (property.by_store change world error)
by_store_keeps change world (Some error) is = tt
by_store_keeps change world None is = stored_tame _ world is

pub changed_keeps : (change : Change) (world : World) → IsTameWorld world → Keeps (property.changed change world)
unfolding property.changed
changed_keeps change world is = by_store_keeps change world (refusal change world.store) is

-- ---- lines on properties
declare_keeps : (name kind text : List ℕ) (world : World) → IsTameWorld world
    → Keeps (property.declare name kind text world)
unfolding property.declare
declare_keeps name kind text world is =
    then_keeps (or_word word.Value (value_at (property.kind_named kind) text)) _ (λ value.
    unless_keeps (is_some (lookup (bytes_eq name) world.names.free)) word.Exists _
    (unless_keeps (property.has_no_room world) word.Full _
    (record { written = is.written; actions = is.actions })))

set_keeps : (path : List (List ℕ)) (text : List ℕ) (world : World) → IsTameWorld world
    → Keeps (property.set path text world)
unfolding property.set
set_keeps path text world is =
    then_keeps (find world path) _ (λ name.
    unless_keeps (read_only_in world.store.entries name.0) word.ReadOnly _
    (then_keeps (or_word word.Value (value_at (kind_at world.store.entries name.0) text)) _
    (λ value. changed_keeps (Set name value) world is)))

get_keeps : (path : List (List ℕ)) (world : World) → IsTameWorld world → Keeps (property.get path world)
unfolding property.get
get_keeps path world is =
    then_keeps (find world path) _ (λ name. record { written = is.written; actions = is.actions })

bind_keeps : (path : List (List ℕ)) (expression : Expression) (world : World) → IsTameWorld world
    → Keeps (property.bind path expression world)
unfolding property.bind property.bound
bind_keeps path expression world is =
    unless_keeps (not (is_within expression.meaning (length expression.paths))) word.Syntax _
    (then_keeps (both (find world path) (all (map (find world) expression.paths))) _
    (λ found. changed_keeps (Bind found.0 expression.meaning found.1) world is))

unbind_keeps : (path : List (List ℕ)) (world : World) → IsTameWorld world → Keeps (property.unbind path world)
unfolding property.unbind
unbind_keeps path world is = then_keeps (find world path) _ (λ name. changed_keeps (Unbind name) world is)

pair_keeps : (one other : List (List ℕ)) (world : World) → IsTameWorld world → Keeps (property.pair one other world)
unfolding property.pair
pair_keeps one other world is =
    then_keeps (both (find world one) (find world other)) _
    (λ found. changed_keeps (Pair found.0 found.1) world is)

unpair_keeps : (one other : List (List ℕ)) (world : World) → IsTameWorld world
    → Keeps (property.unpair one other world)
unfolding property.unpair
unpair_keeps one other world is =
    then_keeps (both (find world one) (find world other)) _
    (λ found. changed_keeps (Unpair found.0 found.1) world is)

-- ---- lines on owners and listeners
own_keeps : (slot : ℕ) (label : List ℕ) (world : World) → IsTameWorld world → Keeps (listening.own slot label world)
unfolding listening.own
own_keeps slot label world is =
    unless_keeps (listening.has_living_owner world label) word.Exists _
    (unless_keeps (is_some (owner_refusal world.store.owners)) word.Full _
    (record { written = is.written; actions = is.actions }))

release_keeps : (label : List ℕ) (world : World) → IsTameWorld world → Keeps (listening.release label world)
unfolding listening.release
release_keeps label world is =
    then_keeps (or_word word.Unknown (lookup (bytes_eq label) world.names.labels)) _ (λ owner.
    unless_keeps (not (has_life world.store.owners.living (Some owner))) word.Stale _ (stored_tame _ world is))

listen_keeps : (kind : List ℕ) (path : List (List ℕ)) (action label : Option (List ℕ)) (world : World)
    → IsOnePath path → IsTameWorld world → Keeps (listening.listen kind path action label world)
unfolding listening.listen
listen_keeps kind path action label world one is =
    then_keeps (listening.find_both world path label) _ (λ found.
    then_taken _ _ (changed_keeps _ world is) (λ t tame.
    record {
      written = All-push (λ (entry : ℕ × List (List ℕ)). IsOnePath entry.1) t.world.names.written
          (world.store.given + 1, path) tame.written one;
      actions = tame.actions;
    }))

unlisten_keeps : (kind : List ℕ) (path : List (List ℕ)) (action label : Option (List ℕ)) (world : World)
    → IsTameWorld world → Keeps (listening.unlisten kind path action label world)
unfolding listening.unlisten
unlisten_keeps kind path action label world is =
    then_keeps (listening.find_both world path label) _ (λ found. changed_keeps _ world is)

-- ---- lines on nodes
new_keeps : (slot : ℕ) (name path : List ℕ) (world : World) → IsTameWorld world
    → Keeps (nodes.new slot name path world)
unfolding nodes.new nodes.with_node
new_keeps slot name path world is =
    then_keeps (or_word word.Value (nodes.node_class name)) _ (λ class.
    unless_keeps (is_some (node_at world.graph.paths (path ∷ []))) word.Exists _
    (unless_keeps (nodes.has_no_room class world) word.Full _
    (record { written = is.written; actions = is.actions })))

pub by_tree_keeps : (error : Option TreeError) (graph : Graph) (world : World) → IsTameWorld world
    → Keeps (nodes.by_tree error graph world)
by_tree_keeps None graph world is = record { written = is.written; actions = is.actions }
by_tree_keeps (Some error) graph world is = tt

attach_keeps : (parent child : List (List ℕ)) (place : List ℕ) (world : World) → IsTameWorld world
    → Keeps (nodes.attach parent child place world)
unfolding nodes.attach
attach_keeps parent child place world is =
    then_keeps (both (find_node world parent) (find_node world child)) _ (λ found. by_tree_keeps _ _ world is)

detach_keeps : (path : List (List ℕ)) (world : World) → IsTameWorld world → Keeps (nodes.detach path world)
unfolding nodes.detach
detach_keeps path world is = then_keeps (find_node world path) _ (λ key. by_tree_keeps _ _ world is)

forgotten_keeps : (key : NodeKey) (keys : List NodeKey) (world : World) → IsTameWorld world
    → Keeps (nodes.forgotten key keys world)
forgotten_keeps key keys world is =
    unless_keeps (is_read_outside (nodes.properties_of_all world.graph.table keys) world.store.entries) word.Used _
    (record {
      written = All-filter _ (λ (entry : ℕ × List (List ℕ)). IsOnePath entry.1) world.names.written is.written;
      actions = is.actions;
    })

drop_keeps : (path : List (List ℕ)) (world : World) → IsTameWorld world → Keeps (nodes.drop path world)
unfolding nodes.drop
drop_keeps path world is =
    then_keeps (find_node world path) _ (λ key. by (drop_refusal world.graph.tree key) key)
  where
    by : (error : Option TreeError) (key : NodeKey) → Keeps (nodes.drop_by error key world)
    by (Some error) key = tt
    by None key = forgotten_keeps key _ world is

-- ---- lines on what a node has of its own
class_keeps : (path : List (List ℕ)) (name : List ℕ) (world : World) → IsTameWorld world
    → Keeps (dressing.class path name world)
unfolding dressing.class
class_keeps path name world is =
    then_keeps (find_node world path) _ (λ key.
    unless_keeps (dressing.is_full_of_classes world.graph.table key) word.Full _
    (record { written = is.written; actions = is.actions }))

unclass_keeps : (path : List (List ℕ)) (name : List ℕ) (world : World) → IsTameWorld world
    → Keeps (dressing.unclass path name world)
unfolding dressing.unclass
unclass_keeps path name world is =
    then_keeps (find_node world path) _ (λ key. record { written = is.written; actions = is.actions })

style_keeps : (path : List (List ℕ)) (text : List ℕ) (world : World) → IsTameWorld world
    → Keeps (dressing.style path text world)
unfolding dressing.style
style_keeps path text world is =
    then_keeps (find_node world path) _ (λ key.
    unless_keeps (dressing.is_past_limit text) word.Full _ (record { written = is.written; actions = is.actions }))

pseudo_keeps : (path : List (List ℕ)) (name state : List ℕ) (world : World) → IsTameWorld world
    → Keeps (dressing.pseudo path name state world)
unfolding dressing.pseudo
pseudo_keeps path name state world is =
    then_keeps (find_node world path) _ (λ key.
    unless_keeps (has_word dressing.own_pseudos name) word.ReadOnly _
    (if_keeps (dressing.is_on state) _ _
    (unless_keeps (dressing.is_full_of_pseudos world.graph.table key name) word.Full _
    (record { written = is.written; actions = is.actions }))
    (record { written = is.written; actions = is.actions })))

constrain_keeps : (path : List (List ℕ)) (name text : List ℕ) (world : World) → IsTameWorld world
    → Keeps (dressing.constrain path name text world)
unfolding dressing.constrain
constrain_keeps path name text world is =
    then_keeps (find_node world path) _ (λ key.
    then_keeps (or_word word.Property (constraint_named name)) _ (λ entry.
    then_keeps (or_word word.Value (dressing.constraint_edit name entry text)) _ (λ change.
    record { written = is.written; actions = is.actions })))

pub registered_keeps : (key : NodeKey) (new : Registration) (world : World) → IsTameWorld world
    → Keeps (dressing.registered key new world)
registered_keeps key new world is =
    unless_keeps (is_some (handler_refusal key new world.graph)) word.Full _
    (record { written = is.written; actions = is.actions })

handle_keeps : (phase : Phase) (path : List (List ℕ)) (name action : List ℕ) (world : World) → IsTameWorld world
    → Keeps (dressing.handle phase path name action world)
unfolding dressing.handle
handle_keeps phase path name action world is =
    then_keeps (find_node world path) _ (λ key.
    then_keeps (or_word word.Value (dressing.event_named name)) _ (λ on. registered_keeps key _ world is))

-- ---- the window, and actions
resize_keeps : (width height : List ℕ) (world : World) → IsTameWorld world → Keeps (resize width height world)
unfolding resize
resize_keeps width height world is =
    then_keeps (or_word word.Value (side_of width)) _ (λ w.
    then_keeps (or_word word.Value (side_of height)) _ (λ h.
    record { written = is.written; actions = is.actions }))

lines_tame : (lines : Requests) → AreTame lines → AreTameLines (lines_of lines)
lines_tame no_more are = All-nil IsTameLine
lines_tame (more number request lines) (here, rest) =
    All-cons IsTameLine (record { number = number; request = request }) (lines_of lines) here (lines_tame lines rest)

define_keeps : (name : List ℕ) (lines : Requests) (world : World) → AreTame lines → IsTameWorld world
    → Keeps (define name lines world)
unfolding define
define_keeps name lines world are is =
    unless_keeps (is_some (lookup (bytes_eq name) world.names.actions)) word.Exists _
    (record {
      written = is.written;
      actions = All-push (λ (entry : List ℕ × List Numbered). AreTameLines entry.1) world.names.actions
          (name, lines_of lines) is.actions (lines_tame lines are);
    })

-- ---- all of them
instructed_keeps : (slot : ℕ) (instruction : Instruction) (world : World) → IsTameInstruction instruction
    → IsTameWorld world → Keeps (instructed slot instruction world)
unfolding instructed
instructed_keeps slot (line.Prop name kind text) world one is = declare_keeps name kind text world is
instructed_keeps slot (line.Set path text) world one is = set_keeps path text world is
instructed_keeps slot (line.Get path) world one is = get_keeps path world is
instructed_keeps slot (line.Unbind path) world one is = unbind_keeps path world is
instructed_keeps slot (line.Pair a b) world one is = pair_keeps a b world is
instructed_keeps slot (line.Unpair a b) world one is = unpair_keeps a b world is
instructed_keeps slot (line.Owner label) world one is = own_keeps slot label world is
instructed_keeps slot (line.Release label) world one is = release_keeps label world is
instructed_keeps slot (line.Listen kind path label) world one is = listen_keeps kind path None label world one is
instructed_keeps slot (line.Unlisten kind path label) world one is = unlisten_keeps kind path None label world is
instructed_keeps slot (line.Watch kind path action label) world one is =
    listen_keeps kind path (Some action) label world one is
instructed_keeps slot (line.Unwatch kind path action label) world one is =
    unlisten_keeps kind path (Some action) label world is
instructed_keeps slot (line.New name path) world one is = new_keeps slot name path world is
instructed_keeps slot (line.Attach parent child place) world one is = attach_keeps parent child place world is
instructed_keeps slot (line.Detach path) world one is = detach_keeps path world is
instructed_keeps slot (line.Drop path) world one is = drop_keeps path world is
instructed_keeps slot (line.Class path name) world one is = class_keeps path name world is
instructed_keeps slot (line.Unclass path name) world one is = unclass_keeps path name world is
instructed_keeps slot (line.Style path text) world one is = style_keeps path text world is
instructed_keeps slot (line.Pseudo path name state) world one is = pseudo_keeps path name state world is
instructed_keeps slot (line.Constrain path name text) world one is = constrain_keeps path name text world is
instructed_keeps slot (line.Handle path name action) world one is =
    handle_keeps phase.Handler path name action world is
instructed_keeps slot (line.Filter path name action) world one is = handle_keeps phase.Filter path name action world is
instructed_keeps slot (line.Resize width height) world one is = resize_keeps width height world is
instructed_keeps slot other world one is = is

pub taken_keeps : (slot : ℕ) (request : Request) (world : World) → IsTame request → IsTameWorld world
    → Keeps (taken slot request world)
unfolding taken
taken_keeps slot (asks instruction) world one is = instructed_keeps slot instruction world one is
taken_keeps slot (binds path expression) world one is = bind_keeps path expression world is
taken_keeps slot (defines name lines) world one is = define_keeps name lines world one is
taken_keeps slot bad world one is = tt
