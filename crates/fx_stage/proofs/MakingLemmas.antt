-- A further node, and what is true of the world with it.
use Rattle.std.proofs.Common.{◌≡◌, ◌≤◌, ◌<◌, ◌+◌, ℕ, Bool, true, false, cond, ◌||◌, nat_lt, List, [], ◌++◌, Contains, length, get_or, map, Option, Some, None, Result, Ok, Err, IfOk, OnErr, Vec, ℤ, arith, refl, sym, ◌∙◌, ap, subst, inl, inr, true≢false}
use Rattle.std.proofs.lemmas.Bool.{cases_lt, lt-ltb}
use Rattle.std.proofs.lemmas.List.{get_or-append-add, get_or-map, get_or_append_left, length-map}
use Rattle.std.proofs.lemmas.List.FromFn.{get_or-range_with_len, length-range_with_len}
use Rattle.std.specs.FinMap.{get-insert, insert}
use Rattle.std.specs.Global.{Global}
use Rattle.std.specs.Map.{lookup}
use Rattle.std.specs.Ordering.{eq_by_cmp}
use Rattle.std.specs.Str.{bytes_eq}
use Rattle.fx_base.specs.Answers.{IsAnswer}
use Rattle.fx_base.specs.Printing.{kind_of}
use Rattle.fx_base.specs.declared.keys.Name.{Name}
use Rattle.fx_base.specs.declared.keys.NodeKey.{NodeKey}
use Rattle.fx_events.specs.Keyed.{key_cmp}
use Rattle.fx_events.proofs.Maps.{key_cmp_total}
use Rattle.fx_graph_model.specs.declared.entries.Entry.{Entry}
use Rattle.fx_graph_model.specs.Changes.{new_entry}
use Rattle.fx_graph_model.specs.Uses.{is_gone, nothing, unknown_in}
use Rattle.fx_graph_model.proofs.Changed.{known_within}
use Rattle.fx_handles.specs.declared.Owner.{Owner}
use Rattle.fx_kinds.specs.declared.classes.Class.{Class}
use Rattle.fx_kinds.specs.Properties.{PropertyRow, computed_row, listed, properties_of, rows_of}
use Rattle.fx_script_commands.specs.declared.commands.Line.{Line}
use Rattle.fx_stage_rows.proofs.RowLemmas.{all_more, passed}
use Rattle.fx_stage_rows.specs.Passed.{IsPassed}
use Rattle.fx_stage_types.specs.declared.answers.StageError.{StageError}
use Rattle.fx_stage_types.specs.declared.answers.StageError.TheVariants.{Memory, Refused}
use Rattle.fx_stage_types.specs.declared.refusals.Refusal.TheVariants as word
use Rattle.fx_store_model.specs.Stored.{Stored}
use Rattle.fx_stage_types.specs.Edits.{born_data}
use Rattle.fx_stage_types.specs.declared.node_data.NodeData.{NodeData}
use Rattle.fx_stage_types.specs.Tables.{NodeTable, data_of}
use Rattle.fx_stage_model.specs.Answers.{silently}
use Rattle.fx_stage_model.specs.Graphs.{Graph, is_full_of_nodes, make_refusal, with_born, with_path}
use Rattle.fx_stage_model.specs.Looking.{properties_in}
use Rattle.fx_stage_model.specs.Nodes.{next_key, with_name, with_node, with_rows}
use Rattle.fx_stage_model.specs.Sound.{IsSound}
use Rattle.fx_stage_model.specs.Taking.{IsBuilt, IsPassedOver, IsTaken}
use Rattle.fx_stage_model.specs.World.{World}
use Rattle.fx_script_commands.specs.Requests.{Numbered}
use Rattle.fx_stage.specs.Kept.{seen}
use Rattle.fx_stage_words.specs.Told.{key_as, made_as}
use Rattle.fx_stage.proofs.HeadLemmas.{key_equal}
use Rattle.fx_stage.proofs.SoundLemmas.{sound_kept}

abbrev pub row_entry : Class → PropertyRow → Entry
row_entry class row = new_entry (kind_of (row.initial class)) row.read_only (row.initial class)

-- the entries of a class's rows
abbrev pub class_entries : Class → List Entry
class_entries class = map (row_entry class) (rows_of class)

entries_there : (class : Class) (i : ℕ) → i < length (class_entries class)
    → is_gone (get_or (class_entries class) i nothing).definition ≡ false
entries_there class i within =
    let long = length-map (rows_of class) (row_entry class) in
    ap (λ (e : Entry). is_gone e.definition)
    (get_or-map (row_entry class) (rows_of class) i (computed_row []) nothing (omega (arith, within, long)))

as_many : (class : Class) → length (class_entries class) ≡ length (properties_of class)
as_many class = length-map (rows_of class) (row_entry class) ∙ sym (length-map (rows_of class) listed)

module _ (es : List Entry) (table : NodeTable) (free : List (List ℕ × Name)) (key : NodeKey) (class : Class)
    (small : length es ≤ 4000000) (sound : IsSound es table free) where
  abbrev others : List Entry
  others = class_entries class

  abbrev born : NodeData
  born = born_data class (length es)

  found : (q : NodeKey) → data_of (insert table key born) q ≡ cond (eq_by_cmp key_cmp q key) (Some born) (data_of table q)
  found q = get-insert key_cmp_total table key born q

  known_still : (name : ℕ) → unknown_in es name ≡ false → unknown_in (es ++ others) name ≡ false
  known_still name known =
      ap (λ (e : Entry). is_gone e.definition) (get_or_append_left es others nothing name (known_within es name known)) ∙ known

  new_at : (name : ℕ) (has : Contains (properties_in (Some born)) name) → name ≡ length es + has.0
  new_at name has =
      let count = length-range_with_len (length es) (length (properties_of class)) in
      sym has.2 ∙ get_or-range_with_len (length es) (length (properties_of class)) has.0 name (omega (arith, has.1, count))

  new_known : (name : ℕ) → Contains (properties_in (Some born)) name → unknown_in (es ++ others) name ≡ false
  new_known name has =
      let count = length-range_with_len (length es) (length (properties_of class)) in
      subst (λ (n : ℕ). unknown_in (es ++ others) n ≡ false) (sym (new_at name has))
      (ap (λ (e : Entry). is_gone e.definition) (get_or-append-add es others has.0 nothing)
      ∙ entries_there class has.0 (omega (arith, has.1, count, as_many class)))

  not_old : (name : ℕ) → Contains (properties_in (Some born)) name → unknown_in es name ≡ false → ⊥
  not_old name has known =
      let at = new_at name has in
      let below = known_within es name known in
      omega (arith, at, below)

  owned : (q : NodeKey) (name : ℕ) → Contains (properties_in (data_of (insert table key born) q)) name
      → unknown_in (es ++ others) name ≡ false
  owned q name has =
      by_key (eq_by_cmp key_cmp q key) (subst (λ (o : Option NodeData). Contains (properties_in o) name) (found q) has)
    where
      by_key : (b : Bool) → Contains (properties_in (cond b (Some born) (data_of table q))) name
          → unknown_in (es ++ others) name ≡ false
      by_key true h = new_known name h
      by_key false h = known_still name (sound.owned q name h)

  apart : (one other : NodeKey) (name : ℕ) → Contains (properties_in (data_of (insert table key born) one)) name
      → Contains (properties_in (data_of (insert table key born) other)) name → one ≡ other
  apart one other name here there =
      by_keys (eq_by_cmp key_cmp one key) (eq_by_cmp key_cmp other key) refl refl
      (subst (λ (o : Option NodeData). Contains (properties_in o) name) (found one) here)
      (subst (λ (o : Option NodeData). Contains (properties_in o) name) (found other) there)
    where
      by_keys : (b c : Bool) → eq_by_cmp key_cmp one key ≡ b → eq_by_cmp key_cmp other key ≡ c
          → Contains (properties_in (cond b (Some born) (data_of table one))) name
          → Contains (properties_in (cond c (Some born) (data_of table other))) name → one ≡ other
      by_keys true true p q h k = key_equal one key p ∙ sym (key_equal other key q)
      by_keys true false p q h k = absurd (not_old name h (sound.owned other name k))
      by_keys false true p q h k = absurd (not_old name k (sound.owned one name h))
      by_keys false false p q h k = sound.apart one other name h k

  low : (q : NodeKey) (node : NodeData) → data_of (insert table key born) q ≡ Some node → node.first ≤ 4000000
  low q node is = by_key (eq_by_cmp key_cmp q key) (sym (found q) ∙ is)
    where
      given : (a b : NodeData) → ◌≡◌ {A = Option NodeData} (Some a) (Some b) → a ≡ b
      given a b e = cc

      by_key : (b : Bool) → cond b (Some born) (data_of table q) ≡ Some node → node.first ≤ 4000000
      by_key true e = subst (λ (n : NodeData). n.first ≤ 4000000) (given born node e) small
      by_key false e = sound.low q node e

  unowned : (name : List ℕ) (property : Name) (q : NodeKey) → lookup (bytes_eq name) free ≡ Some property
      → Contains (properties_in (data_of (insert table key born) q)) property.0 → ⊥
  unowned name property q is has =
      by_key (eq_by_cmp key_cmp q key) (subst (λ (o : Option NodeData). Contains (properties_in o) property.0) (found q) has)
    where
      by_key : (b : Bool) → Contains (properties_in (cond b (Some born) (data_of table q))) property.0 → ⊥
      by_key true h = not_old property.0 h (sound.declared name property is)
      by_key false h = sound.unowned name property q is h

  pub sound_made : IsSound (es ++ others) (insert table key born) free
  sound_made = record {
    owned = owned;
    apart = apart;
    low = low;
    declared = λ name property is. known_still property.0 (sound.declared name property is);
    unowned = unowned;
  }

-- there is room for the rows of a class, and for a node
pub room_of : (full : Bool) (count rows : ℕ) → (full || nat_lt 4000000 (count + rows)) ≡ false
    → (full ≡ false) × (count + rows ≤ 4000000)
room_of true count rows e = absurd (true≢false e)
room_of false count rows e = (
  refl,
  elim (cases_lt 4000000 (count + rows)) [
    | inl over ↦ absurd (true≢false (sym (lt-ltb 4000000 (count + rows) over) ∙ e))
    | inr within ↦ within
  ],
)

-- numbers of names that nobody has

pub given_passed : (before now : Stored) → IsPassed before now → now.given ≡ before.given
given_passed before now p = ap (λ (s : Stored). s.given) p.rest

pub sound_passed : (before now : Stored) (table : NodeTable) (free : List (List ℕ × Name)) → IsPassed before now
    → IsSound before.entries table free → IsSound now.entries table free
sound_passed before now table free p sound =
    sound_kept before.entries now.entries table free
    (λ name known.
    ap (λ (s : Stored). unknown_in s.entries name) p.rest
    ∙ ap (λ (e : Entry). is_gone e.definition)
    (get_or_append_left before.entries p.others nothing name (known_within before.entries name known))
    ∙ known)
    sound

-- a node that is made, or for which memory is wanting
module _ (class : Class) (before now : Stored) (first : ℕ) (graph after : Graph) (made : NodeKey → Graph)
    (free : List (List ℕ × Name)) (rows_is : now ≡ with_rows class (rows_of class) before)
    (first_is : first ≡ length before.entries) where
  passed_over : IsPassed before now
  passed_over = passed class (rows_of class) before now rows_is

  entries_are : now.entries ≡ before.entries ++ class_entries class
  entries_are = ap (λ (s : Stored). s.entries) (rows_is ∙ all_more class (rows_of class) before)

  pub sound_answer : (answer : Result NodeKey StageError) → length before.entries ≤ 4000000
      → ((key : NodeKey) → (made key).table ≡ insert graph.table key (born_data class first))
      → IfOk answer (λ (key : NodeKey). after ≡ made key) → OnErr answer (after ≡ graph)
      → IsSound before.entries graph.table free → IsSound now.entries after.table free
  sound_answer (Ok key) small table_is ok err sound =
      subst (λ (es : List Entry). IsSound es after.table free) (sym entries_are)
      (subst (λ (t : NodeTable). IsSound (before.entries ++ class_entries class) t free)
      (sym
      (ap (λ (g : Graph). g.table) ok ∙ table_is key ∙ ap (λ (n : ℕ). insert graph.table key (born_data class n)) first_is))
      (sound_made before.entries graph.table free key class small sound))
  sound_answer (Err error) small table_is ok err sound =
      subst (λ (g : Graph). IsSound now.entries g.table free) (sym err)
      (sound_passed before now graph.table free passed_over sound)

  module _ (labels : List (List ℕ × Owner)) (actions : List (List ℕ × List Numbered)) (run : List (List ℕ))
      (ws : List (ℕ × List (List ℕ))) (pointer : Option (ℤ × ℤ)) (button : Bool) (window : Option (ℕ × ℕ)) where
    abbrev shown : Stored → Graph → World
    shown store g = seen store g free labels actions run ws pointer button window

    view_made : (key : NodeKey) → after ≡ made key
        → shown now after ≡ record (shown before graph) { store = with_rows class (rows_of class) before; graph = made key }
    view_made key is =
        ap (shown now) is
        ∙ ap (λ (s : Stored). shown s (made key)) passed_over.rest
        ∙ ap (λ (s : Stored). record (shown before graph) { store = s; graph = made key }) (sym passed_over.rest ∙ rows_is)

    pub view_passed : after ≡ graph → IsPassedOver (shown before graph) (shown now after)
    view_passed is = record {
      others = passed_over.others;
      rest = ap (shown now) is ∙ ap (λ (s : Stored). shown s graph) passed_over.rest;
    }

    wanting : (error : StageError) → make_refusal graph ≡ None → IsAnswer {T = NodeKey} Memory (make_refusal graph) (Err error)
        → error ≡ Memory
    wanting error room answer = subst (λ (o : Option StageError). IsAnswer {T = NodeKey} Memory o (Err error)) room answer

    pub taken_named : (path : List (List ℕ)) (answer : Result NodeKey StageError)
        → ((key : NodeKey) → made key ≡ with_path path key (with_born class first key graph))
        → make_refusal graph ≡ None → IsAnswer Memory (make_refusal graph) answer
        → IfOk answer (λ (key : NodeKey). key.birth ≡ graph.tree.born + 1)
        → IfOk answer (λ (key : NodeKey). after ≡ made key) → OnErr answer (after ≡ graph)
        → (slot : ℕ) × IsTaken
        (silently
        (with_name path (next_key slot (shown before graph)) (with_node class (next_key slot (shown before graph)) (shown before graph))))
        (shown before graph) (shown now after) (made_as answer)
    unfolding with_node
    taken_named path (Ok key) made_is room answer birth ok err =
        let w = shown before graph in
        let graph_at : ℕ → NodeKey → World = λ n k.
        record w { store = with_rows class (rows_of class) before; graph = with_path path k (with_born class n k graph) } in (
          key.slot,
          (
            view_made key ok
                ∙ ap (λ (g : Graph). record w { store = with_rows class (rows_of class) before; graph = g }) (made_is key)
                ∙ ap (λ (n : ℕ). graph_at n key) first_is
                ∙ ap (λ (n : ℕ). graph_at (length before.entries) (record { slot = key.slot; birth = n })) birth,
            refl,
          ),
        )
    taken_named path (Err error) made_is room answer birth ok err = (0, (wanting error room answer, inr (view_passed err)))

    pub built_node : (answer : Result NodeKey StageError)
        → ((key : NodeKey) → made key ≡ with_born class first key graph)
        → make_refusal graph ≡ None → IsAnswer Memory (make_refusal graph) answer
        → IfOk answer (λ (key : NodeKey). key.birth ≡ graph.tree.born + 1)
        → IfOk answer (λ (key : NodeKey). after ≡ made key) → OnErr answer (after ≡ graph)
        → (slot : ℕ) × IsBuilt (silently (with_node class (next_key slot (shown before graph)) (shown before graph)))
        (Some (next_key slot (shown before graph))) (shown before graph) (shown now after) (key_as answer)
    unfolding with_node
    built_node (Ok key) made_is room answer birth ok err =
        let w = shown before graph in
        let graph_at : ℕ → NodeKey → World = λ n k.
        record w { store = with_rows class (rows_of class) before; graph = with_born class n k graph } in (
          key.slot,
          (
            view_made key ok
                ∙ ap (λ (g : Graph). record w { store = with_rows class (rows_of class) before; graph = g }) (made_is key)
                ∙ ap (λ (n : ℕ). graph_at n key) first_is
                ∙ ap (λ (n : ℕ). graph_at (length before.entries) (record { slot = key.slot; birth = n })) birth,
            ap (λ (n : ℕ). Some (record { slot = key.slot; birth = n })) birth,
          ),
        )
    built_node (Err error) made_is room answer birth ok err = (0, (wanting error room answer, inr (view_passed err)))

-- where there is room the graph isn't full
pub none_refused : (graph : Graph) → is_full_of_nodes graph ≡ false → make_refusal graph ≡ None
none_refused graph room = ap (λ (b : Bool). cond b (Some (Refused word.Full)) None) room
