-- Nodes that end, with their properties.
use Rattle.std.proofs.Common.{◌≡◌, ◌≢◌, ◌⊎◌, ◌<◌, ◌≤◌, ◌+◌, ◌++◌, ◌==◌, ◌||◌, ℕ, suc, Bool, true, false, cond, not, List, [], ◌∷◌, Contains, arith, filter, get_or, length, map, slice_get, take, Option, Some, None, Result, Ok, Err, OnOk, IfErr, is_some, refl, sym, ◌∙◌, ap, subst, inl, inr, true≢false}
use Rattle.std.specs.FinMap as map_of
use Rattle.std.specs.Cmp.{eq_by_cmp_equiv}
use Rattle.std.specs.FinMap.{get-remove}
use Rattle.std.specs.List.{flat_map, list_any}
use Rattle.std.specs.Ordering.{eq_by_cmp}
use Rattle.std.specs.Result.{is_ok}
use Rattle.std.proofs.lemmas.List.{append-nil, map-append}
use Rattle.std.proofs.lemmas.Grind.{flat_map-append}
use Rattle.std.proofs.Math.Seq.{take-suc}
use Rattle.std.proofs.lemmas.List.Folds.{list_any-append}
use Rattle.fx_base.specs.Names.{name_of, numbers}
use Rattle.fx_base.specs.declared.keys.Name.{Name}
use Rattle.fx_base.specs.declared.keys.NodeKey.{NodeKey}
use Rattle.fx_events.specs.Keyed.{key_cmp}
use Rattle.fx_events.proofs.Maps.{key_cmp_total}
use Rattle.fx_graph_model.specs.declared.entries.Entry.{Entry}
use Rattle.fx_graph_model.specs.declared.errors.GraphError.{GraphError}
use Rattle.fx_graph_model.specs.declared.errors.GraphError.TheVariants as graph
use Rattle.fx_graph_model.specs.Refusals.{IsForgetRefusal, unknown_name}
use Rattle.fx_graph_model.specs.Unread.{after_marking}
use Rattle.fx_graph_model.specs.Uses.{is_gone, unknown_in}
use Rattle.fx_graph_model.proofs.Marks.{marking_none}
use Rattle.fx_listen.specs.declared.entries.Listener.{Listener}
use Rattle.fx_store_model.specs.Applied.{Applied}
use Rattle.fx_store_model.specs.Causes.{of_graph}
use Rattle.fx_store_model.specs.declared.changes.Change.{Change}
use Rattle.fx_store_model.specs.declared.changes.Change.TheVariants.{Forget}
use Rattle.fx_store_model.specs.declared.changes.Notices.{Notices}
use Rattle.fx_store_model.specs.declared.errors.StoreError.{StoreError}
use Rattle.fx_store_model.specs.declared.errors.StoreError.TheVariants as store
use Rattle.fx_store_model.specs.Laws.{LosesNames}
use Rattle.fx_store_model.specs.Making.{changed_by, made}
use Rattle.fx_store_model.specs.Refusals.{IsAllowed, is_read_outside}
use Rattle.fx_store_model.specs.Step.{IsReadSome as IsReadSomeIn, IsUnfinished as IsStoreUnfinished, after, before_reads}
use Rattle.fx_store_model.specs.Stored.{Stored, with_unread}
use Rattle.fx_store_model.proofs.Leaving.{loses_names, memory_or_not}
use Rattle.fx_store_model.proofs.Readers.{among_from, among_in, outside_found, outside_none}
use Rattle.fx_tree.specs.declared.TreeError.{TreeError}
use Rattle.fx_tree.specs.declared.TreeError.TheVariants as tree
use Rattle.fx_tree.specs.Refusals.{IsExactAnswer, drop_refusal, is_held, refused as refused_tree, stale}
use Rattle.fx_tree.specs.Scene.{Scene, is_alive, parent_of}
use Rattle.fx_stage_types.specs.declared.answers.StageError.TheVariants.{Memory}
use Rattle.fx_stage_types.specs.declared.node_data.NodeData.{NodeData}
use Rattle.fx_stage_types.specs.declared.refusals.Refusal.{Refusal}
use Rattle.fx_stage_types.specs.declared.refusals.Refusal.TheVariants as word
use Rattle.fx_stage_types.specs.Tables.{NodeTable, data_of, without_data}
use Rattle.fx_stage_types.specs.Words.{of_store, of_tree}
use Rattle.fx_stage_model.specs.Answers.{Taken, cost_of, unless}
use Rattle.fx_stage_model.specs.Graphs.{Graph, dropped}
use Rattle.fx_stage_model.specs.Looking.{properties_in}
use Rattle.fx_stage_model.specs.Nodes.{forgotten, names_of_all, properties_of_all, without_nodes}
use Rattle.fx_stage_model.specs.Sound.{IsSound}
use Rattle.fx_stage_model.specs.Taking.{IsTaken, IsUnfinished}
use Rattle.fx_stage_model.specs.World.{World, still_written, with_graph, with_store}
use Rattle.fx_stage_parts.specs.Dropping.{are_gone, dropped_if}
use Rattle.fx_stage_words.specs.Told.{told_as}
use Rattle.fx_stage.proofs.TakingLemmas.{IsSettled, IsTidy}

in_none : (name : ℕ) → Contains [] name → ⊥
in_none name there = omega (arith, there.1)

none_is : (o : Option NodeData) (node : NodeData) → o ≡ None → o ≡ Some node → ⊥
none_is o node none some = cc

-- the name is one of these
abbrev is_among : List ℕ → ℕ → Bool
is_among names name = list_any (λ (other : ℕ). other == name) names

-- numbers that are made names are the same numbers
pub numbers_named : (ns : List ℕ) → numbers (map name_of ns) ≡ ns
numbers_named [] = refl
numbers_named (n ∷ ns) = ap (λ (rest : List ℕ). n ∷ rest) (numbers_named ns)

-- the key is one of these
abbrev pub IsKey : NodeKey → List NodeKey → Type 0
IsKey key [] = ⊥
IsKey key (other ∷ others) = (key ≡ other) ⊎ IsKey key others

-- nothing is left of the nodes that end, and all is left of the others
abbrev pub IsLeft : List NodeKey → NodeTable → NodeTable → NodeKey → Type 0
IsLeft keys before now key = (data_of now key ≡ None) ⊎ ((data_of now key ≡ data_of before key) × (IsKey key keys → ⊥))

pub data_left : (keys : List NodeKey) (table : NodeTable) (key : NodeKey) → IsLeft keys table (without_data keys table) key
data_left [] table key = inr (refl, λ is. is)
data_left (gone ∷ keys) table key =
    by_test (eq_by_cmp key_cmp key gone) refl (data_left keys (map_of.remove table gone) key)
  where
    by_test : (b : Bool) → eq_by_cmp key_cmp key gone ≡ b
        → IsLeft keys (map_of.remove table gone) (without_data keys (map_of.remove table gone)) key
        → IsLeft (gone ∷ keys) table (without_data keys (map_of.remove table gone)) key
    by_test b e (inl none) = inl none
    by_test true e (inr left) =
        inl (left.0 ∙ get-remove key_cmp_total table gone key ∙ ap (λ (b : Bool). cond b None (data_of table key)) e)
    by_test false e (inr left) =
        inr (
          left.0 ∙ get-remove key_cmp_total table gone key ∙ ap (λ (b : Bool). cond b None (data_of table key)) e,
          λ is.
              elim is [
                | inl same ↦ true≢false
                    (sym (ap (λ (k : NodeKey). eq_by_cmp key_cmp k gone) same ∙ (eq_by_cmp_equiv key_cmp_total).refl gone) ∙ e)
                | inr among ↦ left.1 among
              ],
        )

-- a property of these nodes is one node's
pub found_in : (table : NodeTable) (keys : List NodeKey) (name : ℕ) → is_among (properties_of_all table keys) name ≡ true
    → (key : NodeKey) × IsKey key keys × Contains (properties_in (data_of table key)) name
found_in table [] name e = absurd (true≢false (sym e))
found_in table (key ∷ keys) name e =
    by_test (is_among (properties_in (data_of table key)) name) refl
    (sym (list_any-append (λ (other : ℕ). other == name) (properties_in (data_of table key)) (properties_of_all table keys)) ∙ e)
    (found_in table keys name)
  where
    by_test : (b : Bool) → is_among (properties_in (data_of table key)) name ≡ b
        → (b || is_among (properties_of_all table keys) name) ≡ true
        → (is_among (properties_of_all table keys) name ≡ true
        → (other : NodeKey) × IsKey other keys × Contains (properties_in (data_of table other)) name)
        → (other : NodeKey) × IsKey other (key ∷ keys) × Contains (properties_in (data_of table other)) name
    by_test true here either more = (key, inl refl, among_in (properties_in (data_of table key)) name here)
    by_test false here either more = let found = more either in (found.0, inr found.1, found.2)

module _ (before : List Entry) (table : NodeTable) (free : List (List ℕ × Name)) (keys : List NodeKey) (sound : IsSound before table free) where
  abbrev gone_names : List ℕ
  gone_names = properties_of_all table keys

  pub all_known : (name : ℕ) → is_among gone_names name ≡ true → unknown_in before name ≡ false
  all_known name e = let found = found_in table keys name e in sound.owned found.0 name found.2

  -- names that are told apart from the ones that are gone
  still_known : (now : List Entry) (name : ℕ) → LosesNames gone_names before now → unknown_in before name ≡ false
      → (is_among gone_names name ≡ true → ⊥) → unknown_in now name ≡ false
  still_known now name loses known apart = by_test (is_among gone_names name) refl
    where
      by_test : (b : Bool) → is_among gone_names name ≡ b → unknown_in now name ≡ false
      by_test true e = absurd (apart e)
      by_test false e = ap (λ (entry : Entry). is_gone entry.definition) (loses.others name e) ∙ known

  abbrev left_table : NodeTable
  left_table = without_data keys table

  -- of a node that has a property, all is left
  kept_of : (key : NodeKey) (name : ℕ) → Contains (properties_in (data_of left_table key)) name
      → (data_of left_table key ≡ data_of table key) × (IsKey key keys → ⊥)
  kept_of key name there =
      elim (data_left keys table key) [
        | inl none ↦ absurd (in_none name (subst (λ (o : Option NodeData). Contains (properties_in o) name) none there))
        | inr left ↦ left
      ]

  before_there : (key : NodeKey) (name : ℕ) → Contains (properties_in (data_of left_table key)) name
      → Contains (properties_in (data_of table key)) name
  before_there key name there =
      subst (λ (o : Option NodeData). Contains (properties_in o) name) (kept_of key name there).0 there

  pub sound_dropped : (now : List Entry) → LosesNames gone_names before now → IsSound now left_table free
  sound_dropped now loses = record {
    owned = λ key name there.
        still_known now name loses (sound.owned key name (before_there key name there))
        (λ e.
        let found = found_in table keys name e in
        (kept_of key name there).1
        (subst (λ (k : NodeKey). IsKey k keys) (sound.apart found.0 key name found.2 (before_there key name there)) found.1));
    apart = λ one other name here there. sound.apart one other name (before_there one name here) (before_there other name there);
    low = λ key node is.
        elim (data_left keys table key) [
          | inl none ↦ absurd (none_is (data_of left_table key) node none is)
          | inr left ↦ sound.low key node (sym left.0 ∙ is)
        ];
    declared = λ name property is.
        still_known now property.0 loses (sound.declared name property is)
        (λ e. let found = found_in table keys property.0 e in sound.unowned name property found.0 is found.2);
    unowned = λ name property key is there. sound.unowned name property key is (before_there key property.0 there);
  }

none_unknown : (entries : List Entry) (ns : List ℕ) → ((name : ℕ) → is_among ns name ≡ true → unknown_in entries name ≡ false)
    → unknown_name entries (map name_of ns) ≡ None
none_unknown entries [] known = refl
none_unknown entries (n ∷ ns) known =
    ap (λ (b : Bool). cond b (Some (graph.Unknown (name_of n))) (unknown_name entries (map name_of ns)))
    (known n (among_from (n ∷ ns) n (0, omega arith, refl)))
    ∙ none_unknown entries ns (λ name e. known name (later (n == name) (is_among ns name) e))
  where
    later : (a b : Bool) → b ≡ true → (a || b) ≡ true
    later true b e = refl
    later false b e = e

-- where no name is forgotten, nothing changes

pairs_none : (ps : List (ℕ × ℕ)) → filter (λ (pair : ℕ × ℕ). not (is_among [] pair.0 || is_among [] pair.1)) ps ≡ ps
pairs_none [] = refl
pairs_none (p ∷ ps) = ap (λ (rest : List (ℕ × ℕ)). p ∷ rest) (pairs_none ps)

listeners_none : (ls : List Listener) → filter (λ (listener : Listener). not (is_among [] listener.name.0)) ls ≡ ls
listeners_none [] = refl
listeners_none (l ∷ ls) = ap (λ (rest : List Listener). l ∷ rest) (listeners_none ls)

nothing_made : (s : Stored) → made (Forget []) s ≡ s
unfolding made
nothing_made s =
    ap
    (λ (ps : List (ℕ × ℕ)).
    record s { pairs = ps; listeners = filter (λ (listener : Listener). not (is_among [] listener.name.0)) s.listeners })
    (pairs_none s.pairs)
    ∙ ap (λ (ls : List Listener). record s { listeners = ls }) (listeners_none s.listeners)

nothing_changed : (s : Stored) → before_reads (Forget []) s ≡ s
unfolding before_reads changed_by
nothing_changed s =
    ap (λ (m : Stored). with_unread (after_marking m.entries [] m.unread) m) (nothing_made s)
    ∙ ap (λ (u : List Bool). with_unread u s) (marking_none s.entries s.unread)

-- the change is wholly made, or nothing is changed, but for what is read
abbrev pub IsMade : Change → Stored → Stored → Bool → Type 0
IsMade change before now true = now ≡ with_unread now.unread (made change before)
IsMade change before now false = now ≡ with_unread now.unread before

-- the same where memory was wanting
abbrev pub IsShort : Change → Stored → Stored → Bool → Type 0
IsShort change before now true = IsAllowed change before × IsReadSomeIn (before_reads change before) now
IsShort change before now false = IsReadSomeIn before now

-- what is known of an answer, where it was found out whether the change was made
pub record Found (change : Change) (before now : Stored) (gone : Bool) (result : Result Notices StoreError) : Type 0 where
  pub is_made : IsMade change before now gone
  pub ok : OnOk result (gone ≡ true)
  pub refused : IfErr result (λ (cause : StoreError). cause ≢ store.Memory → gone ≡ false)
  pub memory : result ≡ Err store.Memory → IsShort change before now gone

pub settled_by : (change : Change) (before now : Stored) (gone : Bool) → IsMade change before now gone → IsSettled change before now
settled_by change before now true is = inr is
settled_by change before now false is = inl is

module _ (change : Change) (before now : Stored) (looked counted : ℕ) where
  read_apart : (base : Stored) (unread : List Bool) → now ≡ with_unread unread base → now ≡ with_unread now.unread base
  read_apart base unread is = is ∙ ap (λ (u : List Bool). with_unread u base) (sym (ap (λ (s : Stored). s.unread) is))

  given : (one other : StoreError) → ◌≡◌ {A = Result Notices StoreError} (Err one) (Err other) → one ≡ other
  given one other e = cc

  found_done : (notices : Notices) → Applied change before now (Ok notices) looked counted → Found change before now true (Ok notices)
  unfolding before_reads
  found_done notices a = record {
    is_made = read_apart (made change before) (after change before).unread a.ok;
    ok = refl;
    refused = tt;
    memory = λ is. absurd (cc);
  }

  found_not : (cause : StoreError) → IsReadSomeIn before now → Found change before now false (Err cause)
  found_not cause some = record { is_made = some.rest; ok = tt; refused = λ other. refl; memory = λ is. some }

  found_short : (cause : StoreError) → cause ≡ store.Memory → IsAllowed change before × IsReadSomeIn (before_reads change before) now
      → Found change before now true (Err cause)
  unfolding before_reads
  found_short cause wanting some = record {
    is_made = read_apart (made change before) now.unread some.1.rest;
    ok = tt;
    refused = λ other. absurd (other wanting);
    memory = λ is. some;
  }

  found_refused : (cause : StoreError) → cause ≢ store.Memory → now ≡ before → Found change before now false (Err cause)
  found_refused cause other same = record {
    is_made = read_apart before before.unread same;
    ok = tt;
    refused = λ differs. refl;
    memory = λ is. absurd (other (given cause store.Memory is));
  }

gone_after : (name : Name) (rest : List Name) (before now : Stored) → now.entries ≡ (after (Forget (name ∷ rest)) before).entries
    → unknown_in now.entries name.0 ≡ true
gone_after name rest before now same =
    ap (λ (es : List Entry). unknown_in es name.0) same
    ∙ (loses_names (name ∷ rest) before).gone name.0 (among_from (numbers (name ∷ rest)) name.0 (0, omega arith, refl))

module _ (before now : Stored) (looked counted : ℕ) where
  by_none : (result : Result Notices StoreError) → Applied (Forget []) before now result looked counted
      → Found (Forget []) before now (is_ok result) result
  by_none (Ok notices) a = found_done (Forget []) before now looked counted notices a
  by_none (Err cause) a =
      elim (memory_or_not cause) [
        | inl wanting ↦ found_not (Forget []) before now looked counted cause (not_made (a.memory (ap Err wanting)))
        | inr other ↦ found_refused (Forget []) before now looked counted cause other (a.refused other)
      ]
    where
      not_made : IsStoreUnfinished (Forget []) before now → IsReadSomeIn before now
      not_made (inl some) = some
      not_made (inr whole) = subst (λ (s : Stored). IsReadSomeIn s now) (nothing_changed before) whole.1

  by_some : (name : Name) (rest : List Name) (result : Result Notices StoreError) → unknown_in before.entries name.0 ≡ false
      → Applied (Forget (name ∷ rest)) before now result looked counted
      → Found (Forget (name ∷ rest)) before now (unknown_in now.entries name.0) result
  unfolding before_reads
  by_some name rest (Ok notices) known a =
      subst (λ (b : Bool). Found (Forget (name ∷ rest)) before now b (Ok notices))
      (sym (gone_after name rest before now (ap (λ (s : Stored). s.entries) a.ok)))
      (found_done (Forget (name ∷ rest)) before now looked counted notices a)
  by_some name rest (Err cause) known a =
      elim (memory_or_not cause) [
        | inl wanting ↦ short wanting (a.memory (ap Err wanting))
        | inr other ↦
            here false (ap (λ (s : Stored). unknown_in s.entries name.0) (a.refused other) ∙ known)
            (found_refused (Forget (name ∷ rest)) before now looked counted cause other (a.refused other))
      ]
    where
      here : (b : Bool) → unknown_in now.entries name.0 ≡ b → Found (Forget (name ∷ rest)) before now b (Err cause)
          → Found (Forget (name ∷ rest)) before now (unknown_in now.entries name.0) (Err cause)
      here b is found = subst (λ (b : Bool). Found (Forget (name ∷ rest)) before now b (Err cause)) (sym is) found

      short : cause ≡ store.Memory → IsStoreUnfinished (Forget (name ∷ rest)) before now
          → Found (Forget (name ∷ rest)) before now (unknown_in now.entries name.0) (Err cause)
      short wanting (inl some) =
          here false (ap (λ (s : Stored). unknown_in s.entries name.0) some.rest ∙ known)
          (found_not (Forget (name ∷ rest)) before now looked counted cause some)
      short wanting (inr whole) =
          here true (gone_after name rest before now (ap (λ (s : Stored). s.entries) whole.1.rest))
          (found_short (Forget (name ∷ rest)) before now looked counted cause wanting whole)

  pub found_out : (ns : List ℕ) (result : Result Notices StoreError)
      → ((name : ℕ) → is_among ns name ≡ true → unknown_in before.entries name ≡ false)
      → Applied (Forget (map name_of ns)) before now result looked counted
      → Found (Forget (map name_of ns)) before now (are_gone (slice_get (map name_of ns) 0) (is_ok result) now.entries) result
  found_out [] result known a = by_none result a
  found_out (n ∷ ns) result known a =
      by_some (name_of n) (map name_of ns) result (known n (among_from (n ∷ ns) n (0, omega arith, refl))) a

loses_made : (before now : Stored) (table : NodeTable) (keys : List NodeKey)
    → now ≡ with_unread now.unread (made (Forget (names_of_all table keys)) before)
    → LosesNames (properties_of_all table keys) before.entries now.entries
unfolding before_reads
loses_made before now table keys is =
    subst (LosesNames (properties_of_all table keys) before.entries) (sym (ap (λ (s : Stored). s.entries) is))
    (subst (λ (ns : List ℕ). LosesNames ns before.entries (made (Forget (names_of_all table keys)) before).entries)
    (numbers_named (properties_of_all table keys)) (loses_names (names_of_all table keys) before))

-- what is true of the world stays true, whether the nodes ended or not
pub sound_by : (before now : Stored) (key : NodeKey) (keys : List NodeKey) (graph : Graph) (free : List (List ℕ × Name)) (gone : Bool)
    → IsMade (Forget (names_of_all graph.table keys)) before now gone → IsSound before.entries graph.table free
    → IsSound now.entries (dropped_if gone key keys graph).table free
unfolding dropped
sound_by before now key keys graph free false is sound =
    subst (λ (es : List Entry). IsSound es graph.table free) (sym (ap (λ (s : Stored). s.entries) is)) sound
sound_by before now key keys graph free true is sound =
    sound_dropped before.entries graph.table free keys sound now.entries (loses_made before now graph.table keys is)

-- what is answered

module _ (key : NodeKey) (keys : List NodeKey) (w : World) (now : Stored) (looked counted : ℕ) (tidy : IsTidy w)
    (sound : IsSound w.store.entries w.graph.table w.names.free) where
  abbrev lost : List ℕ
  lost = properties_of_all w.graph.table keys

  abbrev lost_names : List Name
  lost_names = names_of_all w.graph.table keys

  abbrev final : Bool → World
  final gone = with_store now (with_graph (dropped_if gone key keys w.graph) w)

  abbrev taken : Taken
  taken = without_nodes (Forget lost_names) key keys w

  abbrev wanted : Bool → Result Taken Refusal
  wanted used = unless used word.Used (Ok taken)

  known_names : unknown_name w.store.entries lost_names ≡ None
  known_names = none_unknown w.store.entries lost (all_known w.store.entries w.graph.table w.names.free keys sound)

  same_world : now ≡ w.store → final false ≡ w
  same_world same =
      ap (λ (s : Stored). with_store s w) same
      ∙ ap (λ (ws : List (ℕ × List (List ℕ))). record w { names = record w.names { written = ws } }) tidy

  unfinished : (gone : Bool) → IsShort (Forget lost_names) w.store now gone → IsUnfinished taken w (final gone)
  unfinished false some =
      inl
      (inl
      (record {
        rest = ap (λ (ls : List Listener). record w { store = now; names = record w.names { written = still_written ls w.names.written } })
            (ap (λ (s : Stored). s.listeners) some.rest)
            ∙ ap (λ (ws : List (ℕ × List (List ℕ))). record w { store = now; names = record w.names { written = ws } }) tidy;
        store = some;
      }))
  unfinished true whole =
      inl
      (inr
      (record {
        rest = ap
            (λ (ls : List Listener).
            record w {
              store = now;
              graph = dropped key keys w.graph;
              names = record w.names { written = still_written ls w.names.written };
            })
            (ap (λ (s : Stored). s.listeners) whole.1.rest);
        store = whole.1;
      }))

  unused : IsAllowed (Forget lost_names) w.store → is_read_outside lost w.store.entries ≡ false
  unused allowed =
      subst (λ (ns : List ℕ). is_read_outside ns w.store.entries ≡ false) (numbers_named lost)
      (outside_none (numbers lost_names) w.store.entries allowed.1)

  by_memory : (gone used : Bool) (cause : StoreError) → is_read_outside lost w.store.entries ≡ used → cause ≡ store.Memory
      → Applied (Forget lost_names) w.store now (Err cause) looked counted → IsShort (Forget lost_names) w.store now gone
      → IsTaken (wanted used) w (final gone) (Err (of_store cause))
  by_memory gone false cause here wanting a short = (ap of_store wanting, unfinished gone short)
  by_memory true true cause here wanting a short = absurd (true≢false (sym here ∙ unused short.0))
  by_memory false true cause here wanting a short = (
    same_world (a.still (λ allowed. true≢false (sym here ∙ unused allowed))).0,
    inr (ap of_store wanting),
  )

  by_graph : (gone : Bool) (refused : GraphError) (cause : StoreError) → IsForgetRefusal lost_names w.store.entries refused
      → cause ≡ of_graph refused → Applied (Forget lost_names) w.store now (Err cause) looked counted
      → Found (Forget lost_names) w.store now gone (Err cause)
      → IsTaken (forgotten key keys w) w (final gone) (Err (of_store cause))
  by_graph gone (graph.Unknown name) cause why is a found = absurd (none_some (graph.Unknown name) (sym known_names ∙ why))
    where
      none_some : (e : GraphError) → ◌≡◌ {A = Option GraphError} None (Some e) → ⊥
      none_some e is = cc
  by_graph gone (graph.InUse user) cause why is a found =
      let other : cause ≢ store.Memory = λ wanting. in_use user (sym is ∙ wanting) in
      let read : is_read_outside lost w.store.entries ≡ true =
      subst (λ (ns : List ℕ). is_read_outside ns w.store.entries ≡ true) (numbers_named lost)
      (outside_found (numbers lost_names) w.store.entries user.0 why.2.0 why.1 why.2.1 why.2.2) in
      subst (λ (b : Bool). IsTaken (wanted b) w (final gone) (Err (of_store cause))) (sym read)
      (ap final (found.refused other) ∙ same_world (a.refused other), inl (ap of_store is))
    where
      in_use : (user : Name) → ◌≡◌ {A = StoreError} (store.InUse user) store.Memory → ⊥
      in_use user is = cc
  by_graph gone (graph.ReadOnly name) cause why is a found = absurd why
  by_graph gone (graph.WrongKind name) cause why is a found = absurd why
  by_graph gone (graph.Bound name) cause why is a found = absurd why
  by_graph gone (graph.Cycle name) cause why is a found = absurd why
  by_graph gone graph.Full cause why is a found = absurd why
  by_graph gone graph.Memory cause why is a found = absurd why

  pub forgotten_taken : (gone : Bool) (result : Result Notices StoreError)
      → Applied (Forget lost_names) w.store now result looked counted → Found (Forget lost_names) w.store now gone result
      → IsTaken (forgotten key keys w) w (final gone) (told_as result)
  forgotten_taken gone (Ok notices) a found =
      subst (λ (b : Bool). IsTaken (wanted b) w (final gone) (told_as (Ok notices))) (sym (unused a.answer)) (
        subst (λ (b : Bool). final b ≡ taken.world) (sym found.ok) (ap (λ (s : Stored). with_store s (with_graph (dropped key keys w.graph) w)) a.ok),
        λ i. record { value = None; notices = record { added = a.notices.added i; invalid = a.notices.invalid i; changed = a.notices.changed i }; warnings = []; events = [] },
      )
  forgotten_taken gone (Err cause) a found =
      elim a.answer [
        | inl refused ↦ by_graph gone refused.0 cause refused.1 refused.2 a found
        | inr wanting ↦
            by_memory gone (is_read_outside lost w.store.entries) cause refl wanting a (found.memory (ap Err wanting))
      ]

  pub forgotten_few : (result : Result Notices StoreError)
      → Applied (Forget lost_names) w.store now result looked counted → counted ≤ looked + cost_of (forgotten key keys w)
  forgotten_few result a = by_use (is_read_outside lost w.store.entries) refl
    where
      by_use : (used : Bool) → is_read_outside lost w.store.entries ≡ used → counted ≤ looked + cost_of (wanted used)
      by_use false here = a.evaluations_few
      by_use true here =
          let same : counted ≡ looked = (a.still (λ allowed. true≢false (sym here ∙ unused allowed))).1 in
          omega (arith, same)

-- what the code finds out
pub found_gone : (ns : List ℕ) (names : List Name) (before now : Stored) (result : Result Notices StoreError) (looked counted : ℕ)
    (first : Option Name) (done gone : Bool)
    → names ≡ map name_of ns → first ≡ slice_get names 0 → done ≡ is_ok result → gone ≡ are_gone first done now.entries
    → ((name : ℕ) → is_among ns name ≡ true → unknown_in before.entries name ≡ false)
    → Applied (Forget names) before now result looked counted
    → Applied (Forget (map name_of ns)) before now result looked counted × Found (Forget (map name_of ns)) before now gone result
found_gone ns names before now result looked counted first done gone are is_first is_done is_gone known a =
    let applied = subst (λ (xs : List Name). Applied (Forget xs) before now result looked counted) are a in
    let told : gone ≡ are_gone (slice_get (map name_of ns) 0) (is_ok result) now.entries =
    is_gone
    ∙ ap (λ (o : Option Name). are_gone o done now.entries) (is_first ∙ ap (λ (xs : List Name). slice_get xs 0) are)
    ∙ ap (λ (b : Bool). are_gone (slice_get (map name_of ns) 0) b now.entries) is_done in (
      applied,
      subst (λ (b : Bool). Found (Forget (map name_of ns)) before now b result) (sym told)
          (found_out before now looked counted ns result known applied),
    )

-- properties that are put into a list

pub keys_pushed : (table : NodeTable) (keys : List NodeKey) (place : ℕ) (other : NodeKey) (before now : List Name)
    → place < length keys → now ≡ before ++ map name_of (properties_in (data_of table (get_or keys place other)))
    → before ≡ names_of_all table (take place keys) → now ≡ names_of_all table (take (place + 1) keys)
keys_pushed table keys place other before now within pushed before_is =
    let next : place + 1 ≡ suc place = omega arith in
    let key = get_or keys place other in
    let numbers_at : NodeKey → List ℕ = λ k. properties_in (data_of table k) in
    pushed
    ∙ ap (λ (names : List Name). names ++ map name_of (numbers_at key)) before_is
    ∙ sym (map-append name_of (flat_map numbers_at (take place keys)) (numbers_at key))
    ∙ ap (λ (ns : List ℕ). map name_of (flat_map numbers_at (take place keys) ++ ns)) (sym (append-nil (numbers_at key)))
    ∙ ap (λ (ns : List ℕ). map name_of ns) (sym (flat_map-append numbers_at (take place keys) (key ∷ [])))
    ∙ ap (names_of_all table) (sym (take-suc keys place other within))
    ∙ ap (λ (n : ℕ). names_of_all table (take n keys)) (sym next)

-- the nodes of a node that isn't stale

none_there : {A : Type 0} (o : Option A) → ((a : A) → o ≡ Some a → ⊥) → o ≡ None
none_there None not = refl
none_there (Some a) not = absurd (not a refl)

alive_from : (alive : Bool) (others : Option TreeError) → refused_tree (not alive) tree.StaleKey others ≡ None
    → refused_tree (not alive) tree.StaleKey None ≡ None
alive_from true others e = refl
alive_from false others e = absurd (cc)

not_stale : (scene : Scene) (key : NodeKey) → drop_refusal scene key ≡ None → stale scene key ≡ None
unfolding stale drop_refusal
not_stale scene key e =
    alive_from (is_alive scene.nodes key) (refused_tree (is_some (parent_of scene.nodes key) || is_held scene.root key) tree.Attached None) e

pub subtree_failed : (T : Type 0) (scene : Scene) (key : NodeKey) (refusal : Option TreeError) (error : TreeError)
    → refusal ≡ drop_refusal scene key → ((e : TreeError) → refusal ≡ Some e → ⊥)
    → IsExactAnswer {T = T} (stale scene key) (Err error) → of_tree error ≡ Memory
subtree_failed T scene key refusal error is not answer =
    ap of_tree
    (subst (λ (o : Option TreeError). IsExactAnswer {T = T} o (Err error))
    (not_stale scene key (sym is ∙ none_there refusal not)) answer)
