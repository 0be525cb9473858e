-- The changes that mark names, from the graph's state after them: the store is as it is before the reads, and what became
-- unread is told.
use Rattle.std.proofs.Common.{◌≡◌, ℕ, Bool, true, false, List, [], ◌∷◌, ◌++◌, Contains, None, refl, sym, subst, ap, ◌∙◌}
use Rattle.std.proofs.lemmas.Bool.{and_parts}
use Rattle.fx_base.specs.declared.keys.Name.{Name}
use Rattle.fx_base.specs.declared.values.Value.{Value}
use Rattle.fx_store_model.specs.declared.changes.Change.{Change}
use Rattle.fx_store_model.specs.declared.changes.Change.TheVariants.{Set, Publish, Bind, Pair}
use Rattle.fx_store_model.specs.declared.changes.Notices.{Notices}
use Rattle.fx_store_model.specs.Making.{changed_by, made, moved, with_entries, with_group, with_pairs}
use Rattle.fx_store_model.specs.Step.{Tells, added_by, before_reads, changed_notices, invalid_notices, marked_by, newly}
use Rattle.fx_store_model.specs.Stored.{Stored}
use Rattle.fx_store_model.proofs.Grouping.{IsGroup, changed_group, changed_group_all, given_group, group_changed}
use Rattle.fx_expr.specs.Tree.{Tree}
use Rattle.fx_handles.specs.Living.{Register}
use Rattle.fx_listen.specs.declared.entries.Listener.{Listener}
use Rattle.fx_listen.specs.Listening.{Table, living_in}
use Rattle.fx_store_pairs.specs.Pairs.{joined}
use Rattle.fx_graph_model.specs.declared.entries.Entry.{Entry}
use Rattle.fx_graph_model.specs.Changes.{State, after_bind, after_change, after_values, changed, with_values}
use Rattle.fx_graph_model.specs.Eager.{eager}
use Rattle.fx_base.specs.Names.{numbers}
use Rattle.fx_graph_model.specs.Unread.{newly_marked}
use Rattle.fx_graph_model.proofs.Marks.{marking_same, newly_same}
use Rattle.fx_store.specs.Kept.{ArePaired, stored_of}
use Rattle.fx_store.proofs.Pairing.{pair_changed, pair_test}
use Rattle.fx_store.proofs.Twins.{joined_eager}

-- the graph is as the change makes it, all that changed is marked, and nothing is read
pub record IsMade (change : Change) (stored : Stored) (graph : State) (pairs : List (ℕ × ℕ)) (table : Table) (owners : Register) : Type 0 where
  pub whole : stored_of graph pairs table owners ≡ before_reads change stored
  pub newly_told : graph.newly ≡ newly change stored

pub made_entries : (change : Change) (stored : Stored) (graph : State) (pairs : List (ℕ × ℕ)) (table : Table) (owners : Register)
    → IsMade change stored graph pairs table owners → graph.entries ≡ (made change stored).entries
unfolding before_reads
made_entries change stored graph pairs table owners is = ap (λ (s : Stored). s.entries) is.whole

pub made_listeners : (change : Change) (stored : Stored) (graph : State) (pairs : List (ℕ × ℕ)) (table : Table) (owners : Register)
    → IsMade change stored graph pairs table owners → living_in owners.living table.entries ≡ (made change stored).listeners
unfolding before_reads
made_listeners change stored graph pairs table owners is = ap (λ (s : Stored). s.listeners) is.whole

-- what is told of it
pub tells_made : (change : Change) (stored : Stored) (graph : State) (pairs : List (ℕ × ℕ)) (table : Table) (owners : Register) (notices : Notices)
    → IsMade change stored graph pairs table owners → added_by change stored ≡ None → notices.added ≡ None
    → notices.invalid ≡ invalid_notices graph.newly (living_in owners.living table.entries)
    → notices.changed ≡ changed_notices stored.entries graph.entries (living_in owners.living table.entries)
    → Tells change stored notices
tells_made change stored graph pairs table owners notices is none added invalid changed =
    let heard : living_in owners.living table.entries ≡ (made change stored).listeners =
    made_listeners change stored graph pairs table owners is in
    let now : List Listener = (made change stored).listeners in
    record {
      added = added ∙ sym none;
      invalid = invalid ∙ ap (invalid_notices graph.newly) heard ∙ ap (λ names. invalid_notices names now) is.newly_told;
      changed = changed ∙ ap (changed_notices stored.entries graph.entries) heard
          ∙ ap (λ (es : List Entry). changed_notices stored.entries es now)
          (made_entries change stored graph pairs table owners is);
    }

-- the entries are these, and the names changed, in whatever order
module _ (graph : State) (pairs : List (ℕ × ℕ)) (table : Table) (owners : Register) where
  abbrev marks : List (ℕ × ℕ) → List Entry → List ℕ → Stored
  marks some entries names =
      marked_by names (with_pairs some (with_entries entries (stored_of graph pairs table owners)))

  changed_whole : (some : List (ℕ × ℕ)) (fs gs : List Entry) (names others : List ℕ) → fs ≡ gs
      → ((n : ℕ) → Contains names n → Contains others n) → ((n : ℕ) → Contains others n → Contains names n)
      → stored_of (after_change fs names graph) some table owners ≡ marks some gs others
  changed_whole some fs gs names others same more back =
      ap (λ (es : List Entry). marks some es names) same
      ∙ ap
      (λ flags. record {
        entries = gs;
        unread = flags;
        pairs = some;
        listeners = living_in owners.living table.entries;
        owners = owners;
        given = table.given;
      })
      (marking_same gs names others graph.unread more back)

  changed_newly : (fs gs : List Entry) (names others : List ℕ) → fs ≡ gs
      → ((n : ℕ) → Contains names n → Contains others n) → ((n : ℕ) → Contains others n → Contains names n)
      → (after_change fs names graph).newly ≡ newly_marked gs others graph.unread
  changed_newly fs gs names others same more back =
      ap (λ (es : List Entry). newly_marked es names graph.unread) same
      ∙ newly_same gs names others graph.unread more back

  -- all that are joined with the name have its value
  pub made_set_group : (name : Name) (value : Value) (group : List (Name × Value)) → ArePaired graph.entries pairs
      → IsGroup group (joined pairs name.0) value graph.entries
      → IsMade (Set name value) (stored_of graph pairs table owners) (after_values true group graph) pairs table owners
  unfolding before_reads made changed_by
  made_set_group name value group paired g =
      let es : List Entry = graph.entries in
      let moves : List ℕ = group_changed (joined pairs name.0) (eager es name.0) value es in
      let same : (n : ℕ) → joined pairs name.0 n ≡ true → eager es n ≡ eager es name.0 = joined_eager es pairs paired name.0 in
      let more : (n : ℕ) → Contains (changed group es) n → Contains moves n =
      changed_group group (joined pairs name.0) value (eager es name.0) es g same in
      let back : (n : ℕ) → Contains moves n → Contains (changed group es) n =
      changed_group_all group (joined pairs name.0) value (eager es name.0) es g same in
      let set : with_values true group es ≡ with_group (joined pairs name.0) value es =
      given_group group (joined pairs name.0) value es g in
      record {
        whole = changed_whole pairs (with_values true group es) (with_group (joined pairs name.0) value es)
            (changed group es) moves set more back;
        newly_told = changed_newly (with_values true group es) (with_group (joined pairs name.0) value es)
            (changed group es) moves set more back;
      }

  pub made_publish : (words : List (Name × Value))
      → IsMade (Publish words) (stored_of graph pairs table owners) (after_values false words graph) pairs table owners
  unfolding before_reads made changed_by
  made_publish words = record { whole = refl; newly_told = refl }

  pub made_bind : (name : Name) (expr : Tree) (operands : List Name)
      → IsMade (Bind name expr operands) (stored_of graph pairs table owners) (after_bind name.0 expr (numbers operands) graph)
      pairs table owners
  unfolding before_reads made changed_by
  made_bind name expr operands = record { whole = refl; newly_told = refl }

  -- the first name's group takes the other's value, and the pair stands last
  pub made_pair_group : (one other : Name) (group : List (Name × Value)) → ArePaired graph.entries pairs → (one.0 ≡ other.0 → ⊥)
      → IsGroup group (pair_test pairs one.0 other.0) (eager graph.entries other.0) graph.entries
      → IsMade (Pair one other) (stored_of graph pairs table owners) (after_values true group graph)
      (pairs ++ (one.0, other.0) ∷ []) table owners
  unfolding before_reads made changed_by
  made_pair_group one other group paired differs g =
      let es : List Entry = graph.entries in
      let test : ℕ → Bool = pair_test pairs one.0 other.0 in
      let value : Value = eager es other.0 in
      let moves : List ℕ = group_changed test (eager es one.0) value es in
      let moved_are : moves ≡ moved one.0 value (stored_of graph pairs table owners) = pair_changed es pairs one.0 other.0 paired differs in
      let same : (n : ℕ) → test n ≡ true → eager es n ≡ eager es one.0 =
      λ n e. joined_eager es pairs paired one.0 n (and_parts _ _ e).0 in
      let more : (n : ℕ) → Contains (changed group es) n → Contains (moved one.0 value (stored_of graph pairs table owners)) n =
      λ n c. subst (λ ns. Contains ns n) moved_are (changed_group group test value (eager es one.0) es g same n c) in
      let back : (n : ℕ) → Contains (moved one.0 value (stored_of graph pairs table owners)) n → Contains (changed group es) n =
      λ n c. changed_group_all group test value (eager es one.0) es g same n (subst (λ ns. Contains ns n) (sym moved_are) c) in
      let set : with_values true group es ≡ with_group test value es = given_group group test value es g in
      record {
        whole = changed_whole (pairs ++ (one.0, other.0) ∷ []) (with_values true group es) (with_group test value es)
            (changed group es) (moved one.0 value (stored_of graph pairs table owners)) set more back;
        newly_told = changed_newly (with_values true group es) (with_group test value es)
            (changed group es) (moved one.0 value (stored_of graph pairs table owners)) set more back;
      }
