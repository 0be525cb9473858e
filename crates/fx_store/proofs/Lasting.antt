-- What the store keeps lasts over the changes that mark names, and over reads.
use Rattle.std.proofs.Common.{◌≡◌, ℕ, ◌+◌, ◌<◌, ◌≤◌, Bool, true, false, List, [], ◌∷◌, ◌++◌, length, Contains, arith, sym, subst}
use Rattle.std.proofs.lemmas.Bool.{false≢true}
use Rattle.std.proofs.lemmas.List.{length_push}
use Rattle.fx_base.specs.declared.keys.Name.{Name}
use Rattle.fx_base.specs.declared.values.Value.{Value}
use Rattle.fx_store_model.proofs.Grouping.{IsGroup, given_group}
use Rattle.fx_expr.specs.Tree.{Tree}
use Rattle.fx_handles.specs.Living.{Register}
use Rattle.fx_listen.specs.Listening.{Table, living_in}
use Rattle.fx_store_pairs.specs.Pairs.{is_paired, joined}
use Rattle.fx_graph_model.specs.declared.entries.Entry.{Entry}
use Rattle.fx_graph_model.specs.Changes.{IsSomeRead, State, after_bind, after_read_all, after_values}
use Rattle.fx_graph_model.specs.Eager.{eager}
use Rattle.fx_graph_model.specs.Refusals.{read_only_in}
use Rattle.fx_store.specs.Kept.{AreOnKnown, ArePaired, IsKept}
use Rattle.fx_store.specs.Watching.{watch_list}
use Rattle.fx_store.proofs.Answering.{ArePairable}
use Rattle.fx_store.proofs.Pairing.{pair_test, paired_more}
use Rattle.fx_store.proofs.Staying.{Stays, known_stays, paired_bound, paired_published, paired_set, stays_bound, stays_values}
use Rattle.fx_store.proofs.Watched.{read_fewer, reads_off}

module _ (pairs : List (ℕ × ℕ)) (table : Table) (owners : Register) where
  -- behind, nothing is said of flags
  pub kept_behind : (graph : State) (behind : Bool) → IsKept graph pairs table owners behind → IsKept graph pairs table owners true
  kept_behind graph behind kept = record {
    twins = kept.twins;
    few = kept.few;
    known = kept.known;
    born = kept.born;
    watched = λ e. absurd (false≢true (sym e));
  }

  -- all watched names are read
  pub kept_read : (graph now : State) (behind : Bool) (names : List ℕ) → IsKept graph pairs table owners behind
      → ((name : ℕ) → Contains (watch_list pairs (living_in owners.living table.entries)) name → Contains names name)
      → now ≡ after_read_all names graph → IsKept now pairs table owners false
  kept_read graph now behind names kept all read =
      subst (λ (state : State). IsKept state pairs table owners false) (sym read)
      (record {
        twins = kept.twins;
        few = kept.few;
        known = kept.known;
        born = kept.born;
        watched = λ _ name c. reads_off graph.entries names graph.unread name (all name c);
      })

  -- some names are read
  pub kept_some_read : (graph now : State) (behind : Bool) → IsKept graph pairs table owners behind → IsSomeRead graph now
      → IsKept now pairs table owners behind
  kept_some_read graph now behind kept some = record {
    twins = subst (λ (es : List Entry). ArePaired es pairs) (sym some.entries) kept.twins;
    few = kept.few;
    known = subst (λ (es : List Entry). AreOnKnown es table.entries) (sym some.entries) kept.known;
    born = kept.born;
    watched = λ e.
        read_fewer pairs (living_in owners.living table.entries) graph.unread now.unread some.fewer (kept.watched e);
  }

  -- the graph and the pairs are others, and names are known that were known
  pub kept_changed : (graph now : State) (behind : Bool) (some : List (ℕ × ℕ)) → IsKept graph pairs table owners behind
      → Stays graph.entries now.entries → ArePaired now.entries some → length some ≤ 10000 → IsKept now some table owners true
  kept_changed graph now behind some kept stays paired few = record {
    twins = paired;
    few = few;
    known = known_stays graph.entries now.entries table.entries stays kept.known;
    born = kept.born;
    watched = λ e. absurd (false≢true (sym e));
  }

  pub kept_set : (graph : State) (behind : Bool) → IsKept graph pairs table owners behind → (name : ℕ) (value : Value) (group : List (Name × Value))
      → IsGroup group (joined pairs name) value graph.entries → IsKept (after_values true group graph) pairs table owners true
  kept_set graph behind kept name value group g =
      kept_changed graph (after_values true group graph) behind pairs kept (stays_values true group graph.entries)
      (subst (λ (es : List Entry). ArePaired es pairs) (sym (given_group group (joined pairs name) value graph.entries g))
      (paired_set graph.entries pairs name value kept.twins)) kept.few

  pub kept_published : (graph : State) (behind : Bool) → IsKept graph pairs table owners behind → (words : List (Name × Value))
      → ((word : Name × Value) → Contains words word → read_only_in graph.entries word.0.0 ≡ true)
      → IsKept (after_values false words graph) pairs table owners true
  kept_published graph behind kept words only =
      kept_changed graph (after_values false words graph) behind pairs kept (stays_values false words graph.entries)
      (paired_published graph.entries pairs words kept.twins only) kept.few

  pub kept_bound : (graph : State) (behind : Bool) → IsKept graph pairs table owners behind → (name : ℕ) (expr : Tree) (operands : List ℕ)
      → is_paired pairs name ≡ false → IsKept (after_bind name expr operands graph) pairs table owners true
  kept_bound graph behind kept name expr operands free =
      kept_changed graph (after_bind name expr operands graph) behind pairs kept (stays_bound name expr operands graph.entries)
      (paired_bound graph.entries pairs name expr operands kept.twins free) kept.few

  pub kept_paired : (graph : State) (behind : Bool) → IsKept graph pairs table owners behind → (one other : ℕ)
      → ArePairable graph.entries pairs one other → (group : List (Name × Value))
      → IsGroup group (pair_test pairs one other) (eager graph.entries other) graph.entries
      → IsKept (after_values true group graph) (pairs ++ (one, other) ∷ []) table owners true
  kept_paired graph behind kept one other able group g =
      let es : List Entry = graph.entries in
      let long : length (pairs ++ (one, other) ∷ []) ≡ length pairs + 1 = length_push pairs (one, other) in
      let room : length pairs < 10000 = able.room in
      kept_changed graph (after_values true group graph) behind (pairs ++ (one, other) ∷ []) kept (stays_values true group es)
      (subst (λ (fs : List Entry). ArePaired fs (pairs ++ (one, other) ∷ []))
      (sym (given_group group (pair_test pairs one other) (eager es other) es g))
      (paired_more es pairs one other kept.twins able.one_own able.other_own able.kind)) (omega arith)
