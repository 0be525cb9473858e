-- What the store keeps, at each of its changes that marks no name.
use Rattle.std.proofs.Common.{◌≡◌, ℕ, zero, suc, ◌+◌, ◌==◌, ◌≤◌, ◌||◌, Bool, true, false, not, cond, List, [], ◌∷◌, ◌++◌, length, set, filter, All, Option, Some, None, IfSome, arith, refl, sym, subst, ap, inl, inr, ◌∙◌}
use Rattle.std.proofs.lemmas.Bool.{and_parts, both_ways, cond_both}
use Rattle.std.proofs.lemmas.List.Elements.{All-contains, All-filter}
use Rattle.fx_base.specs.declared.kinds.Kind.{Kind}
use Rattle.fx_base.specs.declared.values.Value.{Value}
use Rattle.fx_store_model.specs.Making.{made_forget, made_unbind, with_group}
use Rattle.fx_store_model.specs.Stored.{Stored, with_unread}
use Rattle.fx_store_model.proofs.Grouping.{set_group}
use Rattle.fx_handles.specs.declared.Owner.{Owner}
use Rattle.fx_handles.specs.Living.{Register, after_make, after_release}
use Rattle.fx_listen.specs.declared.entries.Listener.{Listener}
use Rattle.fx_listen.specs.declared.entries.ListenKind.{ListenKind}
use Rattle.fx_listen.specs.Laws.{HasBornOwner}
use Rattle.fx_listen.specs.Listening.{Table, after_add, after_remove, is_equal, is_live, living_in, placed, pruned, without_first}
use Rattle.fx_listen.proofs.Cuts.{filter-swap}
use Rattle.fx_listen.proofs.History.{pruning_is_silent}
use Rattle.fx_listen.proofs.LivingLemmas.{living_in-made, living_in-placed, living_in-removed}
use Rattle.fx_store_pairs.specs.Pairs.{is_among, without_pair}
use Rattle.fx_graph_model.specs.declared.entries.Entry.{Entry}
use Rattle.fx_graph_model.specs.declared.entries.Definition.TheVariants.{Base}
use Rattle.fx_graph_model.specs.declared.entries.Origin.TheVariants as origin
use Rattle.fx_graph_model.specs.Changes.{IsSomeRead, State, after_declare, after_forget, after_read, after_unbind, clear_all, forget_all, given}
use Rattle.fx_graph_model.specs.Eager.{eager}
use Rattle.fx_graph_model.specs.Unread.{after_reading, marked}
use Rattle.fx_graph_model.specs.Uses.{bound_in, entry_of, leads, unknown_in}
use Rattle.fx_graph_model.proofs.Changed.{bound_known, known_within}
use Rattle.fx_graph_model.proofs.Forgetting.{marked-clear, marked-clear_other}
use Rattle.fx_graph_model.proofs.ManyReads.{length-reading, marked-reading}
use Rattle.fx_graph_model.proofs.Members.{cases_contains}
use Rattle.fx_store.specs.Kept.{AreAllRead, AreOnKnown, ArePaired, IsKept, stored_of}
use Rattle.fx_store.proofs.Fewer.{known_placed, known_pruned, known_removed, length-filter_fewer, length-without_pair, paired_without, placed_cases, read_filtered, read_placed, read_released, read_removed, read_unpaired, without_first_fewer}
use Rattle.fx_store.proofs.Staying.{known_forgotten, known_stays, paired_declared, paired_forgotten, paired_unbound_name, stays_declared, stays_group}
use Rattle.fx_store.proofs.Twins.{all_from}
use Rattle.fx_store.proofs.Watched.{read_fewer}

-- reads

pub reading_fewer : (es : List Entry) (name : ℕ) (flags : List Bool) (other : ℕ) → marked (after_reading es name flags) other ≡ true
    → marked flags other ≡ true
reading_fewer es name flags other on =
    (and_parts (marked flags other) (not (leads es name other)) (sym (marked-reading es name flags other) ∙ on)).0

pub reading_some : (name : ℕ) (graph now : State) → now ≡ after_read name graph → IsSomeRead graph now
reading_some name graph now read =
    subst (IsSomeRead graph) (sym read)
    (record {
      entries = refl;
      flags = length-reading graph.entries name graph.unread;
      fewer = reading_fewer graph.entries name graph.unread;
      newly = refl;
    })

-- all but the flags is as before
pub read_rest : (graph now : State) (pairs : List (ℕ × ℕ)) (table : Table) (owners : Register) → now.entries ≡ graph.entries
    → stored_of now pairs table owners ≡ with_unread now.unread (stored_of graph pairs table owners)
read_rest graph now pairs table owners same =
    ap
    (λ (entries : List Entry). record {
      entries = entries;
      unread = now.unread;
      pairs = pairs;
      listeners = living_in owners.living table.entries;
      owners = owners;
      given = table.given;
    })
    same

-- a further property

marked-push : (flags : List Bool) (name : ℕ) → marked (flags ++ false ∷ []) name ≡ marked flags name
marked-push [] zero = refl
marked-push [] (suc name) = refl
marked-push (flag ∷ flags) zero = refl
marked-push (flag ∷ flags) (suc name) = marked-push flags name

pub kept_declared : (kind : Kind) (read_only : Bool) (value : Value) (graph now : State) (pairs : List (ℕ × ℕ)) (table : Table)
    (owners : Register) (behind : Bool) → now ≡ after_declare kind read_only value graph → IsKept graph pairs table owners behind
    → IsKept now pairs table owners behind
kept_declared kind read_only value graph now pairs table owners behind made kept =
    let entry : Entry = record { kind = kind; read_only = read_only; origin = origin.Initial; definition = Base value } in
    subst (λ (state : State). IsKept state pairs table owners behind) (sym made)
    (record {
      twins = paired_declared graph.entries pairs entry kept.twins;
      few = kept.few;
      known = known_stays graph.entries (graph.entries ++ entry ∷ []) table.entries (stays_declared graph.entries entry) kept.known;
      born = kept.born;
      watched = λ e.
          read_fewer pairs (living_in owners.living table.entries) graph.unread (graph.unread ++ false ∷ [])
          (λ name on. sym (marked-push graph.unread name) ∙ on) (kept.watched e);
    })

-- owners

born_later : (born : ℕ) (owner : Option Owner) → IfSome owner (λ (o : Owner). o.birth ≤ born)
    → IfSome owner (λ (o : Owner). o.birth ≤ born + 1)
born_later born None h = h
born_later born (Some owner) h = omega (arith, h)

pub kept_made : (graph : State) (pairs : List (ℕ × ℕ)) (table : Table) (owners now : Register) (owner : Owner) (behind : Bool)
    → owner.birth ≡ owners.born + 1 → now ≡ after_make owners owner → IsKept graph pairs table owners behind
    → IsKept graph pairs table now behind
kept_made graph pairs table owners now owner behind next made kept =
    subst (λ (register : Register). IsKept graph pairs table register behind) (sym made)
    (record {
      twins = kept.twins;
      few = kept.few;
      known = kept.known;
      born = subst (λ n. All (HasBornOwner n) table.entries) (sym next)
          (all_from (HasBornOwner (owners.born + 1)) table.entries
          (λ l c. born_later owners.born l.owner (All-contains (HasBornOwner owners.born) table.entries l kept.born c)));
      watched = λ e.
          subst (λ ls. AreAllRead pairs ls graph.unread) (sym (living_in-made owners owner table.entries next kept.born)) (kept.watched e);
    })

pub kept_released : (graph : State) (pairs : List (ℕ × ℕ)) (table : Table) (owners now : Register) (owner : Owner) (behind : Bool)
    → now ≡ after_release owners owner → IsKept graph pairs table owners behind → IsKept graph pairs table now behind
kept_released graph pairs table owners now owner behind released kept =
    subst (λ (register : Register). IsKept graph pairs table register behind) (sym released)
    (record {
      twins = kept.twins;
      few = kept.few;
      known = kept.known;
      born = kept.born;
      watched = λ e. read_released pairs owners owner table.entries graph.unread (kept.watched e);
    })

-- pairs

pub kept_unpaired : (graph : State) (pairs now : List (ℕ × ℕ)) (table : Table) (owners : Register) (behind : Bool) (one other : ℕ)
    → now ≡ without_pair one other pairs → IsKept graph pairs table owners behind → IsKept graph now table owners behind
kept_unpaired graph pairs now table owners behind one other ended kept =
    let fewer : length (without_pair one other pairs) ≤ length pairs = length-without_pair one other pairs in
    let few : length pairs ≤ 10000 = kept.few in
    subst (λ ps. IsKept graph ps table owners behind) (sym ended)
    (record {
      twins = paired_without graph.entries pairs one other kept.twins;
      few = omega (arith, fewer, few);
      known = kept.known;
      born = kept.born;
      watched = λ e. read_unpaired pairs one other (living_in owners.living table.entries) graph.unread (kept.watched e);
    })

-- listeners

pub kept_removed : (graph : State) (pairs : List (ℕ × ℕ)) (table now : Table) (owners : Register) (behind : Bool) (name : ℕ)
    (kind : ListenKind) (owner : Option Owner) (tag : ℕ) → now ≡ after_remove (is_equal name kind owner tag) table
    → IsKept graph pairs table owners behind → IsKept graph pairs now owners behind
kept_removed graph pairs table now owners behind name kind owner tag removed kept =
    let test : Listener → Bool = is_equal name kind owner tag in
    subst (λ (t : Table). IsKept graph pairs t owners behind) (sym removed)
    (record {
      twins = kept.twins;
      few = kept.few;
      known = known_removed graph.entries test table.entries kept.known;
      born = all_from (HasBornOwner owners.born) (without_first test table.entries)
          (λ l c. All-contains (HasBornOwner owners.born) table.entries l kept.born (without_first_fewer test table.entries l c));
      watched = λ e.
          subst (λ ls. AreAllRead pairs ls graph.unread) (sym (living_in-removed owners.living name kind owner tag table.entries))
          (read_removed pairs test (living_in owners.living table.entries) graph.unread (kept.watched e));
    })

-- whoever is live is seen among all, and so behind a pruning
pub living_in-added : (living : List Owner) (listener : Listener) (entries : List Listener) → is_live living listener ≡ true
    → living_in living (placed listener (pruned living entries)) ≡ placed listener (living_in living entries)
living_in-added living listener entries lives =
    living_in-placed living listener (pruned living entries) lives
    ∙ ap (placed listener) (pruning_is_silent living living entries (λ l c live. live))

born_pruned : (born : ℕ) (living : List Owner) (entries : List Listener) → All (HasBornOwner born) entries
    → All (HasBornOwner born) (pruned living entries)
born_pruned born living entries all =
    cond_both _ (living_in living entries) entries (All (HasBornOwner born))
    (λ _. All-filter (is_live living) (HasBornOwner born) entries all) (λ _. all)

born_placed : (born : ℕ) (listener : Listener) (entries : List Listener) → HasBornOwner born listener → All (HasBornOwner born) entries
    → All (HasBornOwner born) (placed listener entries)
born_placed born listener entries new all =
    all_from (HasBornOwner born) (placed listener entries)
    (λ l c.
    elim (placed_cases listener entries l c) [
      | inl here ↦ subst (HasBornOwner born) here new
      | inr old ↦ All-contains (HasBornOwner born) entries l all old
    ])

pub kept_added : (graph : State) (pairs : List (ℕ × ℕ)) (table now : Table) (owners : Register) (behind : Bool) (listener : Listener)
    → now ≡ after_add owners.living listener table → is_live owners.living listener ≡ true → HasBornOwner owners.born listener
    → unknown_in graph.entries listener.name.0 ≡ false → marked graph.unread listener.name.0 ≡ false
    → IsKept graph pairs table owners behind → IsKept graph pairs now owners behind
kept_added graph pairs table now owners behind listener added lives new known off kept =
    let left : List Listener = pruned owners.living table.entries in
    subst (λ (t : Table). IsKept graph pairs t owners behind) (sym added)
    (record {
      twins = kept.twins;
      few = kept.few;
      known = known_placed graph.entries listener left known (known_pruned graph.entries owners.living table.entries kept.known);
      born = born_placed owners.born listener left new (born_pruned owners.born owners.living table.entries kept.born);
      watched = λ e.
          subst (λ ls. AreAllRead pairs ls graph.unread) (sym (living_in-added owners.living listener table.entries lives))
          (read_placed pairs listener (living_in owners.living table.entries) graph.unread off (kept.watched e));
    })

-- a binding that ends

abbrev bound_ended : ℕ → State → State
bound_ended name graph = record {
  entries = set graph.entries name (given true (eager graph.entries name) (entry_of graph.entries name));
  unread = after_reading graph.entries name graph.unread;
  newly = graph.newly;
}

pub kept_unbound : (graph now : State) (pairs : List (ℕ × ℕ)) (table : Table) (owners : Register) (behind : Bool) (name : ℕ)
    → now ≡ after_unbind name graph → IsKept graph pairs table owners behind → IsKept now pairs table owners behind
kept_unbound graph now pairs table owners behind name ended kept =
    subst (λ (state : State). IsKept state pairs table owners behind) (sym ended)
    (cond_both (bound_in graph.entries name) (bound_ended name graph) graph (λ (state : State). IsKept state pairs table owners behind)
    by_bound (λ _. kept))
  where
    by_bound : bound_in graph.entries name ≡ true → IsKept (bound_ended name graph) pairs table owners behind
    by_bound bound =
        let value : Value = eager graph.entries name in
        let is = set_group graph.entries name value (known_within graph.entries name (bound_known graph.entries name bound)) in
        record {
          twins = subst (λ (es : List Entry). ArePaired es pairs) (sym is) (paired_unbound_name graph.entries pairs name value kept.twins bound);
          few = kept.few;
          known = subst (λ (es : List Entry). AreOnKnown es table.entries) (sym is)
              (known_stays graph.entries (with_group (λ (other : ℕ). other == name) value graph.entries) table.entries
              (stays_group (λ (other : ℕ). other == name) value graph.entries) kept.known);
          born = kept.born;
          watched = λ e.
              read_fewer pairs (living_in owners.living table.entries) graph.unread (after_reading graph.entries name graph.unread)
              (reading_fewer graph.entries name graph.unread) (kept.watched e);
        }

pub seen_unbound : (graph now : State) (pairs : List (ℕ × ℕ)) (table : Table) (owners : Register) (name : ℕ)
    → now ≡ after_unbind name graph → stored_of now pairs table owners ≡ made_unbind name (stored_of graph pairs table owners)
seen_unbound graph now pairs table owners name ended =
    ap (λ (state : State). stored_of state pairs table owners) ended
    ∙ by_bound (bound_in graph.entries name) refl
  where
    seen : State → Stored
    seen state = stored_of state pairs table owners

    grouped : Stored
    grouped = stored_of
        (record {
          entries = with_group (λ (other : ℕ). other == name) (eager graph.entries name) graph.entries;
          unread = after_reading graph.entries name graph.unread;
          newly = graph.newly;
        })
        pairs table owners

    by_bound : (b : Bool) → bound_in graph.entries name ≡ b
        → seen (cond b (bound_ended name graph) graph) ≡ cond b grouped (seen graph)
    by_bound true bound =
        ap
        (λ (es : List Entry). seen (record { entries = es; unread = after_reading graph.entries name graph.unread; newly = graph.newly }))
        (set_group graph.entries name (eager graph.entries name) (known_within graph.entries name (bound_known graph.entries name bound)))
    by_bound false unbound = refl

-- names that are forgotten

clear_fewer : (names : List ℕ) (flags : List Bool) (name : ℕ) → marked (clear_all names flags) name ≡ true → marked flags name ≡ true
clear_fewer names flags name on =
    elim (cases_contains names name) [
      | inl c ↦ absurd (both_ways _ (marked-clear names flags name c) on)
      | inr out ↦ sym (marked-clear_other names flags name out) ∙ on
    ]

abbrev pub left_pair : List ℕ → ℕ × ℕ → Bool
left_pair names pair = not (is_among names pair.0 || is_among names pair.1)

abbrev pub left_listener : List ℕ → Listener → Bool
left_listener names listener = not (is_among names listener.name.0)

pub kept_forgotten : (graph now : State) (pairs few : List (ℕ × ℕ)) (table less : Table) (owners : Register) (behind : Bool) (names : List ℕ)
    → now ≡ after_forget names graph → few ≡ filter (left_pair names) pairs
    → less ≡ record { entries = filter (left_listener names) table.entries; given = table.given }
    → IsKept graph pairs table owners behind → IsKept now few less owners behind
kept_forgotten graph now pairs few table less owners behind names forgotten unpaired unheard kept =
    let shorter : length (filter (left_pair names) pairs) ≤ length pairs = length-filter_fewer (left_pair names) pairs in
    let limit : length pairs ≤ 10000 = kept.few in
    let live : List Listener = living_in owners.living table.entries in
    subst (λ (state : State). IsKept state few less owners behind) (sym forgotten)
    (subst (λ ps. IsKept (after_forget names graph) ps less owners behind) (sym unpaired)
    (subst (λ (t : Table). IsKept (after_forget names graph) (filter (left_pair names) pairs) t owners behind) (sym unheard)
    (record {
      twins = paired_forgotten names graph.entries pairs kept.twins;
      few = omega (arith, shorter, limit);
      known = known_forgotten names graph.entries table.entries kept.known;
      born = All-filter (left_listener names) (HasBornOwner owners.born) table.entries kept.born;
      watched = λ e.
          subst (λ ls. AreAllRead (filter (left_pair names) pairs) ls (clear_all names graph.unread))
          (sym (filter-swap (is_live owners.living) (left_listener names) table.entries))
          (read_fewer (filter (left_pair names) pairs) (filter (left_listener names) live) graph.unread (clear_all names graph.unread)
          (clear_fewer names graph.unread)
          (read_filtered pairs (left_pair names) live (left_listener names) graph.unread (kept.watched e)));
    })))

pub seen_forgotten : (graph now : State) (pairs few : List (ℕ × ℕ)) (table less : Table) (owners : Register) (names : List ℕ)
    → now ≡ after_forget names graph → few ≡ filter (left_pair names) pairs
    → less ≡ record { entries = filter (left_listener names) table.entries; given = table.given }
    → stored_of now few less owners ≡ made_forget names (stored_of graph pairs table owners)
seen_forgotten graph now pairs few table less owners names forgotten unpaired unheard =
    ap (λ (state : State). stored_of state few less owners) forgotten
    ∙ ap (λ ps. stored_of (after_forget names graph) ps less owners) unpaired
    ∙ ap (λ (t : Table). stored_of (after_forget names graph) (filter (left_pair names) pairs) t owners) unheard
    ∙ ap (λ ls. with_listeners_of ls) (filter-swap (is_live owners.living) (left_listener names) table.entries)
  where
    with_listeners_of : List Listener → Stored
    with_listeners_of listeners = record {
      entries = forget_all names graph.entries;
      unread = clear_all names graph.unread;
      pairs = filter (left_pair names) pairs;
      listeners = listeners;
      owners = owners;
      given = table.given;
    }
