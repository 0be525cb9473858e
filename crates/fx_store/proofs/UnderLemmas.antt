-- The changes that mark names, once they are made in the graph: what is owed to whoever tells of them.
use Rattle.std.proofs.Common.{◌≡◌, ℕ, ◌==◌, ◌+◌, ◌≤◌, ◌⊎◌, Bool, true, false, not, List, [], ◌∷◌, ◌++◌, Contains, Option, Some, None, Err, append_assoc, refl, sym, subst, ap, inl, inr, ◌∙◌}
use Rattle.std.proofs.lemmas.Bool.{and_parts}
use Rattle.std.proofs.lemmas.List.Elements.{All-contains}
use Rattle.fx_base.specs.declared.keys.Name.{Name}
use Rattle.fx_base.specs.declared.values.Value.{Value}
use Rattle.fx_store_model.specs.declared.changes.Change.{Change}
use Rattle.fx_store_model.specs.declared.changes.Change.TheVariants.{Set, Publish, Bind, Pair}
use Rattle.fx_store_model.specs.declared.changes.Notices.{Notices}
use Rattle.fx_store_model.specs.declared.errors.StoreError.{StoreError}
use Rattle.fx_store_model.specs.declared.errors.StoreError.TheVariants as error
use Rattle.fx_store_model.specs.Applied.{Applied}
use Rattle.fx_store_model.specs.Causes.{of_graph}
use Rattle.fx_base.specs.Answers.{IsAnswer}
use Rattle.fx_store_model.specs.Refusals.{IsAllowed, IsChangeAnswer, bind_refusal, of_graph_refusal, pair_refusal, refusal}
use Rattle.fx_store_model.specs.Step.{IsFit, due}
use Rattle.fx_store_model.specs.Stored.{Stored}
use Rattle.fx_store_model.proofs.Grouping.{IsGroup}
use Rattle.fx_expr.specs.Tree.{Tree}
use Rattle.fx_handles.specs.Living.{Register}
use Rattle.fx_listen.specs.declared.entries.Listener.{Listener}
use Rattle.fx_listen.specs.Listening.{Table, living_in}
use Rattle.fx_store_pairs.specs.Pairs.{is_paired, joined}
use Rattle.fx_graph_model.specs.declared.errors.GraphError.{GraphError}
use Rattle.fx_graph_model.specs.declared.entries.Entry.{Entry}
use Rattle.fx_graph_model.specs.Changes.{AreKnown, State, after_bind, after_values, changed, with_binding, with_values}
use Rattle.fx_graph_model.proofs.Given.{targets}
use Rattle.fx_graph_model.proofs.Members.{contains_cases, map_contains, none_in_nil}
use Rattle.fx_graph_model.proofs.Refusing.{publishable}
use Rattle.fx_graph_model.specs.Eager.{eager}
use Rattle.fx_base.specs.Names.{numbers}
use Rattle.fx_graph_model.specs.Refusals.{publish_refusal, read_only_in, set_refusal}
use Rattle.fx_graph_model.specs.declared.errors.GraphError.TheVariants as graph_error
use Rattle.fx_graph_model.specs.Refusals as graph_refusals
use Rattle.fx_graph_model.specs.Sound.{AreSound}
use Rattle.fx_graph_model.specs.Uses.{unknown_in}
use Rattle.fx_store.specs.Groups.{AreJoinedWith}
use Rattle.fx_store.specs.Kept.{AreOnKnown, IsKept, stored_of}
use Rattle.fx_store.specs.Looking.{IsLook}
use Rattle.fx_store.specs.UnderWay.{IsUnderWay}
use Rattle.fx_store.specs.Watching.{IsWatch, names_of, watch_list}
use Rattle.fx_store.proofs.Answering.{ArePairable, answer_err, answer_ok, bind_free, graph_short, pairable, published_only}
use Rattle.fx_store.proofs.Ending.{memory_answer, step_failed}
use Rattle.fx_store.proofs.Grouped.{all_but, joined_group, pair_group, pair_unrefused, with_value_of}
use Rattle.fx_store.proofs.Lasting.{kept_bound, kept_paired, kept_published, kept_set}
use Rattle.fx_store.proofs.Looked.{Looks, bound_change, changed_target, ends_further, ends_joined, ends_none, ends_with, further_watched, given_change, joined_watched, looked_enough, looked_told, not_bound, not_published, published_change}
use Rattle.fx_store.proofs.Near.{IsChange}
use Rattle.fx_store.proofs.Made.{made_bind, made_pair_group, made_publish, made_set_group}
use Rattle.fx_store.proofs.Pairing.{pair_test}
use Rattle.fx_store.proofs.Staying.{known_living}
use Rattle.fx_store.proofs.Stepping.{step_unmade}
use Rattle.fx_store.proofs.Twins.{IsOwn, all_from, group_unrefused, joined_own, own_known, set_settable, settable_own}
use Rattle.fx_store.proofs.Watched.{watch_known, watch_list-push}
use Rattle.fx_store.proofs.WatchLemmas.{known_names}

-- it was looked at what a change of these names may tell of, and no more was evaluated than was due
pub record IsLooked
    (before : Stored) (changing more : List ℕ) (names : List Name) (heard : List (Name × ℕ)) (values : List Value) (began looked : ℕ)
    : Type 0 where
  pub watch : IsWatch before.entries heard names values
  pub look : IsLook before.entries before.unread before.pairs before.listeners changing more heard names
  pub few : looked ≤ began + due before

-- the names that are joined with this one, and the further names that are read with them
pub record IsJoined (stored : Stored) (name : ℕ) (group more : List Name) : Type 0 where
  pub joins : AreJoinedWith stored.pairs name group
  pub further : more ≡ ends_with stored.pairs name group

-- the names that are read are known
pub under_known : (change : Change) (before : Stored) (graph : State) (pairs : List (ℕ × ℕ)) (table : Table) (owners : Register) (names : List Name)
    (heard : List (Name × ℕ)) (values : List Value) (began looked : ℕ)
    → IsUnderWay change before graph pairs table owners (numbers names) heard values began looked → AreKnown graph.entries names
under_known change before graph pairs table owners names heard values began looked under =
    let live : List Listener = living_in owners.living table.entries in
    known_names graph.entries names (numbers names) refl
    (all_from (λ (name : ℕ). unknown_in graph.entries name ≡ false) (numbers names)
    (λ name c.
    All-contains (λ (n : ℕ). unknown_in graph.entries n ≡ false) (watch_list pairs live) name
    (watch_known graph.entries pairs live under.kept.twins (known_living graph.entries owners.living table.entries under.kept.known))
    (under.enough.only name c)))

module _ (graph : State) (pairs : List (ℕ × ℕ)) (table : Table) (owners : Register) (behind : Bool) where
  abbrev seen : Stored
  seen = stored_of graph pairs table owners

  abbrev Under : Change → Stored → State → List (ℕ × ℕ) → List Name → List (Name × ℕ) → List Value → ℕ → ℕ → Type 0
  Under change before now some names heard values began looked =
      IsUnderWay change before now some table owners (numbers names) heard values began looked

  -- the graph and what was seen before, by their equals
  by_equals : (change : Change) (before : Stored) (now made : State) (some : List (ℕ × ℕ)) (names : List Name) (heard : List (Name × ℕ))
      (values : List Value) (began looked : ℕ) → seen ≡ before → now ≡ made → Under change seen made some names heard values began looked
      → Under change before now some names heard values began looked
  by_equals change before now made some names heard values began looked view same under =
      subst (λ (state : State). Under change before state some names heard values began looked) (sym same)
      (subst (λ (stored : Stored). Under change stored made some names heard values began looked) view under)

  looked_at : (before : Stored) (changing more : List ℕ) (names : List Name) (heard : List (Name × ℕ)) (values : List Value)
      (began looked : ℕ) → seen ≡ before → IsLooked before changing more names heard values began looked
      → IsLooked seen changing more names heard values began looked
  looked_at before changing more names heard values began looked view look =
      subst (λ (stored : Stored). IsLooked stored changing more names heard values began looked) (sym view) look

  pub joined_here : (before : Stored) (name : ℕ) (group more : List Name) → seen ≡ before → IsJoined before name group more
      → IsJoined seen name group more
  joined_here before name group more view joins =
      subst (λ (stored : Stored). IsJoined stored name group more) (sym view) joins

  abbrev live : List Listener
  live = living_in owners.living table.entries

  live_known : IsKept graph pairs table owners behind → AreOnKnown graph.entries live
  live_known kept = known_living graph.entries owners.living table.entries kept.known

  fit_only : (before : Stored) (words : List (Name × Value)) → seen ≡ before → IsFit (Publish words) before
      → publish_refusal words graph.entries ≡ None
      → (pair : Name × Value) → Contains words pair → read_only_in graph.entries pair.0.0 ≡ true
  fit_only before words view fit none =
      let all = (subst (λ (stored : Stored). IsFit (Publish words) stored) (sym view) fit).1 in
      published_only words graph.entries none
      (λ pair c.
      All-contains (λ (p : Name × Value). unknown_in graph.entries p.0.0 ≡ false → read_only_in graph.entries p.0.0 ≡ true) words pair
      all c)

  pub fit_lent : (before : Stored) (words : List (Name × Value)) (lent : List (Name × Value)) → seen ≡ before
      → IsFit (Publish words) before → lent ≡ words → publish_refusal lent graph.entries ≡ None
      → (pair : Name × Value) → Contains lent pair → read_only_in graph.entries pair.0.0 ≡ true
  fit_lent before words lent view fit loan none pair c =
      fit_only before words view fit (subst (λ ws. publish_refusal ws graph.entries ≡ None) loan none) pair
      (subst (λ (ws : List (Name × Value)). Contains ws pair) loan c)

  -- each as the names and values were lent

  pub under_publish : (before : Stored) (now : State) (words : List (Name × Value)) (lent : List (Name × Value)) (changing more : List Name)
      (names : List Name) (heard : List (Name × ℕ)) (values : List Value) (began looked : ℕ) → seen ≡ before
      → IsKept graph pairs table owners behind
      → IsLooked before (numbers changing) (numbers more) names heard values began looked → more ≡ [] → IsFit (Publish words) before
      → lent ≡ words → AreSound before.entries → numbers changing ≡ changed lent before.entries
      → publish_refusal lent graph.entries ≡ None → now ≡ after_values false lent graph
      → Under (Publish words) before now pairs names heard values began looked
  unfolding refusal
  under_publish before now words lent changing more names heard values began looked view kept look nothing fit loan sound_before same unrefused made =
      let here = looked_at before (numbers changing) (numbers more) names heard values began looked view look in
      let is = made_publish graph pairs table owners words in
      let none : publish_refusal words graph.entries ≡ None =
      subst (λ ws. publish_refusal ws graph.entries ≡ None) loan unrefused in
      let only = fit_only before words view fit none in
      let es : List Entry = graph.entries in
      let fs : List Entry = with_values false words es in
      let after = kept_published pairs table owners graph behind kept words only in
      let sound : AreSound es = subst (λ (stored : Stored). AreSound stored.entries) (sym view) sound_before in
      let distinct = (subst (λ (stored : Stored). IsFit (Publish words) stored) (sym view) fit).0 in
      let change : IsChange es fs (changed words es) (changed words es) =
      published_change words es distinct
      (λ word c. ((publishable words es none word c).0, sound.free word.0.0 (only word c))) in
      let these : numbers changing ≡ changed words es =
      subst (λ (stored : Stored). numbers changing ≡ changed words stored.entries) (sym view)
      (subst (λ ws. numbers changing ≡ changed ws before.entries) loan same) in
      let look : IsLook es graph.unread pairs live (changed words es) [] heard names =
      subst (λ (ns : List ℕ). IsLook es graph.unread pairs live ns [] heard names) these
      (subst (λ (ns : List Name). IsLook es graph.unread pairs live (numbers changing) (numbers ns) heard names) nothing here.look) in
      by_equals (Publish words) before now (after_values false words graph) pairs names heard values began looked view
      (made ∙ ap (λ ws. after_values false ws graph) loan)
      (record {
        allowed = answer_ok (Unit {0}) (of_graph_refusal (publish_refusal words graph.entries)) tt (ap of_graph_refusal none);
        silent = refl;
        kept = after;
        whole = is.whole;
        newly_told = is.newly_told;
        enough = looked_enough es fs (changed words es) (changed words es) change graph.unread pairs pairs live (live_known kept) [] heard names
            look (λ name c. absurd (none_in_nil name c))
            (ends_none es fs graph.unread pairs live (changed words es) kept.twins after.twins
            (λ name paired c. not_published es pairs kept.twins words only name paired c));
        told = looked_told es fs (changed words es) (changed words es) change graph.unread pairs pairs live (live_known kept) [] heard names look;
        values_before = here.watch.values;
        few = here.few;
      })

  pub under_bind : (before : Stored) (now : State) (name : Name) (expr : Tree) (operands : List Name) (changing more names : List Name)
      (heard : List (Name × ℕ)) (values : List Value) (began looked : ℕ) → seen ≡ before → IsKept graph pairs table owners behind
      → IsLooked before (numbers changing) (numbers more) names heard values began looked → changing ≡ name ∷ [] → more ≡ []
      → is_paired before.pairs name.0 ≡ false
      → graph_refusals.bind_refusal name expr operands graph.entries ≡ None
      → now ≡ after_bind name.0 expr (numbers operands) graph
      → Under (Bind name expr operands) before now pairs names heard values began looked
  unfolding refusal
  under_bind before now name expr operands changing more names heard values began looked view kept look one nothing unpaired none made =
      let free : is_paired pairs name.0 ≡ false = ap (λ (stored : Stored). is_paired stored.pairs name.0) view ∙ unpaired in
      let here = looked_at before (numbers changing) (numbers more) names heard values began looked view look in
      let is = made_bind graph pairs table owners name expr operands in
      let es : List Entry = graph.entries in
      let fs : List Entry = with_binding name.0 expr (numbers operands) es in
      let after = kept_bound pairs table owners graph behind kept name.0 expr (numbers operands) free in
      let change : IsChange es fs (name.0 ∷ []) (name.0 ∷ []) = bound_change name.0 expr (numbers operands) es in
      let look : IsLook es graph.unread pairs live (name.0 ∷ []) [] heard names =
      subst (λ (ns : List Name). IsLook es graph.unread pairs live (name.0 ∷ []) (numbers ns) heard names) nothing
      (subst (λ (ns : List Name). IsLook es graph.unread pairs live (numbers ns) (numbers more) heard names) one here.look) in
      by_equals (Bind name expr operands) before now (after_bind name.0 expr (numbers operands) graph) pairs names heard values began looked
      view made
      (record {
        allowed = answer_ok (Unit {0}) (bind_refusal name expr operands graph.entries pairs) tt
            (bind_free name expr operands graph.entries pairs free ∙ ap of_graph_refusal none);
        silent = refl;
        kept = after;
        whole = is.whole;
        newly_told = is.newly_told;
        enough = looked_enough es fs (name.0 ∷ []) (name.0 ∷ []) change graph.unread pairs pairs live (live_known kept) [] heard names
            look (λ other c. absurd (none_in_nil other c))
            (ends_none es fs graph.unread pairs live (name.0 ∷ []) kept.twins after.twins
            (λ other paired c. not_bound pairs name.0 free other paired c));
        told = looked_told es fs (name.0 ∷ []) (name.0 ∷ []) change graph.unread pairs pairs live (live_known kept) [] heard names look;
        values_before = here.watch.values;
        few = here.few;
      })

  pub under_set : (before : Stored) (now : State) (name : Name) (value : Value) (group : List (Name × Value)) (changing more names : List Name)
      (heard : List (Name × ℕ)) (values : List Value) (began looked : ℕ) → seen ≡ before → IsKept graph pairs table owners behind
      → IsLooked before (numbers changing) (numbers more) names heard values began looked → IsJoined before name.0 changing more
      → IsGroup group (joined pairs name.0) value graph.entries
      → set_refusal ((name, value) ∷ []) before.entries ≡ None → now ≡ after_values true group graph
      → Under (Set name value) before now pairs names heard values began looked
  unfolding refusal
  under_set before now name value group changing more names heard values began looked view kept look with g unrefused made =
      let joins = joined_here before name.0 changing more view with in
      let members = joins.joins.members in
      let further = joins.further in
      let none : set_refusal ((name, value) ∷ []) graph.entries ≡ None =
      subst (λ (stored : Stored). set_refusal ((name, value) ∷ []) stored.entries ≡ None) (sym view) unrefused in
      let here = looked_at before (numbers changing) (numbers more) names heard values began looked view look in
      let is = made_set_group graph pairs table owners name value group kept.twins g in
      let es : List Entry = graph.entries in
      let fs : List Entry = with_values true group es in
      let rest : List ℕ = numbers (ends_with pairs name.0 changing) in
      let after = kept_set pairs table owners graph behind kept name.0 value group g in
      let among : (other : ℕ) → Contains (targets group) other → Contains (numbers changing) other =
      λ other c. (members other).1 (g.passes other c) in
      let change : IsChange es fs (changed group es) (numbers changing) = given_change true group es (numbers changing) among in
      let look : IsLook es graph.unread pairs live (numbers changing) rest heard names =
      subst (λ (ns : List Name). IsLook es graph.unread pairs live (numbers changing) (numbers ns) heard names) further here.look in
      by_equals (Set name value) before now (after_values true group graph) pairs names heard values began looked view made
      (record {
        allowed = answer_ok (Unit {0}) (of_graph_refusal (set_refusal ((name, value) ∷ []) graph.entries)) tt (ap of_graph_refusal none);
        silent = refl;
        kept = after;
        whole = is.whole;
        newly_told = is.newly_told;
        enough = looked_enough es fs (changed group es) (numbers changing) change graph.unread pairs pairs live (live_known kept) rest heard names
            look (joined_watched pairs live name.0 changing members)
            (ends_joined es fs graph.unread pairs live (changed group es) kept.twins after.twins name.0 changing members change.among);
        told = looked_told es fs (changed group es) (numbers changing) change graph.unread pairs pairs live (live_known kept) rest heard names look;
        values_before = here.watch.values;
        few = here.few;
      })

  -- both ends of the further pair are read as well
  pub pair_look : (one other : ℕ) (changing rest : List ℕ) (names all : List Name) (heard : List (Name × ℕ))
      → IsLook graph.entries graph.unread pairs live changing rest heard names
      → numbers all ≡ numbers names ++ one ∷ other ∷ []
      → Looks graph.entries graph.unread pairs (pairs ++ (one, other) ∷ []) live changing (rest ++ one ∷ other ∷ []) heard all
  pair_look one other changing rest names all heard (inl whole) push =
      inl (record {
        listening = whole.listening;
        watched = push ∙ ap (λ (ns : List ℕ). ns ++ one ∷ other ∷ []) whole.watched ∙ sym (watch_list-push pairs live one other);
      })
  pair_look one other changing rest names all heard (inr near) push =
      inr (record {
        ranks = near.ranks;
        flags = near.flags;
        sorted = near.sorted;
        read = near.read;
        listening = near.listening;
        watched = push ∙ ap (λ (ns : List ℕ). ns ++ one ∷ other ∷ []) near.watched ∙ append_assoc (names_of heard) rest (one ∷ other ∷ []);
      })

  pub pair_watch : (before : Stored) (one other : Name) (changing more : List ℕ) (names all : List Name) (heard : List (Name × ℕ))
      (values : List Value) (began looked : ℕ) → seen ≡ before → IsLooked before changing more names heard values began looked
      → numbers all ≡ numbers names ++ one.0 ∷ other.0 ∷ [] → IsWatch graph.entries heard all values
  pair_watch before one other changing more names all heard values began looked view look push =
      let here = looked_at before changing more names heard values began looked view look in
      record {
        more = here.watch.more ++ one.0 ∷ other.0 ∷ [];
        led = push ∙ ap (λ (ns : List ℕ). ns ++ one.0 ∷ other.0 ∷ []) here.watch.led
            ∙ append_assoc (names_of heard) here.watch.more (one.0 ∷ other.0 ∷ []);
        values = here.watch.values;
      }

  pub under_pair : (before : Stored) (now : State) (some : List (ℕ × ℕ)) (one other : Name) (group : List (Name × Value))
      (changing more names all : List Name) (heard : List (Name × ℕ)) (values : List Value) (began looked : ℕ) → seen ≡ before
      → IsKept graph pairs table owners behind → IsLooked before (numbers changing) (numbers more) names heard values began looked
      → IsJoined before one.0 changing more → numbers all ≡ numbers names ++ one.0 ∷ other.0 ∷ []
      → IsGroup group (pair_test pairs one.0 other.0) (eager graph.entries other.0) graph.entries
      → pair_refusal one other before.entries before.pairs ≡ None → now ≡ after_values true group graph
      → some ≡ pairs ++ (one.0, other.0) ∷ [] → Under (Pair one other) before now some all heard values began looked
  unfolding refusal
  under_pair before now some one other group changing more names all heard values began looked view kept look with push g unrefused made added =
      let joins = joined_here before one.0 changing more view with in
      let members = joins.joins.members in
      let further = joins.further in
      let none : pair_refusal one other graph.entries pairs ≡ None =
      subst (λ (stored : Stored). pair_refusal one other stored.entries stored.pairs ≡ None) (sym view) unrefused in
      let here = looked_at before (numbers changing) (numbers more) names heard values began looked view look in
      let able : ArePairable graph.entries pairs one.0 other.0 = pairable one other graph.entries pairs none in
      let is = made_pair_group graph pairs table owners one other group kept.twins able.differ g in
      let es : List Entry = graph.entries in
      let fs : List Entry = with_values true group es in
      let further_pairs : List (ℕ × ℕ) = pairs ++ (one.0, other.0) ∷ [] in
      let rest : List ℕ = numbers (ends_with pairs one.0 changing) in
      let after = kept_paired pairs table owners graph behind kept one.0 other.0 able group g in
      let among : (name : ℕ) → Contains (targets group) name → Contains (numbers changing) name =
      λ name c. (members name).1 (and_parts (joined pairs one.0 name) (not (name == other.0)) (g.passes name c)).0 in
      let change : IsChange es fs (changed group es) (numbers changing) = given_change true group es (numbers changing) among in
      let look : Looks es graph.unread pairs further_pairs live (numbers changing) (rest ++ one.0 ∷ other.0 ∷ []) heard all =
      pair_look one.0 other.0 (numbers changing) rest names all heard
      (subst (λ (ns : List Name). IsLook es graph.unread pairs live (numbers changing) (numbers ns) heard names) further here.look) push in
      subst (λ (ps : List (ℕ × ℕ)). Under (Pair one other) before now ps all heard values began looked) (sym added)
      (by_equals (Pair one other) before now (after_values true group graph) further_pairs all heard values began looked
      view made
      (record {
        allowed = answer_ok (Unit {0}) (pair_refusal one other graph.entries pairs) tt none;
        silent = refl;
        kept = after;
        whole = is.whole;
        newly_told = is.newly_told;
        enough = looked_enough es fs (changed group es) (numbers changing) change graph.unread pairs further_pairs live (live_known kept)
            (rest ++ one.0 ∷ other.0 ∷ []) heard all look
            (further_watched pairs live one.0 changing members other.0)
            (ends_further es fs graph.unread pairs live (changed group es) kept.twins one.0 other.0 after.twins changing members change.among);
        told = looked_told es fs (changed group es) (numbers changing) change graph.unread pairs further_pairs live (live_known kept)
            (rest ++ one.0 ∷ other.0 ∷ []) heard all look;
        values_before = here.watch.values;
        few = here.few;
      }))

  -- where a change fails

  -- what isn't refused wants memory
  pub failed_made : (change : Change) (before : Stored) (refused : Option GraphError) (cause : GraphError) (now : State) (began looked : ℕ)
      → seen ≡ before → IsAllowed change before → refused ≡ None
      → IsAnswer {T = Unit {0}} graph_error.Memory refused (Err cause) → now ≡ graph → looked ≤ began + due before
      → Applied change before (stored_of now pairs table owners) (Err (of_graph cause)) began looked
  failed_made change before refused cause now began looked view allowed none answer same few =
      subst (λ (e : StoreError). Applied change before (stored_of now pairs table owners) (Err e) began looked)
      (sym (graph_short (Unit {0}) refused cause none answer))
      (step_unmade change before (stored_of now pairs table owners) began looked allowed
      (ap (λ (state : State). stored_of state pairs table owners) same ∙ view) few)

  pub refused_set : (before : Stored) (name : Name) (value : Value) (refused : GraphError) (cause : StoreError) (began : ℕ) → seen ≡ before
      → set_refusal ((name, value) ∷ []) graph.entries ≡ Some refused → cause ≡ of_graph refused
      → Applied (Set name value) before before (Err cause) began began
  unfolding refusal
  refused_set before name value refused cause began view some same =
      step_failed (Set name value) before before cause began
      (subst (λ (stored : Stored). IsAnswer {T = Notices} error.Memory (of_graph_refusal (set_refusal ((name, value) ∷ []) stored.entries)) (Err cause)) view
      (answer_err Notices (of_graph_refusal (set_refusal ((name, value) ∷ []) graph.entries)) cause
      (ap of_graph_refusal some ∙ ap Some (sym same))))
      refl

  pub refused_publish : (before : Stored) (words : List (Name × Value)) (lent : List (Name × Value)) (refused : GraphError)
      (cause : StoreError) (began : ℕ) → seen ≡ before → lent ≡ words → publish_refusal lent graph.entries ≡ Some refused
      → cause ≡ of_graph refused → Applied (Publish words) before before (Err cause) began began
  unfolding refusal
  refused_publish before words lent refused cause began view loan some same =
      step_failed (Publish words) before before cause began
      (subst (λ (stored : Stored). IsAnswer {T = Notices} error.Memory (of_graph_refusal (publish_refusal words stored.entries)) (Err cause)) view
      (answer_err Notices (of_graph_refusal (publish_refusal words graph.entries)) cause
      (ap of_graph_refusal (subst (λ ws. publish_refusal ws graph.entries ≡ Some refused) loan some) ∙ ap Some (sym same))))
      refl

  pub refused_pair : (before : Stored) (one other : Name) (cause : StoreError) (began : ℕ) → seen ≡ before
      → pair_refusal one other graph.entries pairs ≡ Some cause → Applied (Pair one other) before before (Err cause) began began
  unfolding refusal
  refused_pair before one other cause began view some =
      step_failed (Pair one other) before before cause began
      (subst (λ (stored : Stored). IsAnswer {T = Notices} error.Memory (pair_refusal one other stored.entries stored.pairs) (Err cause)) view
      (answer_err Notices (pair_refusal one other graph.entries pairs) cause some))
      refl

  -- the names that are joined, each with the value, as they were found

  pub set_values : (before : Stored) (name : Name) (value : Value) (lent : List (Name × Value)) → seen ≡ before
      → IsKept graph pairs table owners behind → set_refusal ((name, value) ∷ []) before.entries ≡ None
      → ((names : List Name) × AreJoinedWith pairs name.0 names × (lent ≡ with_value_of value names))
      → IsGroup lent (joined pairs name.0) value graph.entries
  set_values before name value lent view kept unrefused found =
      subst (λ (vs : List (Name × Value)). IsGroup vs (joined pairs name.0) value graph.entries) (sym found.2)
      (joined_group graph.entries pairs kept.twins name.0 value
      (settable_own graph.entries name.0 value
      (set_settable graph.entries name value
      (subst (λ (stored : Stored). set_refusal ((name, value) ∷ []) stored.entries ≡ None) (sym view) unrefused)))
      found.0 found.1.members found.1.distinct)

  pub set_unrefused : (before : Stored) (name : Name) (value : Value) (lent : List (Name × Value)) → seen ≡ before
      → IsKept graph pairs table owners behind → set_refusal ((name, value) ∷ []) before.entries ≡ None
      → IsGroup lent (joined pairs name.0) value graph.entries → set_refusal lent graph.entries ≡ None
  set_unrefused before name value lent view kept unrefused group =
      group_unrefused graph.entries pairs kept.twins name value
      (subst (λ (stored : Stored). set_refusal ((name, value) ∷ []) stored.entries ≡ None) (sym view) unrefused) lent group

  pub pair_able : (before : Stored) (one other : Name) → seen ≡ before → pair_refusal one other before.entries before.pairs ≡ None
      → ArePairable graph.entries pairs one.0 other.0
  pair_able before one other view unrefused =
      pairable one other graph.entries pairs
      (subst (λ (stored : Stored). pair_refusal one other stored.entries stored.pairs ≡ None) (sym view) unrefused)

  pub pair_values : (before : Stored) (one other : Name) (lent : List (Name × Value)) → seen ≡ before
      → IsKept graph pairs table owners behind → pair_refusal one other before.entries before.pairs ≡ None
      → (names more : List Name) → IsJoined before one.0 names more
      → lent ≡ with_value_of (eager graph.entries other.0) (all_but other.0 names)
      → IsGroup lent (pair_test pairs one.0 other.0) (eager graph.entries other.0) graph.entries
  pair_values before one other lent view kept unrefused names more with same =
      let joins = (joined_here before one.0 names more view with).joins in
      subst (λ (vs : List (Name × Value)). IsGroup vs (pair_test pairs one.0 other.0) (eager graph.entries other.0) graph.entries)
      (sym same)
      (pair_group graph.entries pairs kept.twins one.0 other.0 (eager graph.entries other.0) (pair_able before one other view unrefused).one_own
      names joins.members joins.distinct)

  pub pair_group_unrefused : (before : Stored) (one other : Name) (lent : List (Name × Value)) → seen ≡ before
      → IsKept graph pairs table owners behind → AreSound graph.entries → pair_refusal one other before.entries before.pairs ≡ None
      → IsGroup lent (pair_test pairs one.0 other.0) (eager graph.entries other.0) graph.entries → set_refusal lent graph.entries ≡ None
  pair_group_unrefused before one other lent view kept sound unrefused group =
      let able : ArePairable graph.entries pairs one.0 other.0 = pair_able before one other view unrefused in
      pair_unrefused graph.entries pairs kept.twins sound one.0 other.0 able.one_own able.other_own able.kind lent group

  pub failed_pair : (before : Stored) (one other : Name) (cause : StoreError) (now : State) (some : List (ℕ × ℕ)) (began looked : ℕ)
      → seen ≡ before → IsAllowed (Pair one other) before → cause ≡ error.Memory → now ≡ graph → some ≡ pairs → looked ≤ began + due before
      → Applied (Pair one other) before (stored_of now some table owners) (Err cause) began looked
  failed_pair before one other cause now some began looked view allowed short same still few =
      subst (λ (e : StoreError). Applied (Pair one other) before (stored_of now some table owners) (Err e) began looked) (sym short)
      (step_unmade (Pair one other) before (stored_of now some table owners) began looked allowed
      (ap (λ (state : State). stored_of state some table owners) same
      ∙ ap (λ (ps : List (ℕ × ℕ)). stored_of graph ps table owners) still ∙ view) few)

  -- the names that are joined are known

  pub joined_known : (before : Stored) (name : Name) (group more : List Name) → seen ≡ before → IsKept graph pairs table owners behind
      → IsJoined before name.0 group more → IsOwn graph.entries name.0 → AreKnown before.entries group
  joined_known before name group more view kept with own =
      let joins = (joined_here before name.0 group more view with).joins in
      subst (λ (stored : Stored). AreKnown stored.entries group) view
      (known_names graph.entries group (numbers group) refl
      (all_from (λ (n : ℕ). unknown_in graph.entries n ≡ false) (numbers group)
      (λ n c. own_known graph.entries n (joined_own graph.entries pairs kept.twins name.0 n ((joins.members n).0 c) own))))

  pub set_known : (before : Stored) (name : Name) (value : Value) (group more : List Name) → seen ≡ before
      → IsKept graph pairs table owners behind → IsJoined before name.0 group more
      → set_refusal ((name, value) ∷ []) before.entries ≡ None → AreKnown before.entries group
  set_known before name value group more view kept with unrefused =
      joined_known before name group more view kept with
      (settable_own graph.entries name.0 value
      (set_settable graph.entries name value
      (subst (λ (stored : Stored). set_refusal ((name, value) ∷ []) stored.entries ≡ None) (sym view) unrefused)))

  pub pair_known : (before : Stored) (one other : Name) (group more : List Name) → seen ≡ before
      → IsKept graph pairs table owners behind → IsJoined before one.0 group more
      → pair_refusal one other before.entries before.pairs ≡ None → AreKnown before.entries group
  pair_known before one other group more view kept with unrefused =
      joined_known before one group more view kept with (pair_able before one other view unrefused).one_own

  pub given_known : (before : Stored) (lent : List (Name × Value)) (changing given : List Name) → seen ≡ before
      → publish_refusal lent graph.entries ≡ None → given ≡ changing → numbers changing ≡ changed lent graph.entries
      → AreKnown before.entries given
  given_known before lent changing given view none gift same =
      subst (λ (stored : Stored). AreKnown stored.entries given) view
      (known_names graph.entries given (changed lent graph.entries) (ap numbers gift ∙ same)
      (all_from (λ (n : ℕ). unknown_in graph.entries n ≡ false) (changed lent graph.entries)
      (λ n c.
      let word = map_contains (λ (p : Name × Value). p.0.0) lent n (changed_target lent graph.entries n c) in
      subst (λ m. unknown_in graph.entries m ≡ false) word.2 (publishable lent graph.entries none word.0 word.1).0)))

pub bound_known : (before : Stored) (name : Name) → unknown_in before.entries name.0 ≡ false → AreKnown before.entries (name ∷ [])
bound_known before name known =
    all_from (λ (n : Name). unknown_in before.entries n.0 ≡ false) (name ∷ [])
    (λ n c.
    elim (contains_cases name [] n c) [
      | inl here ↦ subst (λ (m : Name). unknown_in before.entries m.0 ≡ false) here known
      | inr none ↦ absurd (none_in_nil n none)
    ])

-- nothing speaks against them

pub allowed_set : (before : Stored) (name : Name) (value : Value) → set_refusal ((name, value) ∷ []) before.entries ≡ None
    → IsAllowed (Set name value) before
unfolding refusal
allowed_set before name value none =
    answer_ok (Unit {0}) (of_graph_refusal (set_refusal ((name, value) ∷ []) before.entries)) tt (ap of_graph_refusal none)

pub allowed_publish : (before : Stored) (words : List (Name × Value)) (lent : List (Name × Value)) → lent ≡ words
    → publish_refusal lent before.entries ≡ None → IsAllowed (Publish words) before
unfolding refusal
allowed_publish before words lent loan none =
    answer_ok (Unit {0}) (of_graph_refusal (publish_refusal words before.entries)) tt
    (ap of_graph_refusal (subst (λ ws. publish_refusal ws before.entries ≡ None) loan none))

pub allowed_bind : (before : Stored) (name : Name) (expr : Tree) (operands : List Name) (lent : List Name) → lent ≡ operands
    → is_paired before.pairs name.0 ≡ false → graph_refusals.bind_refusal name expr lent before.entries ≡ None
    → IsAllowed (Bind name expr operands) before
unfolding refusal
allowed_bind before name expr operands lent loan free none =
    answer_ok (Unit {0}) (bind_refusal name expr operands before.entries before.pairs) tt
    (bind_free name expr operands before.entries before.pairs free
    ∙ ap of_graph_refusal (subst (λ ns. graph_refusals.bind_refusal name expr ns before.entries ≡ None) loan none))

pub allowed_pair : (before : Stored) (one other : Name) → pair_refusal one other before.entries before.pairs ≡ None
    → IsAllowed (Pair one other) before
unfolding refusal
allowed_pair before one other none = answer_ok (Unit {0}) (pair_refusal one other before.entries before.pairs) tt none

pub refused_bind : (before : Stored) (name : Name) (expr : Tree) (operands : List Name) (lent : List Name) (cause : StoreError) (began : ℕ)
    → lent ≡ operands
    → (cause ≡ error.Memory) ⊎ (Some cause ≡ bind_refusal name expr lent before.entries before.pairs)
    → Applied (Bind name expr operands) before before (Err cause) began began
unfolding refusal
refused_bind before name expr operands lent cause began loan why =
    step_failed (Bind name expr operands) before before cause began
    (elim why [
      | inl short ↦
          subst (λ (e : StoreError). IsChangeAnswer {T = Notices} (Bind name expr operands) before (Err e)) (sym short)
          (memory_answer (Bind name expr operands) before)
      | inr some ↦
          answer_err Notices (bind_refusal name expr operands before.entries before.pairs) cause
          (ap (λ (ns : List Name). bind_refusal name expr ns before.entries before.pairs) (sym loan) ∙ sym some)
    ])
    refl

pub not_some : {X : Type 0} (found : Option X) → ((x : X) → found ≡ Some x → ⊥) → found ≡ None
not_some None never = refl
not_some (Some x) never = absurd (never x refl)
