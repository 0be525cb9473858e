-- Several names read one after another, and flags that are put back.
use Rattle.std.proofs.Common.{◌≡◌, ◌≤◌, ◌<◌, ◌+◌, ◌&&◌, ℕ, refl, Bool, true, false, not, List, [], ◌∷◌, ◌++◌, length, map, take, drop, sym, ap, subst, ◌∙◌, arith}
use Rattle.std.specs.List.{Contains}
use Rattle.std.proofs.lemmas.Bool.{and_parts, both_ways}
use Rattle.std.proofs.lemmas.List.{map-append, take-append-drop}
use Rattle.std.proofs.lemmas.List.Elements.{All-contains, Contains-append_left, Contains-push}
use Rattle.fx_graph_model.specs.Changes.{State, AreKnown, IsReadInPart, IsSomeRead, after_read, after_read_all}
use Rattle.fx_graph_model.specs.Uses.{unknown_in, uses}
use Rattle.fx_graph_model.proofs.Changed.{known_within}
use Rattle.fx_graph_model.proofs.Flags.{length-by}
use Rattle.fx_graph_model.proofs.Members.{map_contains}
use Rattle.fx_base.specs.declared.keys.Name.{Name}
use Rattle.fx_base.specs.declared.values.Value.{Value}
use Rattle.fx_graph_model.specs.declared.entries.Entry.{Entry}
use Rattle.fx_base.specs.Names.{numbers}
use Rattle.fx_graph_model.specs.Eager.{eager}
use Rattle.fx_graph_model.specs.Unread.{marked, after_reading, after_reads, bound_unread, evaluations, evaluations_of, is_reached, IsClosed}
use Rattle.fx_graph_model.specs.Sound.{IsSettled}
use Rattle.fx_graph.specs.declared.lists.Lists.{Lists}
use Rattle.fx_graph.specs.Reading.{ArePartRead}
use Rattle.fx_graph.specs.Store.{Holds, IsStore, shown}
use Rattle.fx_graph.proofs.StoreLemmas.{store_flags}
use Rattle.fx_graph_model.proofs.ManyReads.{evaluations_more, evaluations_push, marked-reads, reached-at, reached-more, reads_again, reads_none, reads_push, reads_spent}

not_marked : (before now : Bool) → (now ≡ true → before ≡ true) → before ≡ false → now ≡ false
not_marked before true fewer off = absurd (both_ways before off (fewer refl))
not_marked before false fewer off = refl

reads_long : (es : List Entry) (names : List ℕ) (before now : List Bool) → now ≡ after_reads es names before → length now ≡ length before
reads_long es names before now same = ap length same ∙ length-by _ (length before)

-- these names were read, and their values stand in a list
pub record Reads (entries : List Entry) (names : List ℕ) (before now : List Bool) (cache values : List Value) (cost cost' : ℕ) : Type 0 where
  pub settled : IsSettled entries now cache
  pub flags : now ≡ after_reads entries names before
  pub listed : values ≡ map (eager entries) names
  pub steps : cost' + bound_unread entries now ≡ cost + bound_unread entries before

-- one name more is read
pub reads_more : (es : List Entry) (names : List ℕ) (name : ℕ) (before now now' : List Bool) (cache cache' values : List Value) (value : Value) (cost cost' cost'' : ℕ)
    → Reads es names before now cache values cost cost' → IsSettled es now' cache' → now' ≡ after_reading es name now → value ≡ eager es name
    → cost'' + bound_unread es now' ≡ cost' + bound_unread es now
    → Reads es (names ++ name ∷ []) before now' cache' (values ++ value ∷ []) cost cost''
reads_more es names name before now now' cache cache' values value cost cost' cost'' r s read here spent =
    record {
      settled = s;
      flags = read ∙ ap (after_reading es name) r.flags ∙ reads_push es names name before;
      listed = ap (λ (vs : List Value). vs ++ value ∷ []) r.listed ∙ ap (λ (v : Value). map (eager es) names ++ v ∷ []) here ∙ sym (map-append (eager es) names (name ∷ []));
      steps = spent ∙ r.steps;
    }

pub reads_spent_all : (es : List Entry) (names all : List ℕ) (before now : List Bool) (cache values : List Value) (cost cost' : ℕ)
    → Reads es names before now cache values cost cost' → ((n : ℕ) → Contains names n → Contains all n)
    → cost' ≤ cost + evaluations_of es all before
reads_spent_all es names all before now cache values cost cost' r within =
    let exact : cost' ≡ cost + evaluations_of es names before =
    reads_spent es names before cost cost' (subst (λ (f : List Bool). cost' + bound_unread es f ≡ cost + bound_unread es before) r.flags r.steps) in
    let more : evaluations_of es names before ≤ evaluations_of es all before = evaluations_more es names all before within in
    omega arith

pub reads_fewer : (es : List Entry) (names : List ℕ) (before now : List Bool) (cache values : List Value) (cost cost' : ℕ)
    → Reads es names before now cache values cost cost' → (other : ℕ) → marked now other ≡ true → marked before other ≡ true
reads_fewer es names before now cache values cost cost' r other on =
    (and_parts (marked before other) (not (is_reached es names other)) (sym (marked-reads es names before other) ∙ sym (ap (λ (f : List Bool). marked f other) r.flags) ∙ on)).0

-- the first so many of some names are among them
pub first_names : (names : List Name) (k n : ℕ) → Contains (numbers (take k names)) n → Contains (numbers names) n
first_names names k n c =
    subst (λ (xs : List ℕ). Contains xs n)
    (sym (map-append (λ (name : Name). name.0) (take k names) (drop k names)) ∙ ap numbers (take-append-drop k names))
    (Contains-append_left (numbers (take k names)) (numbers (drop k names)) n c)

-- nothing was unread
pub reads_unchanged : (es : List Entry) (done all : List ℕ) (before now : List Bool) (cache values : List Value) (cost cost' : ℕ)
    → Reads es done before now cache values cost cost' → IsClosed es before → ((n : ℕ) → Contains done n → Contains all n)
    → ((n : ℕ) → Contains all n → marked before n ≡ false) → now ≡ before
reads_unchanged es done all before now cache values cost cost' r closed within off =
    r.flags ∙ reads_again es done before closed (λ n c. off n (within n c))

-- a read that was stopped by want of memory
pub reads_stopped : (es : List Entry) (done all : List ℕ) (name : ℕ) (before now : List Bool) (cache values : List Value) (cost cost' cost'' : ℕ)
    → Reads es done before now cache values cost cost' → ((n : ℕ) → Contains (done ++ name ∷ []) n → Contains all n)
    → cost'' ≤ cost' + evaluations es name now → cost'' ≤ cost + evaluations_of es all before
reads_stopped es done all name before now cache values cost cost' cost'' r within last =
    let all_done : cost' ≡ cost + evaluations_of es done before =
    reads_spent es done before cost cost' (subst (λ (f : List Bool). cost' + bound_unread es f ≡ cost + bound_unread es before) r.flags r.steps) in
    let one : evaluations_of es done before + evaluations es name now ≡ evaluations_of es (done ++ name ∷ []) before =
    ap (λ (f : List Bool). evaluations_of es done before + evaluations es name f) r.flags ∙ evaluations_push es done name before in
    let more : evaluations_of es (done ++ name ∷ []) before ≤ evaluations_of es all before = evaluations_more es (done ++ name ∷ []) all before within in
    omega arith

-- known names have a place each
pub known_names : (es : List Entry) (names : List Name) → AreKnown es names → (n : ℕ) → Contains (numbers names) n → n < length es
known_names es names known n c =
    let found = map_contains (λ (name : Name). name.0) names n c in
    known_within es n (ap (unknown_in es) (sym found.2) ∙ All-contains (λ (name : Name). unknown_in es name.0 ≡ false) names found.0 known found.1)

-- only flags changed, and fewer are set
pub some_read : (es : List Entry) (newly : List ℕ) (before now : List Bool) → length now ≡ length before
    → ((n : ℕ) → marked now n ≡ true → marked before n ≡ true)
    → IsSomeRead (record { entries = es; unread = before; newly = newly }) (record { entries = es; unread = now; newly = newly })
some_read es newly before now long fewer = record { entries = refl; flags = long; fewer = fewer; newly = refl }

-- the lists after these names were read one after another, with their values
pub record Looks (first now : Lists) (names : List ℕ) (values : List Value) (cost cost' : ℕ) : Type 0 where
  pub holds : Holds now
  pub state : shown now ≡ after_read_all names (shown first)
  pub listed : values ≡ map (eager first.entries.items) names
  pub steps : cost' + bound_unread first.entries.items now.unread.items ≡ cost + bound_unread first.entries.items first.unread.items

pub looks_entries : (first now : Lists) (names : List ℕ) (values : List Value) (cost cost' : ℕ) → Looks first now names values cost cost'
    → now.entries.items ≡ first.entries.items
looks_entries first now names values cost cost' k = ap (λ (s : State). s.entries) k.state

pub looks_reads : (first now : Lists) (names : List ℕ) (values : List Value) (cost cost' : ℕ) → Looks first now names values cost cost'
    → Reads first.entries.items names first.unread.items now.unread.items now.cache.items values cost cost'
looks_reads first now names values cost cost' k =
    record {
      settled = rw (looks_entries first now names values cost cost' k) at k.holds.settled;
      flags = ap (λ (s : State). s.unread) k.state;
      listed = k.listed;
      steps = k.steps;
    }

pub looks_start : (first : Lists) (cost : ℕ) → Holds first → Looks first first [] [] cost cost
looks_start first cost h =
    record {
      holds = h;
      state = ap (λ (f : List Bool). record (shown first) { unread = f }) (sym (reads_none first.entries.items first.unread.items));
      listed = refl;
      steps = refl;
    }

pub looks_more : (first now next : Lists) (names : List ℕ) (name : ℕ) (values : List Value) (value : Value) (cost cost' cost'' : ℕ)
    → Looks first now names values cost cost' → Holds next → shown next ≡ after_read name (shown now) → value ≡ eager now.entries.items name
    → cost'' + bound_unread now.entries.items next.unread.items ≡ cost' + bound_unread now.entries.items now.unread.items
    → Looks first next (names ++ name ∷ []) (values ++ value ∷ []) cost cost''
looks_more first now next names name values value cost cost' cost'' k h state here spent =
    let es = first.entries.items in
    let entries = looks_entries first now names values cost cost' k in
    let after : next.entries.items ≡ es = ap (λ (s : State). s.entries) state ∙ entries in
    let read : next.unread.items ≡ after_reading es name now.unread.items = rw entries at (ap (λ (s : State). s.unread) state) in
    let newly = ap (λ (s : State). s.newly) state ∙ ap (λ (s : State). s.newly) k.state in
    let m : Reads es (names ++ name ∷ []) first.unread.items next.unread.items next.cache.items (values ++ value ∷ []) cost cost'' =
    reads_more es names name first.unread.items now.unread.items next.unread.items now.cache.items next.cache.items values value cost cost' cost''
    (looks_reads first now names values cost cost' k) (rw after at h.settled) read (rw entries at here) (rw entries at spent) in
    record {
      holds = h;
      state = rw (after, m.flags, newly) refl;
      listed = m.listed;
      steps = m.steps;
    }

-- one name more was read in part
pub looks_part : (first now next : Lists) (names : List ℕ) (name : ℕ) (values : List Value) (cost cost' : ℕ)
    → Looks first now names values cost cost' → IsReadInPart name (shown now) (shown next) → IsSomeRead (shown first) (shown next)
looks_part first now next names name values cost cost' k p =
    let r = looks_reads first now names values cost cost' k in
    record {
      entries = p.entries ∙ looks_entries first now names values cost cost' k;
      flags = p.unread.flags ∙ reads_long _ _ _ _ r.flags;
      fewer = λ n on. reads_fewer _ _ _ _ _ _ _ _ r n (p.unread.fewer n on);
      newly = p.newly ∙ ap (λ (s : State). s.newly) k.state;
    }

pub looks_some : (first now : Lists) (names : List ℕ) (values : List Value) (cost cost' : ℕ) → Looks first now names values cost cost'
    → IsSomeRead (shown first) (shown now)
looks_some first now names values cost cost' k =
    let r = looks_reads first now names values cost cost' k in
    record {
      entries = looks_entries first now names values cost cost' k;
      flags = reads_long _ _ _ _ r.flags;
      fewer = reads_fewer _ _ _ _ _ _ _ _ r;
      newly = ap (λ (s : State). s.newly) k.state;
    }

reached_left : (was reached : Bool) → was ≡ true → (was && not reached) ≡ false → reached ≡ true
reached_left true true was off = refl
reached_left true false was off = absurd (both_ways true off refl)
reached_left false reached was off = absurd (both_ways false refl was)

-- what these reads left read is needed by one of the names
reads_needed : (es : List Entry) (names : List ℕ) (before now : List Bool) (other : ℕ) → now ≡ after_reads es names before
    → marked before other ≡ true → marked now other ≡ false → is_reached es names other ≡ true
reads_needed es names before now other flags was off =
    reached_left (marked before other) (is_reached es names other) was
    (sym (marked-reads es names before other) ∙ sym (ap (λ (f : List Bool). marked f other) flags) ∙ off)

-- some of the names were read
pub looks_needed : (first now : Lists) (names all : List ℕ) (values : List Value) (cost cost' : ℕ)
    → Looks first now names values cost cost' → ((n : ℕ) → Contains names n → Contains all n)
    → ArePartRead first.entries.items all first.unread.items now.unread.items
looks_needed first now names all values cost cost' k within =
    let es = first.entries.items in
    let r = looks_reads first now names values cost cost' k in
    record {
      flags = reads_long _ _ _ _ r.flags;
      fewer = reads_fewer _ _ _ _ _ _ _ _ r;
      needed = λ other was off.
          reached-more es names all other within (reads_needed es names first.unread.items now.unread.items other r.flags was off);
    }

-- one name more was read in part
pub looks_part_needed : (first now next : Lists) (names all : List ℕ) (name : ℕ) (values : List Value) (cost cost' : ℕ)
    → Looks first now names values cost cost' → ((n : ℕ) → Contains (names ++ name ∷ []) n → Contains all n)
    → IsReadInPart name (shown now) (shown next)
    → ArePartRead first.entries.items all first.unread.items next.unread.items
looks_part_needed first now next names all name values cost cost' k within p =
    record {
      flags = p.unread.flags ∙ so_far.flags;
      fewer = λ other on. so_far.fewer other (p.unread.fewer other on);
      needed = λ other was off. by_flag other (marked now.unread.items other) refl was off;
    }
  where
    es : List Entry
    es = first.entries.items

    so_far : ArePartRead es all first.unread.items now.unread.items
    so_far = looks_needed first now names all values cost cost' k (λ n c. within n (Contains-append_left names (name ∷ []) n c))

    by_flag : (other : ℕ) (flag : Bool) → marked now.unread.items other ≡ flag → marked first.unread.items other ≡ true
        → marked next.unread.items other ≡ false → is_reached es all other ≡ true
    by_flag other true on was off =
        reached-at es all name other (within name (Contains-push names name))
        (rw (looks_entries first now names values cost cost' k) at (p.unread.needed other on off))
    by_flag other false read was off = so_far.needed other was read

-- the flags are put back after some names were read
pub looked_back : (first now : Lists) (flags : List Bool) → Holds first → Holds now → IsSomeRead (shown first) (shown now)
    → flags ≡ first.unread.items
    → IsStore now.entries.items now.users.items flags now.spare.items now.newly.items now.newly_count now.cache.items
    now.work.items now.operand_count
looked_back first now flags h k r same =
    let entries : now.entries.items ≡ first.entries.items = r.entries in
    let old : IsSettled first.entries.items first.unread.items first.cache.items = h.settled in
    let settled : IsSettled now.entries.items first.unread.items now.cache.items =
    record {
      flags = old.flags ∙ ap length (sym entries);
      values = k.settled.values;
      closed = λ user name i on. old.closed user name (subst (λ (es : List Entry). Contains (uses es user) name) entries i) on;
      kept = λ name within off. k.settled.kept name within (not_marked (marked first.unread.items name) (marked now.unread.items name) (r.fewer name) off);
    } in
    store_flags now.entries.items now.users.items now.unread.items now.spare.items now.newly.items now.newly_count now.cache.items
    now.work.items now.operand_count flags k (subst (λ (f : List Bool). IsSettled now.entries.items f now.cache.items) (sym same) settled)
