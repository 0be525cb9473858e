-- Owners and listeners that come and go.
use Rattle.std.proofs.Common.{◌≡◌, ◌≤◌, ◌+◌, ℕ, Bool, true, false, cond, eqb, ◌||◌, ◌&&◌, ◌==◌, nat_le, nat_lt, List, [], ◌∷◌, ◌++◌, length, All, Option, Some, None, Vec, ℤ, option_to_list, Result, Ok, Err, is_some, arith, refl, sym, ◌∙◌, ap, subst, inl, inr, true≢false}
use Rattle.std.proofs.lemmas.Bool.{cases_lt, eq-eqb, eqb-true, le-leb, lt-ltb}
use Rattle.std.proofs.lemmas.List.Elements.{All-append, All-cons, All-head, All-nil, All-tail, filter-append}
use Rattle.std.specs.Global.{Global}
use Rattle.fx_base.specs.Answers.{IsAnswer, or_else}
use Rattle.fx_base.specs.declared.keys.Name.{Name}
use Rattle.fx_handles.specs.declared.Owner.{Owner}
use Rattle.fx_listen.specs.declared.entries.Listener.{Listener}
use Rattle.fx_listen.specs.Listening.{has_life}
use Rattle.fx_store_model.specs.Applied.{Applied}
use Rattle.fx_store_model.specs.declared.changes.Change.{Change}
use Rattle.fx_store_model.specs.declared.changes.Change.TheVariants.{Set, Publish, Bind, Unbind, Pair, Unpair, Listen, Unlisten, Forget}
use Rattle.fx_store_model.specs.declared.changes.Notices.{Notices}
use Rattle.fx_store_model.specs.declared.errors.StoreError.{StoreError}
use Rattle.fx_store_model.specs.declared.errors.StoreError.TheVariants as store
use Rattle.fx_store_model.specs.Laws.{takes_away}
use Rattle.fx_store_model.specs.Making.{made, new_listener}
use Rattle.fx_store_model.specs.Refusals.{listen_refusal, refusal, refused_if, unknown_of}
use Rattle.fx_store_model.specs.Step.{after, before_reads, cost}
use Rattle.fx_store_model.specs.Stored.{Stored}
use Rattle.fx_stage_types.specs.declared.answers.StageError.{StageError}
use Rattle.fx_stage_types.specs.declared.answers.StageError.TheVariants.{Memory}
use Rattle.fx_stage_types.specs.declared.refusals.Refusal.{Refusal}
use Rattle.fx_stage_types.specs.declared.refusals.Refusal.TheVariants as word
use Rattle.fx_stage_types.specs.Words.{of_store}
use Rattle.fx_stage_model.specs.Answers.{Taken, and_then, silently, unless}
use Rattle.fx_script_commands.specs.declared.commands.Line.{Line}
use Rattle.fx_stage_model.specs.Graphs.{Graph}
use Rattle.fx_stage_model.specs.Properties.{by_store, changed, told}
use Rattle.fx_stage_model.specs.Taking.{IsPassedOver, IsReadSome, IsTaken, IsUnfinished}
use Rattle.fx_stage_model.specs.World.{World, is_listening, still_written, with_store}
use Rattle.fx_script_commands.specs.Requests.{Numbered}
use Rattle.fx_stage.specs.Kept.{seen}
use Rattle.fx_stage.specs.Noting.{IsListen, added, all_noted, noted}
use Rattle.fx_stage_parts.specs.Noting.{has_listener_behind, run_if, written_if}
use Rattle.fx_stage_words.specs.Told.{silence, told_as}
use Rattle.fx_stage.proofs.DeclaringLemmas.{memory_first}
use Rattle.fx_stage.proofs.TakingLemmas.{IsSettled, all_below}
use Rattle.fx_stage.proofs.WrittenLemmas.{any_new}

-- no listener has a number that wasn't given
pub not_there : (ls : List Listener) (given : ℕ) → All (λ (l : Listener). l.number ≤ given) ls → is_listening ls (given + 1) ≡ false
not_there [] given all = refl
not_there (l ∷ ls) given all =
    let small : l.number ≤ given = All-head (λ (l : Listener). l.number ≤ given) l ls all in
    ap (λ (b : Bool). b || is_listening ls (given + 1)) (apart (l.number == given + 1) refl small)
    ∙ not_there ls given (All-tail (λ (l : Listener). l.number ≤ given) l ls all)
  where
    apart : (b : Bool) → eqb l.number (given + 1) ≡ b → l.number ≤ given → b ≡ false
    apart true e small = absurd (let same : l.number ≡ given + 1 = eqb-true l.number (given + 1) e in omega (arith, same, small))
    apart false e small = refl

-- the new listener is there
pub new_there : (change : Change) (s : Stored) → IsListen change → is_listening (made change s).listeners (s.given + 1) ≡ true
unfolding made
new_there (Listen name kind owner tag) s is =
    any_new (new_listener (s.given + 1) name kind owner tag) s.listeners (λ (l : Listener). l.number == s.given + 1) _ _
    (eq-eqb (s.given + 1) (s.given + 1) refl)
new_there (Set name value) s is = absurd is
new_there (Publish pairs) s is = absurd is
new_there (Bind name formula operands) s is = absurd is
new_there (Unbind name) s is = absurd is
new_there (Pair one other) s is = absurd is
new_there (Unpair one other) s is = absurd is
new_there (Unlisten name kind owner tag) s is = absurd is
new_there (Forget names) s is = absurd is

pub listen_keeps : (change : Change) → IsListen change → takes_away change ≡ false
listen_keeps (Listen name kind owner tag) is = refl
listen_keeps (Set name value) is = absurd is
listen_keeps (Publish pairs) is = absurd is
listen_keeps (Bind name formula operands) is = absurd is
listen_keeps (Unbind name) is = absurd is
listen_keeps (Pair one other) is = absurd is
listen_keeps (Unpair one other) is = absurd is
listen_keeps (Unlisten name kind owner tag) is = absurd is
listen_keeps (Forget names) is = absurd is

pub given_next : (change : Change) (s : Stored) → IsListen change → (made change s).given ≡ s.given + 1
unfolding made
given_next (Listen name kind owner tag) s is = refl
given_next (Set name value) s is = absurd is
given_next (Publish pairs) s is = absurd is
given_next (Bind name formula operands) s is = absurd is
given_next (Unbind name) s is = absurd is
given_next (Pair one other) s is = absurd is
given_next (Unpair one other) s is = absurd is
given_next (Unlisten name kind owner tag) s is = absurd is
given_next (Forget names) s is = absurd is

there_before_reads : (change : Change) (s : Stored) → IsListen change
    → is_listening (before_reads change s).listeners (s.given + 1) ≡ true
unfolding before_reads
there_before_reads change s is = new_there change s is

-- where it isn't refused, a number is left
left_over : (o p : Option StoreError) (full : Bool) → or_else o (or_else p (refused_if full store.Full)) ≡ None → full ≡ false
left_over (Some e) p full is = absurd (cc)
left_over None (Some e) full is = absurd (cc)
left_over None None true is = absurd (cc)
left_over None None false is = refl

second_false : (a b : Bool) → (a || b) ≡ false → b ≡ false
second_false true b e = absurd (true≢false e)
second_false false b e = e

below_end : (n : ℕ) → nat_le 4294967295 n ≡ false → nat_lt n 4294967295 ≡ true
below_end n e =
    elim (cases_lt n 4294967295) [
      | inl below ↦ lt-ltb n 4294967295 below
      | inr past ↦ absurd (true≢false (sym (le-leb 4294967295 n past) ∙ e))
    ]

number_left : (change : Change) (s : Stored) → IsListen change → refusal change s ≡ None → nat_lt s.given 4294967295 ≡ true
unfolding refusal listen_refusal
number_left (Listen name kind owner tag) s is none =
    below_end s.given
    (second_false (nat_le 10000 (length s.listeners)) (nat_le 4294967295 s.given)
    (left_over (unknown_of (name ∷ []) s.entries) (cond (has_life s.owners.living owner) None (Some store.StaleOwner))
    (nat_le 10000 (length s.listeners) || nat_le 4294967295 s.given) none))
number_left (Set name value) s is none = absurd is
number_left (Publish pairs) s is none = absurd is
number_left (Bind name formula operands) s is none = absurd is
number_left (Unbind name) s is none = absurd is
number_left (Pair one other) s is none = absurd is
number_left (Unpair one other) s is none = absurd is
number_left (Unlisten name kind owner tag) s is none = absurd is
number_left (Forget names) s is none = absurd is

-- whether the new listener is there now
abbrev pub has_new : Stored → Stored → Bool
has_new before now = has_listener_behind before.given now.listeners

abbrev pub perhaps_noted : Bool → ℕ → List (List ℕ) → Option (List ℕ) → World → World
perhaps_noted true number asked runs world = noted number asked runs world
perhaps_noted false number asked runs world = world

and_false : (a : Bool) → (a && false) ≡ false
and_false true = refl
and_false false = refl

abbrev made_of : Change → World → Taken
made_of change world =
    record {
      made = with_store (before_reads change world.store) world;
      world = with_store (after change world.store) world;
      value = None;
      notices = told change world.store;
      warnings = [];
      cost = cost change world.store;
    }

module _ (change : Change) (asked : List (List ℕ)) (runs : Option (List ℕ)) (w : World) (now : Stored) (looked counted : ℕ)
    (is : IsListen change) (fresh : is_listening w.store.listeners (w.store.given + 1) ≡ false) where
  abbrev mid : World
  mid = with_store now w

  not_new : now.listeners ≡ w.store.listeners → has_new w.store now ≡ false
  not_new same =
      ap (λ (ls : List Listener). nat_lt w.store.given 4294967295 && is_listening ls (w.store.given + 1)) same
      ∙ ap (λ (b : Bool). nat_lt w.store.given 4294967295 && b) fresh
      ∙ and_false (nat_lt w.store.given 4294967295)

  is_new : refusal change w.store ≡ None → now.listeners ≡ (before_reads change w.store).listeners → has_new w.store now ≡ true
  is_new none same =
      ap (λ (ls : List Listener). nat_lt w.store.given 4294967295 && is_listening ls (w.store.given + 1)) same
      ∙ ap (λ (b : Bool). nat_lt w.store.given 4294967295 && b) (there_before_reads change w.store is)
      ∙ ap (λ (b : Bool). b && true) (number_left change w.store is none)

  abbrev final : Bool → World
  final flag = perhaps_noted flag (w.store.given + 1) asked runs mid

  abbrev wanted : Option StoreError → Result Taken Refusal
  wanted o =
      and_then (by_store change w o) (λ (taken : Taken). Ok (all_noted (w.store.given + 1) asked runs taken))

  at_memory : (made world : World) (error : StageError) → error ≡ Memory → refusal change w.store ≡ None
      → made.store.listeners ≡ (before_reads change w.store).listeners
      → (taken : Taken) → taken.made ≡ made
      → IsUnfinished taken w mid
      → IsUnfinished (all_noted (w.store.given + 1) asked runs taken) w (final (has_new w.store now))
  at_memory made world error wanting none listeners taken is_made (inl (inl r)) =
      inl (inl (subst (λ (b : Bool). IsReadSome w (final b)) (sym (not_new (ap (λ (s : Stored). s.listeners) r.store.rest))) r))
  at_memory made world error wanting none listeners taken is_made (inl (inr r)) =
      inl
      (inr
      (subst (λ (b : Bool). IsReadSome (noted (w.store.given + 1) asked runs taken.made) (final b))
      (sym
      (is_new none (ap (λ (s : Stored). s.listeners) r.store.rest ∙ ap (λ (x : World). x.store.listeners) is_made ∙ listeners)))
      (record {
        rest = ap (noted (w.store.given + 1) asked runs) r.rest;
        store = r.store;
      })))
  at_memory made world error wanting none listeners taken is_made (inr r) =
      inr
      (subst (λ (b : Bool). IsPassedOver w (final b)) (sym (not_new (ap (λ (x : World). x.store.listeners) r.rest))) r)

  by_refusal : (o : Option StoreError) (result : Result Notices StoreError) → refusal change w.store ≡ o
      → Applied change w.store now result looked counted
      → IsTaken (by_store change w o) w mid (told_as result)
      → IsTaken (wanted o) w (final (has_new w.store now)) (told_as result)
  by_refusal None (Ok notices) here a taken = (
    subst (λ (b : Bool). final b ≡ noted (w.store.given + 1) asked runs (with_store (after change w.store) w))
        (sym (is_new here (ap (λ (s : Stored). s.listeners) a.ok)))
        (ap (noted (w.store.given + 1) asked runs) taken.0),
    taken.1,
  )
  by_refusal None (Err cause) here a taken = (
    taken.0,
    at_memory (with_store (before_reads change w.store) w) w (of_store cause) taken.0 here refl (made_of change w) refl taken.1,
  )
  by_refusal (Some refused) (Ok notices) here a taken = absurd taken
  by_refusal (Some refused) (Err cause) here a taken = (
    subst (λ (b : Bool). final b ≡ w) (sym (not_new (ap (λ (x : World). x.store.listeners) taken.0))) taken.0,
    taken.1,
  )

  pub added_taken : (result : Result Notices StoreError) → Applied change w.store now result looked counted
      → IsTaken (changed change w) w mid (told_as result)
      → IsTaken (added change asked runs w) w (final (has_new w.store now)) (told_as result)
  unfolding changed
  added_taken result a taken = by_refusal (refusal change w.store) result refl a taken

-- an owner is made, or none is
abbrev owned : Bool → World → Result Taken Refusal
owned full made = unless (is_some (refused_if full store.Full)) word.Full (silently made)

pub owner_made : (full : Bool) (owner : Owner) (before made now : World)
    → IsAnswer store.Memory (refused_if full store.Full) (Ok owner) → now ≡ made
    → IsTaken (owned full made) before now (Ok silence)
owner_made true owner before made now answer same = absurd answer
owner_made false owner before made now answer same = (same, refl)

-- the new listener stands behind what was written
pub noted_view : (before now : List Listener) (given : ℕ) (ws : List (ℕ × List (List ℕ))) (asked : List (List ℕ))
    → still_written now (still_written before ws) ≡ still_written now ws → is_listening now (given + 1) ≡ true
    → still_written now (ws ++ (given + 1, asked) ∷ []) ≡ still_written now (still_written before ws) ++ (given + 1, asked) ∷ []
noted_view before now given ws asked again there =
    filter-append (λ (e : ℕ × List (List ℕ)). is_listening now e.0) ws ((given + 1, asked) ∷ [])
    ∙ ap (λ (b : Bool). still_written now ws ++ cond b ((given + 1, asked) ∷ []) []) there
    ∙ ap (λ (kept : List (ℕ × List (List ℕ))). kept ++ (given + 1, asked) ∷ []) (sym again)

second_true : (a b : Bool) → (a && b) ≡ true → b ≡ true
second_true true b e = e
second_true false b e = absurd (true≢false (sym e))

pub first_true : (a b : Bool) → (a && b) ≡ true → a ≡ true
first_true true b e = refl
first_true false b e = absurd (true≢false (sym e))

-- the new number is the last one that was given
pub new_given : (change : Change) (before now : Stored) → IsListen change → IsSettled change before now
    → All (λ (l : Listener). l.number ≤ before.given) before.listeners → has_new before now ≡ true
    → now.given ≡ before.given + 1
new_given change before now is (inl same) small there =
    absurd
    (true≢false
    (sym (second_true (nat_lt before.given 4294967295) (is_listening now.listeners (before.given + 1)) there)
    ∙ ap (λ (s : Stored). is_listening s.listeners (before.given + 1)) same
    ∙ not_there before.listeners before.given small))
new_given change before now is (inr made_it) small there = ap (λ (s : Stored). s.given) made_it ∙ given_next change before is

pub numbered_if : (there : Bool) (given last : ℕ) (asked : List (List ℕ)) (ws : List (ℕ × List (List ℕ))) → given ≤ last
    → (there ≡ true → last ≡ given + 1) → All (λ (e : ℕ × List (List ℕ)). e.0 ≤ given) ws
    → All (λ (e : ℕ × List (List ℕ)). e.0 ≤ last) (written_if there given asked ws)
numbered_if true given last asked ws rises new all =
    let last_is = new refl in
    let P : ℕ × List (List ℕ) → Type 0 = λ e. e.0 ≤ last in
    All-append P ws ((given + 1, asked) ∷ []) (all_below given last ws rises all)
    (All-cons P (given + 1, asked) [] (omega (arith, last_is)) (All-nil P))
numbered_if false given last asked ws rises new all = all_below given last ws rises all

module _ (before now : Stored) (graph : Graph) (free : List (List ℕ × Name)) (labels : List (List ℕ × Owner))
    (actions : List (List ℕ × List Numbered)) (run : List (List ℕ)) (ws : List (ℕ × List (List ℕ)))
    (pointer : Option (ℤ × ℤ)) (button : Bool) (window : Option (ℕ × ℕ))
    (again : still_written now.listeners (still_written before.listeners ws) ≡ still_written now.listeners ws) where
  abbrev shown : Stored → List (List ℕ) → List (ℕ × List (List ℕ)) → World
  shown store run written = seen store graph free labels actions run written pointer button window

  pub view_noted : (there : Bool) (asked : List (List ℕ)) (runs : Option (List ℕ)) → there ≡ has_new before now
      → shown now (run_if there runs run) (written_if there before.given asked ws)
      ≡ perhaps_noted there (before.given + 1) asked runs (with_store now (shown before run ws))
  view_noted true asked runs is =
      let v = shown now (run ++ option_to_list runs) ws in
      ap (λ (kept : List (ℕ × List (List ℕ))). record v { names = record v.names { written = kept } })
      (noted_view before.listeners now.listeners before.given ws asked again
      (second_true (nat_lt before.given 4294967295) (is_listening now.listeners (before.given + 1)) (sym is)))
  view_noted false asked runs is =
      let v = shown now run ws in
      ap (λ (kept : List (ℕ × List (List ℕ))). record v { names = record v.names { written = kept } }) (sym again)
