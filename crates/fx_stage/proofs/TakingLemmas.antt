-- What a change of the store makes of a world.
use Rattle.std.proofs.Common.{◌≡◌, ◌⊎◌, ◌≤◌, ℕ, Bool, true, false, cond, List, [], ◌∷◌, All, arith, Option, Some, None, Result, Ok, Err, refl, sym, ◌∙◌, ap, subst, inl, inr, true≢false}
use Rattle.std.proofs.lemmas.List.Elements.{All-cons, All-head, All-nil, All-tail}
use Rattle.fx_base.specs.Answers.{IsAnswer}
use Rattle.fx_listen.specs.declared.entries.Listener.{Listener}
use Rattle.fx_store_model.specs.Applied.{Applied}
use Rattle.fx_store_model.specs.declared.changes.Change.{Change}
use Rattle.fx_store_model.specs.declared.changes.Change.TheVariants.{Set, Publish, Bind, Unbind, Pair, Unpair, Listen, Unlisten, Forget}
use Rattle.fx_store_model.specs.declared.changes.Notices.{Notices}
use Rattle.fx_store_model.specs.declared.errors.StoreError.{StoreError}
use Rattle.fx_store_model.specs.declared.errors.StoreError.TheVariants as store
use Rattle.fx_store_model.specs.Laws.{takes_away}
use Rattle.fx_store_model.specs.Making.{made}
use Rattle.fx_store_model.specs.Refusals.{IsChangeAnswer, refusal}
use Rattle.fx_store_model.specs.Step.{IsUnfinished as IsStoreUnfinished, after, before_reads}
use Rattle.fx_store_model.specs.Stored.{Stored, with_unread}
use Rattle.fx_store_model.proofs.Leaving.{memory_or_not}
use Rattle.fx_stage_types.specs.declared.answers.StageError.TheVariants.{Refused, Memory}
use Rattle.fx_stage_types.specs.Words.{of_store}
use Rattle.fx_stage_model.specs.Properties.{by_store, changed, word_in}
use Rattle.fx_stage_model.specs.Taking.{IsReadSome, IsTaken}
use Rattle.fx_stage_model.specs.World.{World, is_listening, still_written, with_store}
use Rattle.fx_stage_words.specs.Told.{told_as}
use Rattle.fx_stage.proofs.WrittenLemmas.{given_rises, still_from}

-- of a change that takes no properties away
pub answer_of : (T : Type 0) (change : Change) (stored : Stored) (result : Result T StoreError) → takes_away change ≡ false
    → IsChangeAnswer {T = T} change stored result → IsAnswer store.Memory (refusal change stored) result
answer_of T (Set name value) stored result keeps a = a
answer_of T (Publish pairs) stored result keeps a = a
answer_of T (Bind name formula operands) stored result keeps a = a
answer_of T (Unbind name) stored result keeps a = a
answer_of T (Pair one other) stored result keeps a = a
answer_of T (Unpair one other) stored result keeps a = a
answer_of T (Listen name kind owner tag) stored result keeps a = a
answer_of T (Unlisten name kind owner tag) stored result keeps a = a
answer_of T (Forget names) stored result keeps a = absurd (true≢false keeps)

-- what is written of living listeners is written once for all

pub written_again : (listeners : List Listener) (written : List (ℕ × List (List ℕ)))
    → still_written listeners (still_written listeners written) ≡ still_written listeners written
written_again listeners [] = refl
written_again listeners (entry ∷ rest) = by_test (is_listening listeners entry.0) refl (written_again listeners rest)
  where
    by_test : (b : Bool) → is_listening listeners entry.0 ≡ b
        → still_written listeners (still_written listeners rest) ≡ still_written listeners rest
        → still_written listeners (cond b (entry ∷ still_written listeners rest) (still_written listeners rest))
        ≡ cond b (entry ∷ still_written listeners rest) (still_written listeners rest)
    by_test true e again = rw e (ap (λ (more : List (ℕ × List (List ℕ))). entry ∷ more) again)
    by_test false e again = again

-- of listeners that are gone nothing is written
abbrev pub IsTidy : World → Type 0
IsTidy world = still_written world.store.listeners world.names.written ≡ world.names.written

store_same : (world : World) → IsTidy world → with_store world.store world ≡ world
store_same world tidy = ap (λ (ws : List (ℕ × List (List ℕ))). record world { names = record world.names { written = ws } }) tidy

names_same : (world : World) (now : Stored) → IsTidy world → now.listeners ≡ world.store.listeners
    → with_store now world ≡ record world { store = now }
names_same world now tidy same =
    ap (λ (ls : List Listener). record world { store = now; names = record world.names { written = still_written ls world.names.written } }) same
    ∙ ap (λ (ws : List (ℕ × List (List ℕ))). record world { store = now; names = record world.names { written = ws } }) tidy

word_of_refusal : (refused cause : StoreError) → cause ≡ refused
    → (of_store cause ≡ Refused (word_in (of_store refused))) ⊎ (of_store cause ≡ Memory)
word_of_refusal (store.Unknown n) cause e = inl (ap of_store e)
word_of_refusal (store.ReadOnly n) cause e = inl (ap of_store e)
word_of_refusal (store.WrongKind n) cause e = inl (ap of_store e)
word_of_refusal (store.Bound n) cause e = inl (ap of_store e)
word_of_refusal (store.Cycle n) cause e = inl (ap of_store e)
word_of_refusal store.Full cause e = inl (ap of_store e)
word_of_refusal (store.InUse n) cause e = inl (ap of_store e)
word_of_refusal store.Same cause e = inl (ap of_store e)
word_of_refusal (store.Mixed n) cause e = inl (ap of_store e)
word_of_refusal store.StaleOwner cause e = inl (ap of_store e)
word_of_refusal store.Memory cause e = inr (ap of_store e)

module _ (change : Change) (world : World) (now : Stored) (looked counted : ℕ) (keeps : takes_away change ≡ false) (tidy : IsTidy world) where
  unfinished : IsStoreUnfinished change world.store now
      → IsReadSome world (with_store now world) ⊎ IsReadSome (with_store (before_reads change world.store) world) (with_store now world)
  unfinished (inl not_made) =
      inl (record { rest = names_same world now tidy (ap (λ (s : Stored). s.listeners) not_made.rest); store = not_made })
  unfinished (inr made_it) =
      inr
      (record {
        rest = ap
            (λ (ls : List Listener).
            record world { store = now; names = record world.names { written = still_written ls world.names.written } })
            (ap (λ (s : Stored). s.listeners) made_it.1.rest);
        store = made_it.1;
      })

  by_refusal : (o : Option StoreError) (result : Result Notices StoreError) → refusal change world.store ≡ o
      → Applied change world.store now result looked counted
      → IsAnswer store.Memory o result → IsTaken (by_store change world o) world (with_store now world) (told_as result)
  by_refusal None (Ok notices) here a answer = (
    ap (λ (s : Stored). with_store s world) a.ok,
    (λ i. record { value = None; notices = record { added = a.notices.added i; invalid = a.notices.invalid i; changed = a.notices.changed i }; warnings = []; events = [] }),
  )
  by_refusal None (Err cause) here a answer = (ap of_store answer, inl (unfinished (a.memory (ap Err answer))))
  by_refusal (Some refused) (Ok notices) here a answer = answer
  by_refusal (Some refused) (Err cause) here a answer =
      let still =
      a.still (λ allowed.
      subst (λ (o : Option StoreError). IsAnswer {T = Unit {0}} store.Memory o (Ok tt)) here
      (answer_of (Unit {0}) change world.store (Ok tt) keeps allowed)) in (
        ap (λ (s : Stored). with_store s world) still.0 ∙ store_same world tidy,
        elim answer [ inl same ↦ word_of_refusal refused cause same | inr wanting ↦ inr (ap of_store wanting) ],
      )

  pub changed_taken : (result : Result Notices StoreError) → Applied change world.store now result looked counted
      → IsTaken (changed change world) world (with_store now world) (told_as result)
  unfolding changed
  changed_taken result a =
      by_refusal (refusal change world.store) result refl a (answer_of Notices change world.store result keeps a.answer)

-- after a change the store is as it was, or as the change makes it, but for what is read
abbrev pub IsSettled : Change → Stored → Stored → Type 0
IsSettled change before now =
    (now ≡ with_unread now.unread before) ⊎ (now ≡ with_unread now.unread (made change before))

read_apart : (base now : Stored) (unread : List Bool) → now ≡ with_unread unread base → now ≡ with_unread now.unread base
read_apart base now unread is = is ∙ ap (λ (u : List Bool). with_unread u base) (sym (ap (λ (s : Stored). s.unread) is))

pub settled : (change : Change) (before now : Stored) (result : Result Notices StoreError) (looked counted : ℕ)
    → Applied change before now result looked counted → IsSettled change before now
unfolding before_reads
settled change before now (Ok notices) looked counted a = inr (read_apart (made change before) now (after change before).unread a.ok)
settled change before now (Err cause) looked counted a =
    elim (memory_or_not cause) [
      | inl wanting ↦ by_memory (a.memory (ap Err wanting))
      | inr other ↦ inl (read_apart before now before.unread (a.refused other))
    ]
  where
    by_memory : IsStoreUnfinished change before now → IsSettled change before now
    by_memory (inl not_made) = inl not_made.rest
    by_memory (inr made_it) = inr made_it.1.rest

pub listening_from : (change : Change) (before now : Stored) → IsSettled change before now → (n : ℕ) → n ≤ before.given
    → is_listening now.listeners n ≡ true → is_listening before.listeners n ≡ true
listening_from change before now (inl same) n small e = ap (λ (s : Stored). is_listening s.listeners n) (sym same) ∙ e
listening_from change before now (inr made_it) n small e =
    still_from change before n small (ap (λ (s : Stored). is_listening s.listeners n) (sym made_it) ∙ e)

pub given_settled : (change : Change) (before now : Stored) → IsSettled change before now → before.given ≤ now.given
given_settled change before now (inl same) = subst (λ (s : Stored). before.given ≤ s.given) (sym same) (omega arith)
given_settled change before now (inr made_it) =
    subst (λ (s : Stored). before.given ≤ s.given) (sym made_it) (given_rises change before)

pub all_below : (small great : ℕ) (ws : List (ℕ × List (List ℕ))) → small ≤ great
    → All (λ (e : ℕ × List (List ℕ)). e.0 ≤ small) ws → All (λ (e : ℕ × List (List ℕ)). e.0 ≤ great) ws
all_below small great [] less all = All-nil (λ (e : ℕ × List (List ℕ)). e.0 ≤ great)
all_below small great (e ∷ ws) less all =
    let first : e.0 ≤ small = All-head (λ (e : ℕ × List (List ℕ)). e.0 ≤ small) e ws all in
    All-cons (λ (e : ℕ × List (List ℕ)). e.0 ≤ great) e ws (omega (arith, first, less))
    (all_below small great ws less (All-tail (λ (e : ℕ × List (List ℕ)). e.0 ≤ small) e ws all))
