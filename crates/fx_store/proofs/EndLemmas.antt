-- Each change that marks no name, at each of its ends.
use Rattle.std.proofs.Common.{◌≡◌, ℕ, ◌+◌, ◌≤◌, true, false, not, List, [], ◌∷◌, Option, Some, None, Ok, Err, arith, refl, sym, subst, ap, ◌∙◌}
use Rattle.std.proofs.lemmas.Bool.{and_right}
use Rattle.fx_base.specs.declared.keys.Name.{Name}
use Rattle.fx_store_model.specs.declared.changes.Change.TheVariants.{Unbind, Unpair, Listen, Unlisten, Forget}
use Rattle.fx_store_model.specs.declared.changes.Notices.{Notices}
use Rattle.fx_store_model.specs.declared.errors.StoreError.{StoreError}
use Rattle.fx_store_model.specs.declared.errors.StoreError.TheVariants as error
use Rattle.fx_store_model.specs.Applied.{Applied}
use Rattle.fx_store_model.specs.Making.{made, made_forget, made_unbind, made_unlisten, new_listener, with_listeners, with_pairs}
use Rattle.fx_base.specs.Answers.{IsAnswer}
use Rattle.fx_store_model.specs.Refusals.{IsAllowed, IsForgetAnswer, listen_refusal, refusal, unknown_of, unlisten_refusal, unpair_refusal}
use Rattle.fx_store_model.specs.Step.{IsReadSome, due}
use Rattle.fx_store_model.specs.Stored.{Stored, after_watching, with_unread}
use Rattle.fx_handles.specs.declared.Owner.{Owner}
use Rattle.fx_listen.specs.declared.entries.ListenKind.{ListenKind}
use Rattle.fx_listen.specs.Listening.{has_life, placed}
use Rattle.fx_store_pairs.specs.Pairs.{without_pair}
use Rattle.fx_base.specs.Names.{numbers}
use Rattle.fx_graph_model.specs.Unread.{after_reading, evaluations, marked}
use Rattle.fx_graph_model.specs.Uses.{Ranked, unknown_in}
use Rattle.fx_graph_model.proofs.ManyReads.{length-reading, marked-reading}
use Rattle.fx_store.proofs.Answering.{answer_err, answer_ok}
use Rattle.fx_store.proofs.Ending.{step_failed}
use Rattle.fx_store.proofs.KeepLemmas.{reading_fewer}
use Rattle.fx_store.proofs.QuietLemmas.{quiet_made, quiet_short, quiet_unmade}
use Rattle.fx_store.proofs.Silent.{forget_quiet, listen_quiet, tells_forget, tells_listen, tells_unbind, tells_unlisten, tells_unpair, unbind_quiet, unlisten_quiet, unpair_quiet}
use Rattle.fx_store.proofs.UnheardLemmas.{allowed_by}
use Rattle.fx_store.proofs.Watched.{leads_itself}

-- it tells of nothing but a listener that was added
pub record IsSilent (added : Option ℕ) (notices : Notices) : Type 0 where
  pub added_is : notices.added ≡ added
  pub invalid : notices.invalid ≡ []
  pub changed : notices.changed ≡ []

err_memory : (T : Type 0) (refused : Option StoreError) (cause : StoreError) → refused ≡ None → IsAnswer {T = T} error.Memory refused (Err cause)
    → cause ≡ error.Memory
err_memory T refused cause none answer = subst (λ (r : Option StoreError). IsAnswer {T = T} error.Memory r (Err cause)) none answer

-- the end of a pair

pub unpair_refused : (one other : Name) (before : Stored) (cause : StoreError) (evaluated : ℕ)
    → Some cause ≡ unpair_refusal one other before.entries
    → Applied (Unpair one other) before before (Err cause) evaluated evaluated
unfolding refusal
unpair_refused one other before cause evaluated some =
    step_failed (Unpair one other) before before cause evaluated
    (answer_err Notices (unpair_refusal one other before.entries) cause (sym some)) refl

pub unpair_short : (one other : Name) (before mid now : Stored) (evaluated spent : ℕ)
    → None ≡ unpair_refusal one other before.entries → mid ≡ with_pairs (without_pair one.0 other.0 before.pairs) before → IsReadSome mid now → spent ≤ evaluated + due mid
    → Applied (Unpair one other) before now (Err error.Memory) evaluated spent
unfolding made refusal
unpair_short one other before mid now evaluated spent none is some few =
    quiet_short (Unpair one other) before mid now evaluated evaluated spent (unpair_quiet one other before)
    (answer_ok (Unit {0}) (unpair_refusal one other before.entries) tt (sym none)) is some (omega arith) few

pub unpair_done : (one other : Name) (before mid now : Stored) (notices : Notices) (evaluated spent : ℕ)
    → None ≡ unpair_refusal one other before.entries
    → mid ≡ with_pairs (without_pair one.0 other.0 before.pairs) before → now ≡ after_watching mid → IsSilent None notices
    → spent ≤ evaluated + due mid → Applied (Unpair one other) before now (Ok notices) evaluated spent
unfolding made refusal
unpair_done one other before mid now notices evaluated spent none is read silent few =
    quiet_made (Unpair one other) before mid now notices evaluated evaluated spent (unpair_quiet one other before) is read
    (answer_ok Notices (unpair_refusal one other before.entries) notices (sym none))
    (tells_unpair one other before notices silent.added_is silent.invalid silent.changed) (omega arith) few

-- the end of a listener

pub unlisten_refused : (name : Name) (kind : ListenKind) (owner : Option Owner) (tag : ℕ) (before : Stored) (cause : StoreError)
    (evaluated : ℕ) → Some cause ≡ unlisten_refusal name owner before.entries before.owners.living
    → Applied (Unlisten name kind owner tag) before before (Err cause) evaluated evaluated
unfolding refusal
unlisten_refused name kind owner tag before cause evaluated some =
    step_failed (Unlisten name kind owner tag) before before cause evaluated
    (answer_err Notices (unlisten_refusal name owner before.entries before.owners.living) cause (sym some)) refl

pub unlisten_short : (name : Name) (kind : ListenKind) (owner : Option Owner) (tag : ℕ) (before mid now : Stored) (evaluated spent : ℕ)
    → None ≡ unlisten_refusal name owner before.entries before.owners.living → mid ≡ made_unlisten name.0 kind owner tag before → IsReadSome mid now → spent ≤ evaluated + due mid
    → Applied (Unlisten name kind owner tag) before now (Err error.Memory) evaluated spent
unfolding made refusal
unlisten_short name kind owner tag before mid now evaluated spent none is some few =
    quiet_short (Unlisten name kind owner tag) before mid now evaluated evaluated spent (unlisten_quiet name kind owner tag before)
    (answer_ok (Unit {0}) (unlisten_refusal name owner before.entries before.owners.living) tt (sym none)) is some (omega arith) few

pub unlisten_done : (name : Name) (kind : ListenKind) (owner : Option Owner) (tag : ℕ) (before mid now : Stored) (notices : Notices)
    (evaluated spent : ℕ) → None ≡ unlisten_refusal name owner before.entries before.owners.living
    → mid ≡ made_unlisten name.0 kind owner tag before → now ≡ after_watching mid → IsSilent None notices
    → spent ≤ evaluated + due mid → Applied (Unlisten name kind owner tag) before now (Ok notices) evaluated spent
unfolding made refusal
unlisten_done name kind owner tag before mid now notices evaluated spent none is read silent few =
    quiet_made (Unlisten name kind owner tag) before mid now notices evaluated evaluated spent (unlisten_quiet name kind owner tag before)
    is read (answer_ok Notices (unlisten_refusal name owner before.entries before.owners.living) notices (sym none))
    (tells_unlisten name kind owner tag before notices silent.added_is silent.invalid silent.changed) (omega arith) few

-- names that are forgotten

pub forget_short : (names : List Name) (before mid now : Stored) (evaluated spent : ℕ)
    → IsForgetAnswer {T = Unit {0}} names before.entries (Ok tt) → mid ≡ made_forget (numbers names) before → IsReadSome mid now → spent ≤ evaluated + due mid
    → Applied (Forget names) before now (Err error.Memory) evaluated spent
unfolding made
forget_short names before mid now evaluated spent answer is some few =
    quiet_short (Forget names) before mid now evaluated evaluated spent (forget_quiet names before) answer is some (omega arith) few

pub forget_done : (names : List Name) (before mid now : Stored) (notices : Notices) (evaluated spent : ℕ)
    → IsForgetAnswer names before.entries (Ok notices)
    → mid ≡ made_forget (numbers names) before → now ≡ after_watching mid → IsSilent None notices
    → spent ≤ evaluated + due mid → Applied (Forget names) before now (Ok notices) evaluated spent
unfolding made
forget_done names before mid now notices evaluated spent answer is read silent few =
    quiet_made (Forget names) before mid now notices evaluated evaluated spent (forget_quiet names before) is read answer
    (tells_forget names before answer.1 notices silent.added_is silent.invalid silent.changed) (omega arith) few

-- the end of a binding

-- the name is known
abbrev pub MayUnbind : Name → Stored → Type 0
MayUnbind name stored = unknown_in stored.entries name.0 ≡ false

unbind_allowed : (name : Name) (before : Stored) → MayUnbind name before → unknown_of (name ∷ []) before.entries ≡ None
unbind_allowed name before may = rw may refl

pub unbind_refused : (name : Name) (before : Stored) (evaluated : ℕ) → unknown_in before.entries name.0 ≡ true
    → Applied (Unbind name) before before (Err (error.Unknown name)) evaluated evaluated
unfolding refusal
unbind_refused name before evaluated unknown =
    step_failed (Unbind name) before before (error.Unknown name) evaluated
    (answer_err Notices (unknown_of (name ∷ []) before.entries) (error.Unknown name) (rw unknown refl)) refl

pub unbind_unmade : (T : Type 0) (name : Name) (before now : Stored) (cause : StoreError) (evaluated first : ℕ) → MayUnbind name before
    → IsAnswer {T = T} error.Memory (unknown_of (name ∷ []) before.entries) (Err cause) → (cause ≡ error.Memory → IsReadSome before now)
    → first ≤ evaluated + evaluations before.entries name.0 before.unread
    → Applied (Unbind name) before now (Err cause) evaluated first
unfolding refusal
unbind_unmade T name before now cause evaluated first may answer short few =
    let none = unbind_allowed name before may in
    let memory : cause ≡ error.Memory = err_memory T (unknown_of (name ∷ []) before.entries) cause none answer in
    quiet_unmade (Unbind name) before now cause evaluated first (answer_ok (Unit {0}) (unknown_of (name ∷ []) before.entries) tt none)
    memory (short memory) few

pub unbind_short : (name : Name) (before mid now : Stored) (evaluated first spent : ℕ) → MayUnbind name before
    → mid ≡ made_unbind name.0 before
    → IsReadSome mid now → first ≤ evaluated + evaluations before.entries name.0 before.unread → spent ≤ first + due mid
    → Applied (Unbind name) before now (Err error.Memory) evaluated spent
unfolding made refusal
unbind_short name before mid now evaluated first spent may is some one two =
    quiet_short (Unbind name) before mid now evaluated first spent (unbind_quiet name before)
    (answer_ok (Unit {0}) (unknown_of (name ∷ []) before.entries) tt (unbind_allowed name before may)) is some one two

pub unbind_done : (name : Name) (before mid now : Stored) (notices : Notices) (evaluated first spent : ℕ)
    → (rank : ℕ → ℕ) × Ranked before.entries rank → MayUnbind name before → mid ≡ made_unbind name.0 before → now ≡ after_watching mid
    → IsSilent None notices → first ≤ evaluated + evaluations before.entries name.0 before.unread → spent ≤ first + due mid
    → Applied (Unbind name) before now (Ok notices) evaluated spent
unfolding made refusal
unbind_done name before mid now notices evaluated first spent ranks may is read silent one two =
    quiet_made (Unbind name) before mid now notices evaluated first spent (unbind_quiet name before) is read
    (answer_ok Notices (unknown_of (name ∷ []) before.entries) notices (unbind_allowed name before may))
    (tells_unbind name before ranks.0 ranks.1 notices silent.added_is silent.invalid silent.changed) one two

-- a further listener

-- the property is read
abbrev pub listened : ℕ → Stored → Stored
listened name stored = with_unread (after_reading stored.entries name stored.unread) stored

-- nothing speaks against a listener
abbrev pub MayListen : Name → Option Owner → Stored → Type 0
MayListen name owner stored =
    listen_refusal name owner stored.entries stored.owners.living stored.listeners stored.given ≡ None

listened_some : (name : ℕ) (before mid : Stored) → mid ≡ listened name before → IsReadSome before mid
listened_some name before mid is =
    subst (IsReadSome before) (sym is)
    (record {
      rest = refl;
      flags = length-reading before.entries name before.unread;
      fewer = reading_fewer before.entries name before.unread;
    })

pub listened_off : (name : ℕ) (before mid : Stored) → mid ≡ listened name before → marked mid.unread name ≡ false
listened_off name before mid is =
    ap (λ (s : Stored). marked s.unread name) is
    ∙ marked-reading before.entries name before.unread name
    ∙ and_right (marked before.unread name) _ (ap not (leads_itself before.entries name))

may_known : (name : Name) (owner : Option Owner) (before : Stored) → MayListen name owner before
    → unknown_of (name ∷ []) before.entries ≡ None
unfolding listen_refusal
may_known name owner before may =
    let parts = allowed_by name (unknown_in before.entries name.0) (has_life before.owners.living owner) _ may in
    rw parts.0 refl

listen_ok : (name : Name) (kind : ListenKind) (owner : Option Owner) (tag : ℕ) (before : Stored) → MayListen name owner before
    → IsAllowed (Listen name kind owner tag) before
unfolding refusal
listen_ok name kind owner tag before may =
    answer_ok (Unit {0}) (listen_refusal name owner before.entries before.owners.living before.listeners before.given) tt may

pub listen_refused : (name : Name) (kind : ListenKind) (owner : Option Owner) (tag : ℕ) (before : Stored) (cause : StoreError)
    (evaluated : ℕ)
    → Some cause ≡ listen_refusal name owner before.entries before.owners.living before.listeners before.given
    → Applied (Listen name kind owner tag) before before (Err cause) evaluated evaluated
unfolding refusal
listen_refused name kind owner tag before cause evaluated some =
    step_failed (Listen name kind owner tag) before before cause evaluated
    (answer_err Notices (listen_refusal name owner before.entries before.owners.living before.listeners before.given) cause (sym some))
    refl

pub listen_unread : (T : Type 0) (name : Name) (kind : ListenKind) (owner : Option Owner) (tag : ℕ) (before now : Stored)
    (cause : StoreError) (evaluated first : ℕ) → MayListen name owner before
    → IsAnswer {T = T} error.Memory (unknown_of (name ∷ []) before.entries) (Err cause) → (cause ≡ error.Memory → IsReadSome before now)
    → first ≤ evaluated + evaluations before.entries name.0 before.unread
    → Applied (Listen name kind owner tag) before now (Err cause) evaluated first
listen_unread T name kind owner tag before now cause evaluated first may answer short few =
    let memory : cause ≡ error.Memory =
    err_memory T (unknown_of (name ∷ []) before.entries) cause (may_known name owner before may) answer in
    quiet_unmade (Listen name kind owner tag) before now cause evaluated first (listen_ok name kind owner tag before may) memory
    (short memory) few

pub listen_unmade : (name : Name) (kind : ListenKind) (owner : Option Owner) (tag : ℕ) (before mid now : Stored)
    (cause : StoreError) (evaluated first : ℕ) → MayListen name owner before → cause ≡ error.Memory → mid ≡ listened name.0 before → now ≡ mid
    → first ≤ evaluated + evaluations before.entries name.0 before.unread
    → Applied (Listen name kind owner tag) before now (Err cause) evaluated first
listen_unmade name kind owner tag before mid now cause evaluated first may memory is same few =
    quiet_unmade (Listen name kind owner tag) before now cause evaluated first (listen_ok name kind owner tag before may) memory
    (listened_some name.0 before now (same ∙ is)) few

-- with the listener
abbrev pub heard : Name → ListenKind → Option Owner → ℕ → Stored → Stored
heard name kind owner tag stored =
    with_listeners (placed (new_listener (stored.given + 1) name kind owner tag) stored.listeners) (stored.given + 1) stored

heard_made : (name : Name) (kind : ListenKind) (owner : Option Owner) (tag : ℕ) (before mid all : Stored)
    → mid ≡ listened name.0 before → all ≡ heard name kind owner tag mid → all ≡ made (Listen name kind owner tag) before
unfolding made
heard_made name kind owner tag before mid all is more = more ∙ ap (heard name kind owner tag) is

pub listen_short : (name : Name) (kind : ListenKind) (owner : Option Owner) (tag : ℕ) (before mid all now : Stored)
    (evaluated first spent : ℕ) → MayListen name owner before → mid ≡ listened name.0 before → all ≡ heard name kind owner tag mid
    → IsReadSome all now
    → first ≤ evaluated + evaluations before.entries name.0 before.unread → spent ≤ first + due all
    → Applied (Listen name kind owner tag) before now (Err error.Memory) evaluated spent
listen_short name kind owner tag before mid all now evaluated first spent may is more some one two =
    quiet_short (Listen name kind owner tag) before all now evaluated first spent (listen_quiet name kind owner tag before)
    (listen_ok name kind owner tag before may)
    (heard_made name kind owner tag before mid all is more) some one two

pub listen_done : (name : Name) (kind : ListenKind) (owner : Option Owner) (tag : ℕ) (before mid all now : Stored) (notices : Notices)
    (number evaluated first spent : ℕ) → MayListen name owner before → mid ≡ listened name.0 before
    → number ≡ mid.given + 1 → all ≡ heard name kind owner tag mid
    → now ≡ after_watching all → IsSilent (Some number) notices
    → first ≤ evaluated + evaluations before.entries name.0 before.unread → spent ≤ first + due all
    → Applied (Listen name kind owner tag) before now (Ok notices) evaluated spent
unfolding refusal
listen_done name kind owner tag before mid all now notices number evaluated first spent may is next more read silent one two =
    quiet_made (Listen name kind owner tag) before all now notices evaluated first spent (listen_quiet name kind owner tag before)
    (heard_made name kind owner tag before mid all is more) read
    (answer_ok Notices (listen_refusal name owner before.entries before.owners.living before.listeners before.given) notices may)
    (tells_listen name kind owner tag before notices
    (silent.added_is ∙ ap Some (next ∙ ap (λ (s : Stored). s.given + 1) is)) silent.invalid silent.changed)
    one two
