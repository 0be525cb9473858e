-- Changes that mark no name, and so tell nothing.
use Rattle.std.proofs.Common.{◌≡◌, ℕ, ◌==◌, true, not, List, [], Option, Some, None, ◌+◌, refl, sym, ap, ◌∙◌}
use Rattle.std.proofs.lemmas.Bool.{cond_both, not-true}
use Rattle.fx_base.specs.declared.keys.Name.{Name}
use Rattle.fx_store_model.specs.declared.changes.Change.{Change}
use Rattle.fx_store_model.specs.declared.changes.Change.TheVariants.{Unbind, Unpair, Listen, Unlisten, Forget}
use Rattle.fx_store_model.specs.declared.changes.Notices.{Notices}
use Rattle.fx_store_model.specs.Making.{changed_by, made, made_unbind, with_entries, with_group}
use Rattle.fx_store_model.specs.Step.{Tells, added_by, before_reads, changed_notices, invalid_notices}
use Rattle.fx_store_model.specs.Stored.{Stored, with_unread}
use Rattle.fx_store_model.proofs.Grouping.{set_group}
use Rattle.fx_store_model.proofs.Telling.{changed_none, changed_same}
use Rattle.fx_handles.specs.declared.Owner.{Owner}
use Rattle.fx_listen.specs.declared.entries.Listener.{Listener}
use Rattle.fx_listen.specs.declared.entries.ListenKind.{ListenKind}
use Rattle.fx_store_pairs.specs.Pairs.{is_among}
use Rattle.fx_graph_model.specs.declared.entries.Entry.{Entry}
use Rattle.fx_graph_model.specs.Eager.{eager}
use Rattle.fx_base.specs.Names.{numbers}
use Rattle.fx_graph_model.specs.Refusals.{IsFree}
use Rattle.fx_graph_model.specs.Unread.{after_marking, after_reading, newly_marked}
use Rattle.fx_graph_model.specs.Uses.{Ranked, bound_in}
use Rattle.fx_graph_model.proofs.Binding.{eager-kept}
use Rattle.fx_graph_model.proofs.Changed.{bound_known, known_within}
use Rattle.fx_graph_model.proofs.Forgetting.{eager-forget_other}
use Rattle.fx_graph_model.proofs.Marks.{marking_none, newly_none}
use Rattle.fx_graph_model.proofs.Members.{filter_contains}
use Rattle.fx_store.proofs.Staying.{not_among}

-- it changes no name's value
abbrev pub IsQuiet : Change → Stored → Type 0
IsQuiet change stored = changed_by change stored ≡ []

-- nothing is marked
pub quiet_before : (change : Change) (stored : Stored) → IsQuiet change stored → before_reads change stored
    ≡ made change stored
unfolding before_reads
quiet_before change stored quiet =
    let now : Stored = made change stored in
    ap (λ names. with_unread (after_marking now.entries names now.unread) now) quiet
    ∙ ap (λ flags. with_unread flags now) (marking_none now.entries now.unread)

pub quiet_tells : (change : Change) (stored : Stored) (notices : Notices) → IsQuiet change stored
    → changed_notices stored.entries (made change stored).entries (made change stored).listeners ≡ []
    → notices.added ≡ added_by change stored → notices.invalid ≡ [] → notices.changed ≡ [] → Tells change stored notices
quiet_tells change stored notices quiet same added invalid changed =
    let now : Stored = made change stored in
    record {
      added = added;
      invalid = invalid ∙ sym
          (ap (λ names. invalid_notices (newly_marked now.entries names now.unread) now.listeners) quiet
          ∙ ap (λ names. invalid_notices names now.listeners) (newly_none now.entries now.unread));
      changed = changed ∙ sym same;
    }

-- which changes are quiet

pub unpair_quiet : (one other : Name) (stored : Stored) → IsQuiet (Unpair one other) stored
unfolding changed_by
unpair_quiet one other stored = refl

pub unlisten_quiet : (name : Name) (kind : ListenKind) (owner : Option Owner) (tag : ℕ) (stored : Stored)
    → IsQuiet (Unlisten name kind owner tag) stored
unfolding changed_by
unlisten_quiet name kind owner tag stored = refl

pub listen_quiet : (name : Name) (kind : ListenKind) (owner : Option Owner) (tag : ℕ) (stored : Stored)
    → IsQuiet (Listen name kind owner tag) stored
unfolding changed_by
listen_quiet name kind owner tag stored = refl

pub unbind_quiet : (name : Name) (stored : Stored) → IsQuiet (Unbind name) stored
unfolding changed_by
unbind_quiet name stored = refl

pub forget_quiet : (names : List Name) (stored : Stored) → IsQuiet (Forget names) stored
unfolding changed_by
forget_quiet names stored = refl

-- what they tell: nothing but the number of a listener that was added

pub tells_unpair : (one other : Name) (stored : Stored) (notices : Notices) → notices.added ≡ None → notices.invalid
    ≡ []
    → notices.changed ≡ [] → Tells (Unpair one other) stored notices
unfolding made
tells_unpair one other stored notices added invalid changed =
    quiet_tells (Unpair one other) stored notices (unpair_quiet one other stored)
    (changed_same stored.entries stored.listeners)
    added invalid changed

pub tells_unlisten : (name : Name) (kind : ListenKind) (owner : Option Owner) (tag : ℕ) (stored : Stored)
    (notices : Notices)
    → notices.added ≡ None → notices.invalid ≡ [] → notices.changed ≡ []
    → Tells (Unlisten name kind owner tag) stored notices
unfolding made
tells_unlisten name kind owner tag stored notices added invalid changed =
    let change : Change = Unlisten name kind owner tag in
    quiet_tells change stored notices (unlisten_quiet name kind owner tag stored)
    (changed_same stored.entries (made change stored).listeners) added invalid changed

pub tells_listen : (name : Name) (kind : ListenKind) (owner : Option Owner) (tag : ℕ) (stored : Stored)
    (notices : Notices)
    → notices.added ≡ Some (stored.given + 1) → notices.invalid ≡ [] → notices.changed ≡ []
    → Tells (Listen name kind owner tag) stored notices
unfolding made
tells_listen name kind owner tag stored notices added invalid changed =
    let change : Change = Listen name kind owner tag in
    quiet_tells change stored notices (listen_quiet name kind owner tag stored)
    (changed_same stored.entries (made change stored).listeners) added invalid changed

-- a name that is unbound keeps its value, and so does who reads it
pub unbound_eager : (es : List Entry) (rank : ℕ → ℕ) → Ranked es rank → (name : ℕ) → bound_in es name ≡ true
    → (other : ℕ)
    → eager (with_group (λ (o : ℕ). o == name) (eager es name) es) other ≡ eager es other
unbound_eager es rank ranked name bound other =
    ap (λ (fs : List Entry). eager fs other) (sym (set_group es name (eager es name)
    (known_within es name (bound_known es name bound))))
    ∙ eager-kept es rank ranked name other

pub unbind_eager : (stored : Stored) (rank : ℕ → ℕ) → Ranked stored.entries rank → (name other : ℕ)
    → eager (made_unbind name stored).entries other ≡ eager stored.entries other
unbind_eager stored rank ranked name other =
    let after : Stored =
    with_entries (with_group (λ (o : ℕ). o == name) (eager stored.entries name) stored.entries)
    (with_unread (after_reading stored.entries name stored.unread) stored) in
    cond_both (bound_in stored.entries name) after stored (λ (now : Stored). eager now.entries other
    ≡ eager stored.entries other)
    (λ bound. unbound_eager stored.entries rank ranked name bound other) (λ _. refl)

pub tells_unbind : (name : Name) (stored : Stored) (rank : ℕ → ℕ) → Ranked stored.entries rank → (notices : Notices)
    → notices.added ≡ None → notices.invalid ≡ [] → notices.changed ≡ [] → Tells (Unbind name) stored notices
unfolding made
tells_unbind name stored rank ranked notices added invalid changed =
    let now : Stored = made (Unbind name) stored in
    quiet_tells (Unbind name) stored notices (unbind_quiet name stored)
    (changed_none stored.entries now.entries now.listeners (λ l _ _. unbind_eager stored rank ranked name.0 l.name.0))
    added invalid changed

-- who is left listens to a property that reads none of the forgotten ones
pub tells_forget : (names : List Name) (stored : Stored) → IsFree (numbers names) stored.entries → (notices : Notices)
    → notices.added ≡ None → notices.invalid ≡ [] → notices.changed ≡ [] → Tells (Forget names) stored notices
unfolding made
tells_forget names stored free notices added invalid changed =
    let now : Stored = made (Forget names) stored in
    quiet_tells (Forget names) stored notices (forget_quiet names stored)
    (changed_none stored.entries now.entries now.listeners
    (λ l c _. eager-forget_other (numbers names) stored.entries free l.name.0
    (not_among (numbers names) l.name.0
    (not-true _ (filter_contains (λ (m : Listener). not (is_among (numbers names) m.name.0)) stored.listeners l c).1))))
    added invalid changed
