-- What the end of a change leaves of the lists.
use Rattle.std.proofs.Common.{◌≡◌, ℕ, Bool, List, refl, ap}
use Rattle.fx_graph_model.specs.Changes.{State, after_change}
use Rattle.fx_graph_model.specs.Unread.{after_marking}
use Rattle.fx_graph.specs.declared.lists.Lists.{Lists}
use Rattle.fx_graph.specs.Store.{Holds, IsStore, IsMarked, shown}

-- nothing but the flags and the lists to mark in changed
abbrev pub Ends : Lists → Lists → Type 0
Ends l f = f ≡ record l { unread = f.unread; work = f.work; newly = f.newly; newly_count = f.newly_count }

pub store_finished : (l f : Lists) (names : List ℕ) (was : List Bool) → Ends l f → IsMarked names was f
    → IsStore l.entries.items l.users.items (after_marking l.entries.items names was) l.spare.items f.newly.items f.newly_count
    l.cache.items f.work.items l.operand_count
    → Holds f
store_finished l f names was e m s =
    let entries : f.entries ≡ l.entries = ap (λ (x : Lists). x.entries) e in
    let users : f.users ≡ l.users = ap (λ (x : Lists). x.users) e in
    let spare : f.spare ≡ l.spare = ap (λ (x : Lists). x.spare) e in
    let cache : f.cache ≡ l.cache = ap (λ (x : Lists). x.cache) e in
    let count : f.operand_count ≡ l.operand_count = ap (λ (x : Lists). x.operand_count) e in
    let unread : f.unread.items ≡ after_marking l.entries.items names was = rw entries at m.unread in
    rw (entries, users, spare, cache, count, unread) s

pub shown_finished : (l f : Lists) (names : List ℕ) (was : List Bool) (state : State) → Ends l f → IsMarked names was f
    → state.unread ≡ was → shown f ≡ after_change l.entries.items names state
shown_finished l f names was state e m same =
    let entries : f.entries ≡ l.entries = ap (λ (x : Lists). x.entries) e in
    let unread : f.unread.items ≡ after_marking l.entries.items names was = rw entries at m.unread in
    let newly = rw entries at m.newly in
    rw (entries, unread, newly, same) refl
