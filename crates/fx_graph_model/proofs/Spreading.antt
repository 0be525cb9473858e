-- Marks spread to users, one listed name after another; at the end the flags are those of the definition.
use Rattle.std.proofs.Common.{◌≡◌, ℕ, ◌+◌, ◌<◌, ◌≤◌, Bool, true, false, ◌||◌, List, length, arith, sym, ◌∙◌, ap, subst, inl, inr, ◌⊎◌}
use Rattle.std.specs.List.{Contains}
use Rattle.std.proofs.lemmas.Bool.{cases_Bool, cases_lt, cases_eq, or_cases, or_left, or_right}
use Rattle.fx_graph_model.specs.declared.entries.Entry.{Entry}
use Rattle.fx_graph_model.specs.Uses.{uses, Ranked}
use Rattle.fx_graph_model.specs.Unread.{marked, leads_to_any, after_marking, IsClosed}
use Rattle.fx_graph_model.specs.Marking.{at, Listed, MarksAll, IsClosedBut, IsPending}
use Rattle.fx_graph_model.specs.Users.{Row, users_of, Mirrors}
use Rattle.fx_graph_model.proofs.Walks.{leads-up, any-member, any-first, any-to}
use Rattle.fx_graph_model.proofs.Flags.{flags_by, same_test}

-- `names` were marked in `began`, which gave `flags`, and the first `done` of the work list have been gone through
pub record Spreads (entries : List Entry) (names : List ℕ) (began flags : List Bool) (work : List ℕ) (done end : ℕ) : Type 0 where
  pub within : done ≤ end
  pub members : (name : ℕ) → Contains names name → marked flags name ≡ true
  pub sound : (name : ℕ) → marked flags name ≡ true → (marked began name ≡ true) ⊎ (leads_to_any entries names name ≡ true)
  pub pending : IsPending entries flags work done end
  pub led : (i : ℕ) → i < end → leads_to_any entries names (at work i) ≡ true
  pub listed : Listed began flags work end

-- the names themselves are marked
pub spreads_start : (entries : List Entry) (names : List ℕ) (began flags : List Bool) (work after : List ℕ) (end : ℕ)
    → IsClosedBut entries began names → MarksAll names began work 0 flags after end → Listed began began work 0
    → Spreads entries names began flags after 0 end
spreads_start entries names began flags work after end closed m l = record {
  within = omega arith;
  members = m.each;
  sound = λ name on. sound name (m.only name on);
  pending = λ user name c on. pending user name c on (cases_Bool (marked began name));
  led = λ i h. any-member entries names (at after i) (m.fresh i (omega arith) h);
  listed = m.goes_on began l;
}
  where
    sound : (name : ℕ) → (marked began name ≡ true) ⊎ Contains names name
        → (marked began name ≡ true) ⊎ (leads_to_any entries names name ≡ true)
    sound name (inl was) = inl was
    sound name (inr c) = inr (any-member entries names name c)

    pending : (user name : ℕ) → Contains (uses entries user) name → marked flags name ≡ true
        → (marked began name ≡ true) ⊎ (marked began name ≡ false)
        → (marked flags user ≡ true) ⊎ ((i : ℕ) × (0 ≤ i) × (i < end) × (at after i ≡ name))
    pending user name c on (inl was) =
        elim (closed user name c was) [
          | inl too ↦ inl (m.kept user too)
          | inr member ↦ inl (m.each user member)
        ]
    pending user name c on (inr off) = inr (m.found name off on)

-- one turn: the users of the next listed name are marked
pub spreads_more : (entries : List Entry) (rank : ℕ → ℕ) → Ranked entries rank → (users : List Row) → Mirrors entries users
    → (names : List ℕ) (began flags : List Bool) (work : List ℕ) (done end : ℕ) (now : List Bool) (after : List ℕ) (last : ℕ)
    → Spreads entries names began flags work done end → done < end
    → MarksAll (users_of users (at work done)) flags work end now after last
    → Spreads entries names began now after (done + 1) last
spreads_more entries rank ranked users mirrors names began flags work done end now after last s here m =
    let more : end ≤ last = m.more in
    record {
      within = omega arith;
      members = λ name c. m.kept name (s.members name c);
      sound = λ name on. sound name (m.only name on);
      pending = λ user name c on. pending user name c (cases_Bool (marked flags name)) on;
      led = λ i h. led i h (cases_lt i end);
      listed = m.goes_on began s.listed;
    }
  where
    by_use : (user : ℕ) → Contains (users_of users (at work done)) user → leads_to_any entries names user ≡ true
    by_use user c = any-first entries rank ranked names user (at work done) (mirrors.using user (at work done) c) (s.led done here)

    sound : (name : ℕ) → (marked flags name ≡ true) ⊎ Contains (users_of users (at work done)) name
        → (marked began name ≡ true) ⊎ (leads_to_any entries names name ≡ true)
    sound name (inl was) = s.sound name was
    sound name (inr c) = inr (by_use name c)

    later : (user name : ℕ) → Contains (uses entries user) name → (i : ℕ) → done ≤ i → i < end → at work i ≡ name
        → (done ≡ i) ⊎ (done ≡ i → ⊥)
        → (marked now user ≡ true) ⊎ ((i : ℕ) × (done + 1 ≤ i) × (i < last) × (at after i ≡ name))
    later user name c i low high e (inl same) =
        let P : ℕ → Type 0 = λ n. Contains (users_of users n) user in
        inl (m.each user (subst P (sym (ap (at work) same ∙ e)) (mirrors.listed user name c)))
    later user name c i low high e (inr differs) =
        let more : end ≤ last = m.more in
        let above : done < i = omega arith in
        inr (i, omega arith, omega arith, m.front i high ∙ e)

    pending : (user name : ℕ) → Contains (uses entries user) name → (marked flags name ≡ true) ⊎ (marked flags name ≡ false)
        → marked now name ≡ true
        → (marked now user ≡ true) ⊎ ((i : ℕ) × (done + 1 ≤ i) × (i < last) × (at after i ≡ name))
    pending user name c (inl was) on =
        elim (s.pending user name c was) [
          | inl too ↦ inl (m.kept user too)
          | inr place ↦ later user name c place.0 place.1 place.2 place.3 (cases_eq done place.0)
        ]
    pending user name c (inr off) on =
        let place = m.found name off on in
        let low : end ≤ place.0 = place.1 in
        inr (place.0, omega arith, place.2, place.3)

    led : (i : ℕ) → i < last → (i < end) ⊎ (end ≤ i) → leads_to_any entries names (at after i) ≡ true
    led i h (inl below) = ap (leads_to_any entries names) (m.front i below) ∙ s.led i below
    led i h (inr above) = by_use (at after i) (m.fresh i above h)

-- at the end the flags are closed
pub spreads_closed : (entries : List Entry) (names : List ℕ) (began flags : List Bool) (work : List ℕ) (end : ℕ)
    → Spreads entries names began flags work end end → IsClosed entries flags
spreads_closed entries names began flags work end s user name c on =
    elim (s.pending user name c on) [
      | inl too ↦ too
      | inr place ↦
          let low : end ≤ place.0 = place.1 in
          let high : place.0 < end = place.2 in
          absurd (omega arith)
    ]

pub spreads_end : (entries : List Entry) (names : List ℕ) (began flags : List Bool) (work : List ℕ) (end : ℕ)
    → Spreads entries names began flags work end end → flags ≡ after_marking entries names began
spreads_end entries names began flags work end s =
    flags_by (λ (name : ℕ). marked began name || leads_to_any entries names name) flags (length began) s.listed.flags
    (λ name h. same_test _ _ (there name) (back name))
  where
    closed : IsClosed entries flags
    closed = spreads_closed entries names began flags work end s

    there : (name : ℕ) → marked flags name ≡ true → (marked began name || leads_to_any entries names name) ≡ true
    there name on =
        elim (s.sound name on) [
          | inl was ↦ or_left _ _ was
          | inr led ↦ or_right _ _ led
        ]

    back : (name : ℕ) → (marked began name || leads_to_any entries names name) ≡ true → marked flags name ≡ true
    back name e =
        elim (or_cases (marked began name) (leads_to_any entries names name) e) [
          | inl was ↦ s.listed.kept name was
          | inr led ↦
              let to = any-to entries names name led in
              leads-up entries (λ (n : ℕ). marked flags n ≡ true) name to.0 (s.members to.0 to.1) closed to.2
        ]
