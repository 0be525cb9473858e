-- Reads of several names: flags afterwards, and what the reads cost.
use Rattle.std.proofs.Common.{◌≡◌, ℕ, ◌+◌, ◌<◌, ◌≤◌, Bool, true, false, cond, not, ◌&&◌, ◌||◌, List, [], ◌∷◌, ◌++◌, length, arith, refl, sym, ◌∙◌, ap, inl, inr}
use Rattle.std.specs.List.{Contains, range_with_len}
use Rattle.std.proofs.lemmas.Bool.{cases_lt, both_ways, or_cases, or_left, or_right, and_parts, and_from, false_from_ne_true}
use Rattle.std.proofs.lemmas.List.{get_or_past}
use Rattle.std.proofs.lemmas.List.Elements.{Contains-append_left, Contains-push, Contains-push_cases}
use Rattle.fx_graph_model.specs.declared.entries.Entry.{Entry}
use Rattle.fx_graph_model.specs.Uses.{bound_in, leads}
use Rattle.fx_graph_model.specs.Unread.{marked, tally, is_reached, after_reading, after_reads, bound_unread, evaluations, evaluations_of, IsClosed}
use Rattle.fx_graph_model.proofs.Members.{none_in_nil, any_from, any_at, tally_same, tally_le}
use Rattle.fx_graph_model.proofs.Walks.{leads-down}
use Rattle.fx_graph_model.proofs.Flags.{marked-by, length-by, flags_by, same_test}

pub reached-at : (es : List Entry) (names : List ℕ) (name other : ℕ) → Contains names name → leads es name other ≡ true
    → is_reached es names other ≡ true
unfolding is_reached
reached-at es names name other c e = any_at (λ (n : ℕ). leads es n other) names name c e

pub reached-from : (es : List Entry) (names : List ℕ) (other : ℕ) → is_reached es names other ≡ true
    → (name : ℕ) × Contains names name × (leads es name other ≡ true)
unfolding is_reached
reached-from es names other e = any_from (λ (n : ℕ). leads es n other) names e

-- more names reach more
pub reached-more : (es : List Entry) (xs ys : List ℕ) (other : ℕ) → ((n : ℕ) → Contains xs n → Contains ys n)
    → is_reached es xs other ≡ true → is_reached es ys other ≡ true
reached-more es xs ys other more e =
    let from = reached-from es xs other e in
    reached-at es ys from.0 other (more from.0 from.1) from.2

pub reached-same : (es : List Entry) (xs ys : List ℕ) (other : ℕ) → ((n : ℕ) → Contains xs n → Contains ys n)
    → ((n : ℕ) → Contains ys n → Contains xs n) → is_reached es xs other ≡ is_reached es ys other
reached-same es xs ys other there back = same_test _ _ (reached-more es xs ys other there) (reached-more es ys xs other back)

pub reached-none : (es : List Entry) (other : ℕ) → is_reached es [] other ≡ false
reached-none es other =
    false_from_ne_true (is_reached es [] other) (λ e. let from = reached-from es [] other e in none_in_nil from.0 from.1)

pub reached-push : (es : List Entry) (names : List ℕ) (name other : ℕ)
    → is_reached es (names ++ name ∷ []) other ≡ (is_reached es names other || leads es name other)
reached-push es names name other = same_test _ _ there back
  where
    there : is_reached es (names ++ name ∷ []) other ≡ true → (is_reached es names other || leads es name other) ≡ true
    there e =
        let from = reached-from es (names ++ name ∷ []) other e in
        elim (Contains-push_cases names name from.0 from.1) [
          | inl old ↦ or_left _ _ (reached-at es names from.0 other old from.2)
          | inr new ↦ or_right _ _ (ap (λ n. leads es n other) new ∙ from.2)
        ]

    back : (is_reached es names other || leads es name other) ≡ true → is_reached es (names ++ name ∷ []) other ≡ true
    back e =
        elim (or_cases (is_reached es names other) (leads es name other) e) [
          | inl old ↦
              reached-more es names (names ++ name ∷ []) other (λ n c. Contains-append_left names (name ∷ []) n c) old
          | inr new ↦ reached-at es (names ++ name ∷ []) name other (Contains-push names name) new
        ]

-- flags of which a test leaves some, by name
marked_left : (flags : List Bool) (gone : ℕ → Bool) (other : ℕ) → (marks : List Bool)
    → length marks ≡ length flags → ((n : ℕ) → n < length flags → marked marks n ≡ (marked flags n && not (gone n)))
    → marked marks other ≡ (marked flags other && not (gone other))
marked_left flags gone other marks long each =
    elim (cases_lt other (length flags)) [
      | inl within ↦ each other within
      | inr past ↦
          get_or_past marks other false (omega arith)
          ∙ ap (λ (b : Bool). b && not (gone other)) (sym (get_or_past flags other false past))
    ]

pub length-reads : (es : List Entry) (names : List ℕ) (flags : List Bool) → length (after_reads es names flags) ≡ length flags
length-reads es names flags = length-by (λ (k : ℕ). marked flags k && not (is_reached es names k)) (length flags)

pub marked-reads : (es : List Entry) (names : List ℕ) (flags : List Bool) (other : ℕ)
    → marked (after_reads es names flags) other ≡ (marked flags other && not (is_reached es names other))
marked-reads es names flags other =
    marked_left flags (is_reached es names) other (after_reads es names flags) (length-reads es names flags)
    (λ n h. marked-by (λ (k : ℕ). marked flags k && not (is_reached es names k)) (length flags) n h)

pub length-reading : (es : List Entry) (name : ℕ) (flags : List Bool) → length (after_reading es name flags) ≡ length flags
length-reading es name flags = length-by (λ (k : ℕ). marked flags k && not (leads es name k)) (length flags)

pub marked-reading : (es : List Entry) (name : ℕ) (flags : List Bool) (other : ℕ)
    → marked (after_reading es name flags) other ≡ (marked flags other && not (leads es name other))
marked-reading es name flags other =
    marked_left flags (leads es name) other (after_reading es name flags) (length-reading es name flags)
    (λ n h. marked-by (λ (k : ℕ). marked flags k && not (leads es name k)) (length flags) n h)

-- the flags that the reads leave
pub reads_by : (es : List Entry) (names : List ℕ) (flags now : List Bool) → length now ≡ length flags
    → ((other : ℕ) → marked now other ≡ (marked flags other && not (is_reached es names other)))
    → now ≡ after_reads es names flags
reads_by es names flags now long each =
    flags_by (λ (k : ℕ). marked flags k && not (is_reached es names k)) now (length flags) long (λ n h. each n)

pub reads_none : (es : List Entry) (flags : List Bool) → after_reads es [] flags ≡ flags
reads_none es flags =
    sym (reads_by es [] flags flags refl
    (λ other. sym (ap (λ (b : Bool). marked flags other && not b) (reached-none es other) ∙ and-true (marked flags other))))
  where
    and-true : (b : Bool) → (b && true) ≡ b
    and-true true = refl
    and-true false = refl

-- one name more
pub reads_push : (es : List Entry) (names : List ℕ) (name : ℕ) (flags : List Bool)
    → after_reading es name (after_reads es names flags) ≡ after_reads es (names ++ name ∷ []) flags
reads_push es names name flags =
    reads_by es (names ++ name ∷ []) flags (after_reading es name (after_reads es names flags))
    (length-reading es name (after_reads es names flags) ∙ length-reads es names flags)
    (λ other.
    marked-reading es name (after_reads es names flags) other
    ∙ ap (λ (b : Bool). b && not (leads es name other)) (marked-reads es names flags other)
    ∙ both (marked flags other) (is_reached es names other) (leads es name other)
    ∙ ap (λ (b : Bool). marked flags other && not b) (sym (reached-push es names name other)))
  where
    both : (a b c : Bool) → ((a && not b) && not c) ≡ (a && not (b || c))
    both true true c = refl
    both true false c = refl
    both false b c = refl

-- the order of the names, and how often each stands there, is nothing to the flags
pub reads_same : (es : List Entry) (xs ys : List ℕ) (flags : List Bool) → ((n : ℕ) → Contains xs n → Contains ys n)
    → ((n : ℕ) → Contains ys n → Contains xs n) → after_reads es xs flags ≡ after_reads es ys flags
reads_same es xs ys flags there back =
    reads_by es ys flags (after_reads es xs flags) (length-reads es xs flags)
    (λ other.
    marked-reads es xs flags other
    ∙ ap (λ (b : Bool). marked flags other && not b) (reached-same es xs ys other there back))

-- nor to the cost
pub evaluations_same : (es : List Entry) (xs ys : List ℕ) (flags : List Bool) → ((n : ℕ) → Contains xs n → Contains ys n)
    → ((n : ℕ) → Contains ys n → Contains xs n) → evaluations_of es xs flags ≡ evaluations_of es ys flags
unfolding evaluations_of
evaluations_same es xs ys flags there back =
    tally_same (λ (k : ℕ). bound_in es k && (marked flags k && is_reached es xs k))
    (λ (k : ℕ). bound_in es k && (marked flags k && is_reached es ys k)) (range_with_len 0 (length es))
    (λ k _. ap (λ (b : Bool). bound_in es k && (marked flags k && b)) (reached-same es xs ys k there back))

pub evaluations_more : (es : List Entry) (xs ys : List ℕ) (flags : List Bool) → ((n : ℕ) → Contains xs n → Contains ys n)
    → evaluations_of es xs flags ≤ evaluations_of es ys flags
unfolding evaluations_of
evaluations_more es xs ys flags more =
    tally_le (λ (k : ℕ). bound_in es k && (marked flags k && is_reached es xs k))
    (λ (k : ℕ). bound_in es k && (marked flags k && is_reached es ys k)) (range_with_len 0 (length es))
    (λ k _ e. weaker k e)
  where
    weaker : (k : ℕ) → (bound_in es k && (marked flags k && is_reached es xs k)) ≡ true
        → (bound_in es k && (marked flags k && is_reached es ys k)) ≡ true
    weaker k e =
        let outer = and_parts (bound_in es k) (marked flags k && is_reached es xs k) e in
        let inner = and_parts (marked flags k) (is_reached es xs k) outer.1 in
        and_from _ _ outer.0 (and_from _ _ inner.0 (reached-more es xs ys k more inner.1))

-- what read names reach is read
pub reached_read : (es : List Entry) (names : List ℕ) (flags : List Bool) → IsClosed es flags
    → ((n : ℕ) → Contains names n → marked flags n ≡ false) → (other : ℕ) → is_reached es names other ≡ true → marked flags other ≡ false
reached_read es names flags closed off other e =
    let from = reached-from es names other e in
    leads-down es (λ (k : ℕ). marked flags k ≡ false) from.0 other (off from.0 from.1)
    (λ a o c fails. false_from_ne_true (marked flags o) (λ on. both_ways _ fails (closed a o c on))) from.2

-- reads of names that are read change nothing
pub reads_again : (es : List Entry) (names : List ℕ) (flags : List Bool) → IsClosed es flags
    → ((n : ℕ) → Contains names n → marked flags n ≡ false) → after_reads es names flags ≡ flags
reads_again es names flags closed off =
    sym (reads_by es names flags flags refl
    (λ other.
    left (marked flags other) (is_reached es names other) (λ (e : is_reached es names other ≡ true). reached_read es names flags closed off other e)))
  where
    left : (a b : Bool) → (b ≡ true → a ≡ false) → a ≡ (a && not b)
    left true true none = none refl
    left true false none = refl
    left false b none = refl

-- what passes one of two tests
tally_both : (p q r : ℕ → Bool) (xs : List ℕ) → ((x : ℕ) → cond {A = ℕ} (p x) 1 0 + cond {A = ℕ} (q x) 1 0 ≡ cond (r x) 1 0)
    → tally p xs + tally q xs ≡ tally r xs
tally_both p q r [] each = refl
tally_both p q r (x ∷ xs) each =
    let rest : tally p xs + tally q xs ≡ tally r xs = tally_both p q r xs each in
    let first : cond {A = ℕ} (p x) 1 0 + cond {A = ℕ} (q x) 1 0 ≡ cond (r x) 1 0 = each x in
    omega arith

-- a name is bound and unread, and is read or isn't
read_or_left : (b m r : Bool)
    → cond {A = ℕ} (b && (m && not r)) 1 0 + cond {A = ℕ} (b && (m && r)) 1 0 ≡ cond (b && m) 1 0
read_or_left true true true = refl
read_or_left true true false = refl
read_or_left true false r = refl
read_or_left false m r = refl

-- the unread bound names are those that the reads leave, and those that they evaluate
pub reads_cost : (es : List Entry) (names : List ℕ) (flags : List Bool)
    → bound_unread es (after_reads es names flags) + evaluations_of es names flags ≡ bound_unread es flags
unfolding bound_unread evaluations_of
reads_cost es names flags =
    tally_both (λ (k : ℕ). bound_in es k && marked (after_reads es names flags) k)
    (λ (k : ℕ). bound_in es k && (marked flags k && is_reached es names k)) (λ (k : ℕ). bound_in es k && marked flags k)
    (range_with_len 0 (length es))
    (λ k.
    ap (λ (b : Bool). cond {A = ℕ} (bound_in es k && b) 1 0 + cond {A = ℕ} (bound_in es k && (marked flags k && is_reached es names k)) 1 0)
    (marked-reads es names flags k)
    ∙ read_or_left (bound_in es k) (marked flags k) (is_reached es names k))

pub reading_cost : (es : List Entry) (name : ℕ) (flags : List Bool)
    → bound_unread es (after_reading es name flags) + evaluations es name flags ≡ bound_unread es flags
unfolding bound_unread evaluations
reading_cost es name flags =
    tally_both (λ (k : ℕ). bound_in es k && marked (after_reading es name flags) k)
    (λ (k : ℕ). bound_in es k && (marked flags k && leads es name k)) (λ (k : ℕ). bound_in es k && marked flags k)
    (range_with_len 0 (length es))
    (λ k.
    ap (λ (b : Bool). cond {A = ℕ} (bound_in es k && b) 1 0 + cond {A = ℕ} (bound_in es k && (marked flags k && leads es name k)) 1 0)
    (marked-reading es name flags k)
    ∙ read_or_left (bound_in es k) (marked flags k) (leads es name k))

-- a read after others costs what it adds to theirs
pub evaluations_push : (es : List Entry) (names : List ℕ) (name : ℕ) (flags : List Bool)
    → evaluations_of es names flags + evaluations es name (after_reads es names flags) ≡ evaluations_of es (names ++ name ∷ []) flags
evaluations_push es names name flags =
    let before : bound_unread es (after_reads es names flags) + evaluations_of es names flags ≡ bound_unread es flags =
    reads_cost es names flags in
    let one : bound_unread es (after_reading es name (after_reads es names flags)) + evaluations es name (after_reads es names flags)
    ≡ bound_unread es (after_reads es names flags) =
    reading_cost es name (after_reads es names flags) in
    let after : bound_unread es (after_reads es (names ++ name ∷ []) flags) + evaluations_of es (names ++ name ∷ []) flags
    ≡ bound_unread es flags =
    reads_cost es (names ++ name ∷ []) flags in
    let same : bound_unread es (after_reading es name (after_reads es names flags)) ≡ bound_unread es (after_reads es (names ++ name ∷ []) flags) =
    ap (bound_unread es) (reads_push es names name flags) in
    omega arith

-- what was spent on the names so far
pub reads_spent : (es : List Entry) (names : List ℕ) (flags : List Bool) (began cost : ℕ)
    → cost + bound_unread es (after_reads es names flags) ≡ began + bound_unread es flags
    → cost ≡ began + evaluations_of es names flags
reads_spent es names flags began cost spent =
    let sum : bound_unread es (after_reads es names flags) + evaluations_of es names flags ≡ bound_unread es flags =
    reads_cost es names flags in
    omega arith
