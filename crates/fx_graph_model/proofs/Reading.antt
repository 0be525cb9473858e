-- A read: one value is kept, what a stack of names meets, and what the read has cost.
use Rattle.std.proofs.Common.{◌≡◌, ℕ, zero, suc, ◌+◌, ◌*◌, ◌-◌, ◌<◌, ◌≤◌, Bool, true, false, cond, not, ◌&&◌, List, [], ◌∷◌, length, get_or, set, arith, refl, sym, ◌∙◌, ap, subst, inl, inr, ◌⊎◌}
use Rattle.std.specs.List.{Contains, range_with_len}
use Rattle.std.proofs.lemmas.Bool.{cases_Bool, cases_lt, cases_eq, both_ways, and_parts, and_from, false_from_ne_true, not_from_false, not-true}
use Rattle.std.proofs.lemmas.List.{get_or-set_same, get_or-set_other, length-set}
use Rattle.fx_base.specs.declared.values.Value.{Value}
use Rattle.fx_expr.specs.Meaning.{no_value}
use Rattle.fx_graph_model.specs.declared.entries.Entry.{Entry}
use Rattle.fx_graph_model.specs.Uses.{entry_of, uses, bound_in, leads, Ranked}
use Rattle.fx_graph_model.specs.Eager.{value_of_definition, eager}
use Rattle.fx_graph_model.specs.Unread.{marked, tally, unmarked, bound_unread, evaluations, after_reading, IsClosed, IsPartRead}
use Rattle.fx_graph_model.specs.Marking.{at}
use Rattle.fx_graph_model.specs.Sound.{IsSettled}
use Rattle.fx_graph_model.proofs.Members.{contains_first, contains_later}
use Rattle.fx_graph_model.proofs.Walks.{leads-refl, leads-last, leads-down}
use Rattle.fx_graph_model.proofs.Values.{value_same, eager-unfold}
use Rattle.fx_graph_model.proofs.Flags.{marked-set_same, marked-set_other, marked_within, flags_by, same_test, unmarked-clear, unmarked_most}

-- what is kept of a name
abbrev pub kept_of : List Value → ℕ → Value
kept_of cache name = get_or cache name no_value

-- the value over kept operands is the eager one
pub read_value : (es : List Entry) (rank : ℕ → ℕ) → Ranked es rank → (flags : List Bool) (cache : List Value) → IsSettled es flags cache
    → (name : ℕ) → ((o : ℕ) → Contains (uses es name) o → marked flags o ≡ false)
    → value_of_definition (kept_of cache) (entry_of es name).definition ≡ eager es name
read_value es rank ranked flags cache s name free =
    value_same (kept_of cache) (eager es) (entry_of es name).definition
    (λ (o : ℕ) (c : Contains (uses es name) o). s.kept o (ranked.within name o c) (free o c))
    ∙ sym (eager-unfold es rank ranked name)

-- a name whose operands are read is read and its value kept
pub settled_more : (es : List Entry) (flags : List Bool) (cache : List Value) → IsSettled es flags cache → (name : ℕ) (value : Value)
    → ((o : ℕ) → Contains (uses es name) o → marked flags o ≡ false) → value ≡ eager es name
    → IsSettled es (set flags name false) (set cache name value)
settled_more es flags cache s name value free same = record {
  flags = length-set flags name false ∙ s.flags;
  values = length-set cache name value ∙ s.values;
  closed = λ user used c on. closed user used c on (cases_eq used name);
  kept = λ other h off. kept other h off (cases_eq other name);
}
  where
    not_here : (used : ℕ) → marked (set flags name false) used ≡ true → used ≡ name → ⊥
    not_here used on here =
        let long : length (set flags name false) ≡ length flags = length-set flags name false in
        let within : used < length (set flags name false) = marked_within (set flags name false) used on in
        let inside : name < length flags = let e : used ≡ name = here in omega arith in
        both_ways _ (ap (marked (set flags name false)) here ∙ marked-set_same flags name false inside) on

    closed : (user used : ℕ) → Contains (uses es user) used → marked (set flags name false) used ≡ true
        → (used ≡ name) ⊎ (used ≡ name → ⊥) → marked (set flags name false) user ≡ true
    closed user used c on (inl here) = absurd (not_here used on here)
    closed user used c on (inr differs) =
        let was : marked flags used ≡ true = sym (marked-set_other flags name used false differs) ∙ on in
        elim (cases_eq user name) [
          | inl here ↦
              let P : ℕ → Type 0 = λ n. Contains (uses es n) used in
              absurd (both_ways _ (free used (subst P here c)) was)
          | inr other ↦ marked-set_other flags name user false other ∙ s.closed user used c was
        ]

    kept : (other : ℕ) → other < length es → marked (set flags name false) other ≡ false
        → (other ≡ name) ⊎ (other ≡ name → ⊥) → kept_of (set cache name value) other ≡ eager es other
    kept other h off (inl here) =
        let long : length cache ≡ length es = s.values in
        let e : other ≡ name = here in
        ap (kept_of (set cache name value)) here
        ∙ get_or-set_same cache name value no_value (omega arith)
        ∙ same
        ∙ ap (eager es) (sym here)
    kept other h off (inr differs) =
        get_or-set_other cache name other value no_value differs
        ∙ s.kept other h (sym (marked-set_other flags name other false differs) ∙ off)

-- how many unread bound names are left after one was read
pub bound_unread-clear : (es : List Entry) (flags : List Bool) (name : ℕ) → name < length es → marked flags name ≡ true
    → bound_unread es (set flags name false) + cond (bound_in es name) 1 0 ≡ bound_unread es flags
unfolding bound_unread
bound_unread-clear es flags name within on =
    one_less (λ (n : ℕ). bound_in es n && marked (set flags name false) n) (λ (n : ℕ). bound_in es n && marked flags n)
    0 (length es) (omega arith) (omega arith)
    (λ n differs. ap (λ (b : Bool). bound_in es n && b) (marked-set_other flags name n false differs))
    off (ap (λ (b : Bool). bound_in es name && b) on ∙ and-true (bound_in es name))
  where
    and-true : (b : Bool) → (b && true) ≡ b
    and-true true = refl
    and-true false = refl

    and-false : (b : Bool) → (b && false) ≡ false
    and-false true = refl
    and-false false = refl

    off : (bound_in es name && marked (set flags name false) name) ≡ false
    off =
        ap (λ (b : Bool). bound_in es name && b) (marked-set_same flags name false (marked_within flags name on))
        ∙ and-false (bound_in es name)

    past : (p q : ℕ → Bool) (from n : ℕ) → name < from → ((k : ℕ) → (k ≡ name → ⊥) → p k ≡ q k)
        → tally p (range_with_len from n) ≡ tally q (range_with_len from n)
    past p q from zero below same = refl
    past p q from (suc n) below same =
        let first : p from ≡ q from = same from (λ (e : from ≡ name). omega arith) in
        let rest : tally p (range_with_len (from + 1) n) ≡ tally q (range_with_len (from + 1) n) =
        past p q (from + 1) n (omega arith) same in
        rw first (omega arith)

    one_less : (p q : ℕ → Bool) (from n : ℕ) → from ≤ name → name < from + n → ((k : ℕ) → (k ≡ name → ⊥) → p k ≡ q k)
        → p name ≡ false → q name ≡ bound_in es name
        → tally p (range_with_len from n) + cond (bound_in es name) 1 0 ≡ tally q (range_with_len from n)
    one_less p q from zero low high same gone was = absurd (omega arith)
    one_less p q from (suc n) low high same gone was =
        elim (cases_eq from name) [
          | inl here ↦
              let rest : tally p (range_with_len (from + 1) n) ≡ tally q (range_with_len (from + 1) n) =
              past p q (from + 1) n (omega arith) same in
              let first : p from ≡ false = ap p here ∙ gone in
              let second : q from ≡ bound_in es name = ap q here ∙ was in
              rw (first, second) (omega arith)
          | inr differs ↦
              let first : p from ≡ q from = same from differs in
              let rest : tally p (range_with_len (from + 1) n) + cond {A = ℕ} (bound_in es name) 1 0 ≡ tally q (range_with_len (from + 1) n) =
              one_less p q (from + 1) n (omega arith) (omega arith) same gone was in
              rw first (omega arith)
        ]

-- the cost is at most that of the definition
pub read_cost : (es : List Entry) (name : ℕ) (before now : List Bool) → IsPartRead es name before now
    → bound_unread es before ≤ bound_unread es now + evaluations es name before
unfolding bound_unread evaluations
read_cost es name before now part =
    both (λ (n : ℕ). bound_in es n && marked before n) (λ (n : ℕ). bound_in es n && marked now n)
    (λ (n : ℕ). bound_in es n && (marked before n && leads es name n)) (range_with_len 0 (length es))
    (λ n _ on. split n on)
  where
    split : (n : ℕ) → (bound_in es n && marked before n) ≡ true
        → ((bound_in es n && marked now n) ≡ true) ⊎ ((bound_in es n && (marked before n && leads es name n)) ≡ true)
    split n on =
        let parts = and_parts (bound_in es n) (marked before n) on in
        elim (cases_Bool (marked now n)) [
          | inl still ↦ inl (and_from _ _ parts.0 still)
          | inr off ↦ inr (and_from _ _ parts.0 (and_from _ _ parts.1 (part.needed n parts.1 off)))
        ]

    both : (p q r : ℕ → Bool) (xs : List ℕ) → ((x : ℕ) → Contains xs x → p x ≡ true → (q x ≡ true) ⊎ (r x ≡ true))
        → tally p xs ≤ tally q xs + tally r xs
    both p q r [] each = omega arith
    both p q r (x ∷ xs) each =
        let rest : tally p xs ≤ tally q xs + tally r xs = both p q r xs (λ z c. each z (contains_later x xs z c)) in
        elim (cases_Bool (p x)) [
          | inl passes ↦
              elim (each x (contains_first x xs) passes) [
                | inl first ↦ rw (passes, first) (omega arith)
                | inr second ↦ rw (passes, second) (omega arith)
              ]
          | inr fails ↦ rw fails (omega arith)
        ]

pub part_none : (es : List Entry) (name : ℕ) (flags : List Bool) → IsPartRead es name flags flags
part_none es name flags = record {
  flags = refl;
  fewer = λ other on. on;
  needed = λ other on off. absurd (both_ways _ off on);
}

pub part_more : (es : List Entry) (name : ℕ) (before now : List Bool) (other : ℕ) → IsPartRead es name before now
    → leads es name other ≡ true → IsPartRead es name before (set now other false)
part_more es name before now other part led = record {
  flags = length-set now other false ∙ part.flags;
  fewer = λ n on. part.fewer n (still n on (cases_eq n other));
  needed = λ n was off. needed n was off (cases_eq n other);
}
  where
    still : (n : ℕ) → marked (set now other false) n ≡ true → (n ≡ other) ⊎ (n ≡ other → ⊥) → marked now n ≡ true
    still n on (inl here) =
        let within : n < length (set now other false) = marked_within (set now other false) n on in
        let long : length (set now other false) ≡ length now = length-set now other false in
        let inside : other < length now = let e : n ≡ other = here in omega arith in
        absurd (both_ways _ (ap (marked (set now other false)) here ∙ marked-set_same now other false inside) on)
    still n on (inr differs) = sym (marked-set_other now other n false differs) ∙ on

    needed : (n : ℕ) → marked before n ≡ true → marked (set now other false) n ≡ false → (n ≡ other) ⊎ (n ≡ other → ⊥)
        → leads es name n ≡ true
    needed n was off (inl here) = ap (leads es name) here ∙ led
    needed n was off (inr differs) = part.needed n was (sym (marked-set_other now other n false differs) ∙ off)

-- where the name itself is read, all that it leads to are read, and nothing else
pub part_end : (es : List Entry) (name : ℕ) (before now : List Bool) → IsPartRead es name before now → IsClosed es now
    → marked now name ≡ false → now ≡ after_reading es name before
part_end es name before now part closed off =
    flags_by (λ (n : ℕ). marked before n && not (leads es name n)) now (length before) part.flags
    (λ n h. same_test _ _ (there n) (back n))
  where
    read : (n : ℕ) → leads es name n ≡ true → marked now n ≡ false
    read n led =
        leads-down es (λ (k : ℕ). marked now k ≡ false) name n off
        (λ a o c fails. false_from_ne_true (marked now o) (λ on. both_ways _ fails (closed a o c on))) led

    there : (n : ℕ) → marked now n ≡ true → (marked before n && not (leads es name n)) ≡ true
    there n on =
        and_from _ _ (part.fewer n on)
        (not_from_false _ (false_from_ne_true (leads es name n) (λ led. both_ways _ (read n led) on)))

    back : (n : ℕ) → (marked before n && not (leads es name n)) ≡ true → marked now n ≡ true
    back n e =
        let parts = and_parts (marked before n) (not (leads es name n)) e in
        elim (cases_Bool (marked now n)) [
          | inl on ↦ on
          | inr fails ↦ absurd (both_ways _ (not-true _ parts.1) (part.needed n parts.0 fails))
        ]

-- the first so many of the stack are unread names on the way from `name` down, each an operand of the one below it
pub record Settles (entries : List Entry) (rank : ℕ → ℕ) (name : ℕ) (before now : List Bool) (cache : List Value) (stack : List ℕ) (count cost cost' : ℕ) : Type 0 where
  pub settled : IsSettled entries now cache
  pub part : IsPartRead entries name before now
  pub long : length stack ≡ length entries
  pub each : (i : ℕ) → i < count
      → (at stack i < length entries) × (marked now (at stack i) ≡ true) × (leads entries name (at stack i) ≡ true)
  pub low : (i : ℕ) → i < count → rank (at stack i) + i < length entries
  pub falls : (i j : ℕ) → i < j → j < count → rank (at stack j) < rank (at stack i)
  pub bottom : 0 < count → at stack 0 ≡ name
  pub over : count ≡ 0 → marked now name ≡ false
  pub sum : cost' + bound_unread entries now ≡ cost + bound_unread entries before

pub settles_start : (es : List Entry) (rank : ℕ → ℕ) → Ranked es rank → (name : ℕ) (flags : List Bool) (cache : List Value) (stack : List ℕ) (cost : ℕ)
    → IsSettled es flags cache → length stack ≡ length es → marked flags name ≡ true
    → Settles es rank name flags flags cache (set stack 0 name) 1 cost cost
settles_start es rank ranked name flags cache stack cost s long on =
    let within : name < length flags = marked_within flags name on in
    let same : length flags ≡ length es = s.flags in
    let here : at (set stack 0 name) 0 ≡ name = get_or-set_same stack 0 name 0 (omega arith) in
    let small : rank name < length es = ranked.small name (omega arith) in
    record {
      settled = s;
      part = part_none es name flags;
      long = length-set stack 0 name ∙ long;
      each = λ i h.
          let P : ℕ → Type 0 = λ n. (n < length es) × (marked flags n ≡ true) × (leads es name n ≡ true) in
          let e : i ≡ 0 = omega arith in
          let inside : name < length es = omega arith in
          subst P (sym (ap (at (set stack 0 name)) e ∙ here)) (inside, on, leads-refl es name);
      low = λ i h.
          let e : i ≡ 0 = omega arith in
          let P : ℕ → Type 0 = λ n. rank n + i < length es in
          subst P (sym (ap (at (set stack 0 name)) e ∙ here)) (omega arith);
      falls = λ i j less h. absurd (omega arith);
      bottom = λ _. here;
      over = λ h. absurd (omega arith);
      sum = refl;
    }

-- an operand that is unread goes on the stack
pub settles_push : (es : List Entry) (rank : ℕ → ℕ) → Ranked es rank → (name : ℕ) (before now : List Bool) (cache : List Value)
    (stack : List ℕ) (count cost cost' : ℕ) → Settles es rank name before now cache stack (suc count) cost cost'
    → (o : ℕ) → Contains (uses es (at stack count)) o → marked now o ≡ true
    → Settles es rank name before now cache (set stack (suc count) o) (suc (suc count)) cost cost'
settles_push es rank ranked name before now cache stack count cost cost' s o c on =
    let top = s.each count (omega arith) in
    let room : rank (at stack count) + count < length es = s.low count (omega arith) in
    let fall : rank o < rank (at stack count) = ranked.falls (at stack count) o c in
    let long : length stack ≡ length es = s.long in
    let here : at (set stack (suc count) o) (suc count) ≡ o = get_or-set_same stack (suc count) o 0 (omega arith) in
    let old : (i : ℕ) → i < suc count → at (set stack (suc count) o) i ≡ at stack i =
    λ i h. get_or-set_other stack (suc count) i o 0 (λ (e : i ≡ suc count). omega arith) in
    let led : leads es name o ≡ true = leads-last es rank ranked name (at stack count) o top.2 c in
    record {
      settled = s.settled;
      part = s.part;
      long = length-set stack (suc count) o ∙ s.long;
      each = λ i h. each here old led i h (cases_lt i (suc count));
      low = λ i h. low here old i h (cases_lt i (suc count));
      falls = λ i j less h. falls here old i j less h (cases_lt j (suc count)) (cases_lt i count);
      bottom = λ _. old 0 (omega arith) ∙ s.bottom (omega arith);
      over = λ h. absurd (omega arith);
      sum = s.sum;
    }
  where
    each : at (set stack (suc count) o) (suc count) ≡ o → ((i : ℕ) → i < suc count → at (set stack (suc count) o) i ≡ at stack i)
        → leads es name o ≡ true → (i : ℕ) → i < suc (suc count) → (i < suc count) ⊎ (suc count ≤ i)
        → (at (set stack (suc count) o) i < length es) × (marked now (at (set stack (suc count) o) i) ≡ true)
        × (leads es name (at (set stack (suc count) o) i) ≡ true)
    each here old led i h (inl below) =
        let P : ℕ → Type 0 = λ n. (n < length es) × (marked now n ≡ true) × (leads es name n ≡ true) in
        subst P (sym (old i below)) (s.each i below)
    each here old led i h (inr above) =
        let P : ℕ → Type 0 = λ n. (n < length es) × (marked now n ≡ true) × (leads es name n ≡ true) in
        let e : i ≡ suc count = omega arith in
        subst P (sym (ap (at (set stack (suc count) o)) e ∙ here)) (ranked.within (at stack count) o c, on, led)

    low : at (set stack (suc count) o) (suc count) ≡ o → ((i : ℕ) → i < suc count → at (set stack (suc count) o) i ≡ at stack i)
        → (i : ℕ) → i < suc (suc count) → (i < suc count) ⊎ (suc count ≤ i) → rank (at (set stack (suc count) o) i) + i < length es
    low here old i h (inl below) =
        let P : ℕ → Type 0 = λ n. rank n + i < length es in
        subst P (sym (old i below)) (s.low i below)
    low here old i h (inr above) =
        let P : ℕ → Type 0 = λ n. rank n + i < length es in
        let e : i ≡ suc count = omega arith in
        let room : rank (at stack count) + count < length es = s.low count (omega arith) in
        let fall : rank o < rank (at stack count) = ranked.falls (at stack count) o c in
        subst P (sym (ap (at (set stack (suc count) o)) e ∙ here)) (omega arith)

    falls : at (set stack (suc count) o) (suc count) ≡ o → ((i : ℕ) → i < suc count → at (set stack (suc count) o) i ≡ at stack i)
        → (i j : ℕ) → i < j → j < suc (suc count) → (j < suc count) ⊎ (suc count ≤ j) → (i < count) ⊎ (count ≤ i)
        → rank (at (set stack (suc count) o) j) < rank (at (set stack (suc count) o) i)
    falls here old i j less h (inl below) _ =
        let first : rank (at (set stack (suc count) o) j) ≡ rank (at stack j) = ap rank (old j below) in
        let second : rank (at (set stack (suc count) o) i) ≡ rank (at stack i) = ap rank (old i (omega arith)) in
        let was : rank (at stack j) < rank (at stack i) = s.falls i j less below in
        omega arith
    falls here old i j less h (inr above) (inl deeper) =
        let e : j ≡ suc count = omega arith in
        let first : rank (at (set stack (suc count) o) j) ≡ rank o = ap rank (ap (at (set stack (suc count) o)) e ∙ here) in
        let second : rank (at (set stack (suc count) o) i) ≡ rank (at stack i) = ap rank (old i (omega arith)) in
        let fall : rank o < rank (at stack count) = ranked.falls (at stack count) o c in
        let was : rank (at stack count) < rank (at stack i) = s.falls i count deeper (omega arith) in
        omega arith
    falls here old i j less h (inr above) (inr top) =
        let e : j ≡ suc count = omega arith in
        let f : i ≡ count = omega arith in
        let first : rank (at (set stack (suc count) o) j) ≡ rank o = ap rank (ap (at (set stack (suc count) o)) e ∙ here) in
        let second : rank (at (set stack (suc count) o) i) ≡ rank (at stack count) = ap rank (old i (omega arith) ∙ ap (at stack) f) in
        let fall : rank o < rank (at stack count) = ranked.falls (at stack count) o c in
        omega arith

-- the top, whose operands are read, is read and leaves the stack
pub settles_pop : (es : List Entry) (rank : ℕ → ℕ) → Ranked es rank → (name : ℕ) (before now : List Bool) (cache : List Value)
    (stack : List ℕ) (count cost cost' : ℕ) → Settles es rank name before now cache stack (suc count) cost cost'
    → (value : Value) (cost'' : ℕ) → ((o : ℕ) → Contains (uses es (at stack count)) o → marked now o ≡ false)
    → value ≡ eager es (at stack count) → cost'' ≡ cost' + cond (bound_in es (at stack count)) 1 0
    → Settles es rank name before (set now (at stack count) false) (set cache (at stack count) value) stack count cost cost''
settles_pop es rank ranked name before now cache stack count cost cost' s value cost'' free same paid =
    let top = s.each count (omega arith) in
    let less : bound_unread es (set now (at stack count) false) + cond {A = ℕ} (bound_in es (at stack count)) 1 0 ≡ bound_unread es now =
    bound_unread-clear es now (at stack count) top.0 top.1 in
    let sum : cost' + bound_unread es now ≡ cost + bound_unread es before = s.sum in
    record {
      settled = settled_more es now cache s.settled (at stack count) value free same;
      part = part_more es name before now (at stack count) s.part top.2;
      long = s.long;
      each = λ i h.
          let was = s.each i (omega arith) in
          let fall : rank (at stack count) < rank (at stack i) = s.falls i count h (omega arith) in (
            was.0,
            marked-set_other now (at stack count) (at stack i) false
                (λ (e : at stack i ≡ at stack count). let r : rank (at stack i) ≡ rank (at stack count) = ap rank e in omega arith)
                ∙ was.1,
            was.2,
          );
      low = λ i h. s.low i (omega arith);
      falls = λ i j first second. s.falls i j first (omega arith);
      bottom = λ h. s.bottom (omega arith);
      over = λ h. over h top.1;
      sum = omega arith;
    }
  where
    over : count ≡ 0 → marked now (at stack count) ≡ true → marked (set now (at stack count) false) name ≡ false
    over none on =
        let here : at stack count ≡ name = ap (at stack) none ∙ s.bottom (omega arith) in
        ap (marked (set now (at stack count) false)) (sym here)
        ∙ marked-set_same now (at stack count) false (marked_within now (at stack count) on)

-- the stack is empty
pub settles_end : (es : List Entry) (rank : ℕ → ℕ) (name : ℕ) (before now : List Bool) (cache : List Value)
    (stack : List ℕ) (cost cost' : ℕ) → Settles es rank name before now cache stack 0 cost cost'
    → now ≡ after_reading es name before
settles_end es rank name before now cache stack cost cost' s =
    part_end es name before now s.part s.settled.closed (s.over refl)

-- there is room for an operand
pub settles_room : (es : List Entry) (rank : ℕ → ℕ) → Ranked es rank → (name : ℕ) (before now : List Bool) (cache : List Value)
    (stack : List ℕ) (count cost cost' : ℕ) → Settles es rank name before now cache stack (suc count) cost cost'
    → (o : ℕ) → Contains (uses es (at stack count)) o → suc count < length stack
settles_room es rank ranked name before now cache stack count cost cost' s o c =
    let room : rank (at stack count) + count < length es = s.low count (omega arith) in
    let fall : rank o < rank (at stack count) = ranked.falls (at stack count) o c in
    let long : length stack ≡ length es = s.long in
    omega arith

-- how far a read is from its end: a pop reads a name more, and a push comes nearer to the stack's end
pub measure : List Bool → ℕ → ℕ
measure flags count = (length flags - unmarked flags) * (length flags + 1) + (length flags - count)

pub measure-push : (flags : List Bool) (count : ℕ) → count < length flags → measure flags (count + 1) < measure flags count
unfolding measure
measure-push flags count h = omega arith

pub measure-pop : (flags : List Bool) (name count : ℕ) → marked flags name ≡ true
    → measure (set flags name false) count < measure flags (count + 1)
unfolding measure
measure-pop flags name count on =
    let more : unmarked (set flags name false) ≡ unmarked flags + 1 = unmarked-clear flags name on in
    let long : length (set flags name false) ≡ length flags = length-set flags name false in
    let most : unmarked (set flags name false) ≤ length (set flags name false) = unmarked_most (set flags name false) in
    rw long (step (length flags) (unmarked (set flags name false)) (unmarked flags) more (omega arith))
  where
    step : (n after before : ℕ) → after ≡ before + 1 → after ≤ n
        → (n - after) * (n + 1) + (n - count) < (n - before) * (n + 1) + (n - (count + 1))
    step n after before e h =
        let d : n - before ≡ (n - after) + 1 = omega arith in
        let product : ((n - after) + 1) * (n + 1) ≡ (n - after) * (n + 1) + (n + 1) = grind arith in
        rw (d, product) (omega arith)
