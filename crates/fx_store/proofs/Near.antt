-- A look at what will be unread alone: whoever isn't looked at is told nothing, and what isn't read again is read.
use Rattle.std.proofs.Common.{◌≡◌, ℕ, zero, suc, ◌==◌, ◌+◌, ◌<◌, ◌≤◌, ◌⊎◌, Bool, true, false, not, nat_lt, ◌&&◌, List, [], ◌∷◌, ◌++◌, length, filter, get_or, Contains, arith, refl, sym, subst, ap, inl, inr, ◌∙◌}
use Rattle.std.specs.List.{flat_map, range_with_len}
use Rattle.std.proofs.lemmas.Bool.{and_from, and_parts, both_ways, cases_Bool, cases_eq, eq-eqb, eqb-true, false_from_ne_true, lt-ltb, ltb-true, ne_eqb, not_from_false, or_cases, or_right}
use Rattle.std.proofs.lemmas.List.Concat.{flat_map-append}
use Rattle.std.proofs.lemmas.List.Elements.{All-contains, Contains-append_cases, Contains-append_left, Contains-append_right, Contains-get_or, filter-append, filter_agree}
use Rattle.std.proofs.lemmas.List.Kept.{AllPairs-filter}
use Rattle.std.proofs.lemmas.List.Folds.{flat_map-map}
use Rattle.std.proofs.lemmas.List.FromFn.{length-range_with_len, get_or-range_with_len}
use Rattle.fx_base.specs.declared.keys.Name.{Name}
use Rattle.fx_base.specs.Names.{name_of}
use Rattle.fx_listen.specs.declared.entries.Listener.{Listener}
use Rattle.fx_listen.specs.declared.entries.ListenKind.{ListenKind}
use Rattle.fx_listen.specs.declared.entries.ListenKind.TheVariants.{Change}
use Rattle.fx_listen.specs.Listening.{same_kind, tells}
use Rattle.fx_listen.specs.Sorting.{IsByName, is_above, is_on}
use Rattle.fx_listen.proofs.Cuts.{AllPairs-head, AllPairs-tail, filter-all, filter-filter, filter-none}
use Rattle.fx_graph_model.specs.declared.entries.Entry.{Entry}
use Rattle.fx_graph_model.specs.declared.entries.Definition.{Definition}
use Rattle.fx_graph_model.specs.Eager.{eager}
use Rattle.fx_graph_model.specs.Uses.{Ranked, entry_of, operands_in, uses}
use Rattle.fx_graph_model.specs.Unread.{after_marking, leads_to_any, marked, newly_marked}
use Rattle.fx_graph_model.proofs.Changed.{marked-marking}
use Rattle.fx_graph_model.proofs.Members.{any_at, any_from, cases_contains, contains_cases, contains_filter, contains_first, contains_later, contains_map, filter_contains, in_range, map_contains, none_in_nil}
use Rattle.fx_graph_model.proofs.Values.{eager-agree}
use Rattle.fx_graph_model.proofs.Walks.{any-first, any-member, any-to, leads-up}
use Rattle.fx_store_model.specs.Step.{changed_notice, changed_notices}
use Rattle.fx_store_model.proofs.Telling.{untold}
use Rattle.fx_store_model.specs.Stored.{is_heard}
use Rattle.fx_store_pairs.specs.Pairs.{is_paired}
use Rattle.fx_store.specs.Looking.{IsEnough}
use Rattle.fx_store.specs.Watching.{heard_on, names_of, notice_to, watch_list}
use Rattle.fx_store.proofs.TellLemmas.{told_on}
use Rattle.fx_store.proofs.Watched.{watch_watches, watches_watch}

-- lists that are put together of pieces

flat_same : {X Y : Type 0} (f g : X → List Y) (xs : List X) → ((x : X) → Contains xs x → f x ≡ g x) → flat_map f xs ≡ flat_map g xs
flat_same f g [] same = refl
flat_same {X} {Y} f g (x ∷ xs) same =
    ap (λ (ys : List Y). ys ++ flat_map f xs) (same x (contains_first x xs))
    ∙ ap (λ (ys : List Y). g x ++ ys) (flat_same f g xs (λ z c. same z (contains_later x xs z c)))

flat_none : {X Y : Type 0} (f : X → List Y) (xs : List X) → ((x : X) → Contains xs x → f x ≡ []) → flat_map f xs ≡ []
flat_none f [] none = refl
flat_none {X} {Y} f (x ∷ xs) none =
    ap (λ (ys : List Y). ys ++ flat_map f xs) (none x (contains_first x xs))
    ∙ flat_none f xs (λ z c. none z (contains_later x xs z c))

flat_flat : {X Y Z : Type 0} (f : Y → List Z) (g : X → List Y) (xs : List X)
    → flat_map f (flat_map g xs) ≡ flat_map (λ (x : X). flat_map f (g x)) xs
flat_flat f g [] = refl
flat_flat {X} {Y} {Z} f g (x ∷ xs) =
    flat_map-append f (g x) (flat_map g xs) ∙ ap (λ (zs : List Z). flat_map f (g x) ++ zs) (flat_flat f g xs)

-- what gives nothing may be left out
flat_some : {X Y : Type 0} (f : X → List Y) (p : X → Bool) (xs : List X) → ((x : X) → Contains xs x → p x ≡ false → f x ≡ [])
    → flat_map f (filter p xs) ≡ flat_map f xs
flat_some f p [] none = refl
flat_some {X} {Y} f p (x ∷ xs) none =
    let rest : flat_map f (filter p xs) ≡ flat_map f xs = flat_some f p xs (λ z c. none z (contains_later x xs z c)) in
    elim (cases_Bool (p x)) [
      | inl holds ↦ rw holds (ap (λ (ys : List Y). f x ++ ys) rest)
      | inr fails ↦ rw fails (rest ∙ ap (λ (ys : List Y). ys ++ flat_map f xs) (sym (none x (contains_first x xs) fails)))
    ]

-- listeners that stand by property, part by part

range_from : (from count k : ℕ) → Contains (range_with_len from count) k → from ≤ k
range_from from count k c =
    let long : length (range_with_len from count) ≡ count = length-range_with_len from count in
    let small : c.0 < count = omega (arith, c.1) in
    let e : from + c.0 ≡ k = sym (get_or-range_with_len from count c.0 k small) ∙ c.2 in
    omega arith

-- the first part and the rest
first_part : (name : ℕ) (ls : List Listener) → IsByName ls → ((l : Listener) → Contains ls l → name ≤ l.name.0)
    → ls ≡ filter (is_on name) ls ++ filter (is_above name) ls
first_part name [] sorted low = refl
first_part name (l ∷ ls) sorted low =
    elim (cases_eq l.name.0 name) [
      | inl here ↦
          let on : (l.name.0 == name) ≡ true = eq-eqb l.name.0 name here in
          let off : nat_lt name l.name.0 ≡ false =
          false_from_ne_true (nat_lt name l.name.0) (λ e. let less : name < l.name.0 = ltb-true name l.name.0 e in omega (arith, here, less)) in
          rw (on, off)
          (ap (λ (rest : List Listener). l ∷ rest)
          (first_part name ls (AllPairs-tail (λ (one other : Listener). one.name.0 ≤ other.name.0) l ls sorted)
          (λ x c. low x (contains_later l ls x c))))
      | inr other ↦
          let start : name ≤ l.name.0 = low l (contains_first l ls) in
          let above : (x : Listener) → Contains (l ∷ ls) x → name < x.name.0 = above_all (omega (arith, start, other)) in
          let none : filter (is_on name) (l ∷ ls) ≡ [] =
          filter-none (is_on name) (l ∷ ls)
          (λ k d h.
          let after : name < (get_or (l ∷ ls) k d).name.0 = above _ (Contains-get_or (l ∷ ls) k d h) in
          ne_eqb (get_or (l ∷ ls) k d).name.0 name (λ e. absurd (omega (arith, e, after)))) in
          let all : filter (is_above name) (l ∷ ls) ≡ l ∷ ls =
          filter-all (is_above name) (l ∷ ls)
          (λ k d h. lt-ltb name (get_or (l ∷ ls) k d).name.0 (above _ (Contains-get_or (l ∷ ls) k d h))) in
          sym (ap (λ (first : List Listener). first ++ filter (is_above name) (l ∷ ls)) none ∙ all)
    ]
  where
    above_all : name < l.name.0 → (x : Listener) → Contains (l ∷ ls) x → name < x.name.0
    above_all less x c =
        elim (contains_cases l ls x c) [
          | inl here ↦ let e : l.name.0 ≡ x.name.0 = ap (λ (y : Listener). y.name.0) here in omega (arith, e, less)
          | inr later ↦
              let after : l.name.0 ≤ x.name.0 =
              All-contains (λ (y : Listener). l.name.0 ≤ y.name.0) ls x
              (AllPairs-head (λ (one other : Listener). one.name.0 ≤ other.name.0) l ls sorted) later in
              omega (arith, after, less)
        ]

on_later : (kind : ListenKind) (from name : ℕ) (ls : List Listener) → from < name
    → filter (tells name kind) (filter (is_above from) ls) ≡ filter (tells name kind) ls
on_later kind from name ls less =
    filter-filter (tells name kind) (is_above from) ls
    ∙ filter_agree (λ (l : Listener). is_above from l && tells name kind l) (tells name kind) same ls
  where
    same : (l : Listener) → (is_above from l && tells name kind l) ≡ tells name kind l
    same l =
        elim (cases_Bool (tells name kind l)) [
          | inl on ↦
              let e : l.name.0 ≡ name = eqb-true l.name.0 name (and_parts (l.name.0 == name) (same_kind l.kind kind) on).0 in
              let above : is_above from l ≡ true = lt-ltb from l.name.0 (omega (arith, e, less)) in
              rw above refl
          | inr off ↦ rw off (and-false (is_above from l))
        ]
      where
        and-false : (b : Bool) → (b && false) ≡ false
        and-false true = refl
        and-false false = refl

module _ {Y : Type 0} (f : Listener → List Y) (kind : ListenKind) where
  abbrev hears : Listener → Bool
  hears l = same_kind l.kind kind

  abbrev of_name : List Listener → ℕ → List Y
  of_name ls name = flat_map f (filter (tells name kind) ls)

  -- name by name is one after another
  pub by_names : (count from : ℕ) (ls : List Listener) → IsByName ls → ((l : Listener) → Contains ls l → from ≤ l.name.0)
      → ((l : Listener) → Contains ls l → l.name.0 < from + count)
      → flat_map f (filter hears ls) ≡ flat_map (of_name ls) (range_with_len from count)
  by_names zero from [] sorted low high = refl
  by_names zero from (l ∷ ls) sorted low high =
      let one : from ≤ l.name.0 = low l (contains_first l ls) in
      let two : l.name.0 < from + zero = high l (contains_first l ls) in
      absurd (omega (arith, one, two))
  by_names (suc count) from ls sorted low high =
      let here : List Listener = filter (is_on from) ls in
      let later : List Listener = filter (is_above from) ls in
      let member : (l : Listener) → Contains later l → Contains ls l × (is_above from l ≡ true) = filter_contains (is_above from) ls in
      ap (λ (xs : List Listener). flat_map f (filter hears xs)) (first_part from ls sorted low)
      ∙ ap (flat_map f) (filter-append hears here later)
      ∙ flat_map-append f (filter hears here) (filter hears later)
      ∙ ap (λ (xs : List Listener). flat_map f xs ++ flat_map f (filter hears later)) (filter-filter hears (is_on from) ls)
      ∙ ap (λ (ys : List Y). of_name ls from ++ ys)
      (by_names count (from + 1) later (AllPairs-filter (λ (one other : Listener). one.name.0 ≤ other.name.0) (is_above from) ls sorted)
      (λ l c. let less : from < l.name.0 = ltb-true from l.name.0 (member l c).1 in omega (arith, less))
      (λ l c. let less : l.name.0 < from + suc count = high l (member l c).0 in omega (arith, less))
      ∙ flat_same (of_name later) (of_name ls) (range_with_len (from + 1) count)
      (λ n c.
      let less : from + 1 ≤ n = range_from (from + 1) count n c in
      ap (flat_map f) (on_later kind from n ls (omega (arith, less)))))

-- a change of the entries

-- what changed is among the names that were to change, and all others have their definitions as before
pub record IsChange (es fs : List Entry) (changed changing : List ℕ) : Type 0 where
  pub long : length fs ≡ length es
  pub among : (name : ℕ) → Contains changed name → Contains changing name
  pub same : (name : ℕ) → (Contains changing name → ⊥) → (entry_of fs name).definition ≡ (entry_of es name).definition

module _ (es fs : List Entry) (changed changing : List ℕ) (is : IsChange es fs changed changing) (ranks : (rank : ℕ → ℕ) × Ranked es rank) where
  -- whoever doesn't lead to what was to change has the value that it had
  pub eager_as_was : (name : ℕ) → leads_to_any es changing name ≡ false → eager fs name ≡ eager es name
  eager_as_was name off =
      sym (eager-agree es fs (λ (n : ℕ). leads_to_any es changing n ≡ false) (sym is.long)
      (λ n free. sym (is.same n (λ c. both_ways _ free (any-member es changing n c))))
      (λ n o free c. false_from_ne_true _ (λ on. both_ways _ free (any-first es ranks.0 ranks.1 changing n o c on)))
      name off)

  -- and leads to nothing that changed
  pub off_after : (name : ℕ) → leads_to_any es changing name ≡ false → leads_to_any fs changed name ≡ false
  off_after name off =
      false_from_ne_true _
      (λ on.
      let to = any-to fs changed name on in
      both_ways _ off
      (leads-up fs (λ (n : ℕ). leads_to_any es changing n ≡ true) name to.0 (any-member es changing to.0 (is.among to.0 to.1)) step to.2))
    where
      step : (a o : ℕ) → Contains (uses fs a) o → leads_to_any es changing o ≡ true → leads_to_any es changing a ≡ true
      step a o c here =
          elim (cases_contains changing a) [
            | inl member ↦ any-member es changing a member
            | inr out ↦
                any-first es ranks.0 ranks.1 changing a o
                (subst (λ (d : Definition). Contains (operands_in d) o) (is.same a out) c) here
          ]

-- what is said of the flags and of the listeners before the change: each known listener's property is read
pub record AreHeard (es : List Entry) (flags : List Bool) (listeners : List Listener) : Type 0 where
  pub ranks : (rank : ℕ → ℕ) × Ranked es rank
  pub long : length flags ≡ length es
  pub sorted : IsByName listeners
  pub within : (l : Listener) → Contains listeners l → l.name.0 < length es
  pub read : (l : Listener) → Contains listeners l → same_kind l.kind Change ≡ true → marked flags l.name.0 ≡ false

not_becoming : (on leads : Bool) → (not on && leads) ≡ false → on ≡ false → leads ≡ false
not_becoming true leads e off = absurd (both_ways true off refl)
not_becoming false leads e off = e

flat_contains : {X Y : Type 0} (f : X → List Y) (xs : List X) (y : Y) → Contains (flat_map f xs) y → (x : X) × Contains xs x × Contains (f x) y
flat_contains f [] y c = absurd (none_in_nil y c)
flat_contains f (x ∷ xs) y c =
    elim (Contains-append_cases (f x) (flat_map f xs) y c) [
      | inl here ↦ (x, contains_first x xs, here)
      | inr later ↦
          let found = flat_contains f xs y later in
          (found.0, contains_later x xs found.0 found.1, found.2)
    ]

contains_flat : {X Y : Type 0} (f : X → List Y) (xs : List X) (x : X) (y : Y) → Contains xs x → Contains (f x) y → Contains (flat_map f xs) y
contains_flat f [] x y c d = absurd (none_in_nil x c)
contains_flat f (z ∷ xs) x y c d =
    elim (contains_cases z xs x c) [
      | inl here ↦ Contains-append_left (f z) (flat_map f xs) y (subst (λ w. Contains (f w) y) (sym here) d)
      | inr later ↦ Contains-append_right (f z) (flat_map f xs) y (contains_flat f xs x y later d)
    ]

module _ (names : List ℕ) (listeners : List Listener) where
  -- who was looked at has a change listener
  pub on_heard : (name : ℕ) → Contains (names_of (heard_on Change names listeners)) name → is_heard listeners name ≡ true
  on_heard name c =
      let to = map_contains (λ (to : Name × ℕ). to.0.0) (heard_on Change names listeners) name c in
      let part = flat_contains (told_on Change listeners) names to.0 to.1 in
      let who = map_contains (λ (l : Listener). (name_of part.0, l.number)) (filter (tells part.0 Change) listeners) to.0 part.2 in
      let member = filter_contains (tells part.0 Change) listeners who.0 who.1 in
      let e : part.0 ≡ name = ap (λ (to : Name × ℕ). to.0.0) who.2 ∙ to.2 in
      any_at (tells name Change) listeners who.0 member.0 (subst (λ n. tells n Change who.0 ≡ true) e member.1)

  -- and of the names each that has one
  pub heard_named : (name : ℕ) → Contains names name → is_heard listeners name ≡ true → Contains (names_of (heard_on Change names listeners)) name
  heard_named name c heard =
      let found = any_from (tells name Change) listeners heard in
      contains_map (λ (to : Name × ℕ). to.0.0) (heard_on Change names listeners) (name_of name, found.0.number)
      (contains_flat (told_on Change listeners) names name (name_of name, found.0.number) c
      (contains_map (λ (l : Listener). (name_of name, l.number)) (filter (tells name Change) listeners) found.0
      (contains_filter (tells name Change) listeners found.0 found.1 found.2)))

module _ (es fs : List Entry) (changed changing : List ℕ) (is : IsChange es fs changed changing) (flags : List Bool)
    (listeners : List Listener) (heard : AreHeard es flags listeners) where
  abbrev becoming : List ℕ
  becoming = newly_marked es changing flags

  abbrev becomes : ℕ → Bool
  becomes name = not (marked flags name) && leads_to_any es changing name

  pub near_told : flat_map (notice_to es fs) (heard_on Change becoming listeners) ≡ changed_notices es fs listeners
  near_told =
      flat_flat (notice_to es fs) (told_on Change listeners) becoming
      ∙ flat_same (λ (n : ℕ). flat_map (notice_to es fs) (told_on Change listeners n)) (of_name (changed_notice es fs) Change listeners) becoming
      (λ n c. one n)
      ∙ flat_some (of_name (changed_notice es fs) Change listeners) becomes (range_with_len 0 (length flags)) (λ n c off. none n off)
      ∙ sym (by_names (changed_notice es fs) Change (length flags) 0 listeners heard.sorted (λ l c. omega arith)
      (λ l c. let low : l.name.0 < length es = heard.within l c in let long : length flags ≡ length es = heard.long in omega (arith, low, long)))
    where
      one : (n : ℕ) → flat_map (notice_to es fs) (told_on Change listeners n) ≡ of_name (changed_notice es fs) Change listeners n
      one n =
          flat_map-map (notice_to es fs) (λ (l : Listener). (name_of n, l.number)) (filter (tells n Change) listeners)
          ∙ flat_same (λ (l : Listener). notice_to es fs (name_of n, l.number)) (changed_notice es fs) (filter (tells n Change) listeners)
          (λ l c.
          let e : l.name.0 ≡ n = eqb-true l.name.0 n (and_parts (l.name.0 == n) (same_kind l.kind Change)
          (filter_contains (tells n Change) listeners l c).1).0 in
          ap (λ k. notice_to es fs (name_of k, l.number)) (sym e))

      none : (n : ℕ) → becomes n ≡ false → of_name (changed_notice es fs) Change listeners n ≡ []
      none n off =
          flat_none (changed_notice es fs) (filter (tells n Change) listeners)
          (λ l c.
          let member = filter_contains (tells n Change) listeners l c in
          let parts = and_parts (l.name.0 == n) (same_kind l.kind Change) member.1 in
          let e : l.name.0 ≡ n = eqb-true l.name.0 n parts.0 in
          let read : marked flags n ≡ false = ap (marked flags) (sym e) ∙ heard.read l member.0 parts.1 in
          let free : leads_to_any es changing l.name.0 ≡ false =
          ap (leads_to_any es changing) e ∙ not_becoming (marked flags n) (leads_to_any es changing n) off read in
          untold es fs l (eager_as_was es fs changed changing is heard.ranks l.name.0 free))

  -- the further names are watched, and each name in a pair is among them or stays read
  pub near_enough : (pairs : List (ℕ × ℕ)) (more : List ℕ)
      → ((name : ℕ) → Contains more name → Contains (watch_list pairs listeners) name)
      → ((name : ℕ) → is_paired pairs name ≡ true → Contains more name ⊎ (marked (after_marking fs changed flags) name ≡ false))
      → IsEnough (after_marking fs changed flags) (watch_list pairs listeners) (names_of (heard_on Change becoming listeners) ++ more)
  near_enough pairs more watched ends =
      record {
        only = λ name c.
            elim (Contains-append_cases (names_of (heard_on Change becoming listeners)) more name c) [
              | inl first ↦ watches_watch pairs listeners name (or_right _ _ (on_heard becoming listeners name first))
              | inr later ↦ watched name later
            ];
        all = λ name c.
            elim (or_cases (is_paired pairs name) (is_heard listeners name) (watch_watches pairs listeners name c)) [
              | inl paired ↦ map_first (ends name paired)
              | inr listened ↦ found name listened
            ];
      }
    where
      map_first : {name : ℕ} → Contains more name ⊎ (marked (after_marking fs changed flags) name ≡ false)
          → Contains (names_of (heard_on Change becoming listeners) ++ more) name ⊎ (marked (after_marking fs changed flags) name ≡ false)
      map_first {name} (inl c) = inl (Contains-append_right (names_of (heard_on Change becoming listeners)) more name c)
      map_first (inr off) = inr off

      found : (name : ℕ) → is_heard listeners name ≡ true
          → Contains (names_of (heard_on Change becoming listeners) ++ more) name ⊎ (marked (after_marking fs changed flags) name ≡ false)
      found name listened =
          let who = any_from (tells name Change) listeners listened in
          let parts = and_parts (who.0.name.0 == name) (same_kind who.0.kind Change) who.2 in
          let e : who.0.name.0 ≡ name = eqb-true who.0.name.0 name parts.0 in
          let read : marked flags name ≡ false = ap (marked flags) (sym e) ∙ heard.read who.0 who.1 parts.1 in
          let long : length flags ≡ length es = heard.long in
          let low : who.0.name.0 < length es = heard.within who.0 who.1 in
          let within : name < length flags = omega (arith, low, long, e) in
          elim (cases_Bool (leads_to_any es changing name)) [
            | inl on ↦
                inl (Contains-append_left (names_of (heard_on Change becoming listeners)) more name
                (heard_named becoming listeners name
                (contains_filter becomes (range_with_len 0 (length flags)) name (in_range (length flags) name within)
                (and_from _ _ (not_from_false (marked flags name) read) on)) listened))
            | inr off ↦
                inr (marked-marking fs changed flags name within
                ∙ rw (read, off_after es fs changed changing is heard.ranks name off) refl)
          ]
