-- What stands at a place once fresh entries are put in their places.
use Rattle.std.proofs.Common.{◌≡◌, ◌∷◌, [], ◌<◌, ℕ, zero, suc, Bool, true, cond, List, Option, Some, None, get_or, set, length, refl, sym, ◌∙◌, ap, subst, inl, inr, arith, eq-eqb}
use Rattle.std.specs.Prelude.{slice_get, is_some}
use Rattle.std.proofs.lemmas.Bool.{cases_eq, ne_eqb}
use Rattle.std.proofs.lemmas.List.{length-set}
use Rattle.std.proofs.lemmas.Option.{slice_get_within, slice_get-get_or}
use Rattle.fx_look.specs.declared.looks.Look.{Look}
use Rattle.fx_kinds.specs.declared.facts.StyleFacts.{StyleFacts}
use Rattle.fx_node_style.specs.declared.node_styles.NodeStyle.{NodeStyle}
use Rattle.fx_style.specs.declared.kept.Entry.{Entry}
use Rattle.fx_style.specs.declared.kept.Fresh.{Fresh}
use Rattle.fx_style.specs.declared.kept.Rest.{Rest}
use Rattle.fx_base.specs.Answers.{or_else}
use Rattle.fx_style.specs.Kept.{AreDifferent, HaveDifferentKeys, Kept, entry, entry_in, fresh_at, if_at, joined, planned_at, put_looks, put_rest, rest_of}
use Rattle.fx_style.specs.Turns.{ArePut, HaveKeysOf}
use Rattle.fx_style.proofs.FreshLemmas.{or_assoc}
use Rattle.fx_style.proofs.KeyLemmas.{key_is, same_key}

pub get-set_same : {X : Type 0} (xs : List X) (i : ℕ) (x : X) → i < length xs → slice_get (set xs i x) i ≡ Some x
get-set_same [] i x within = absurd (omega arith)
get-set_same (y ∷ ys) zero x within = refl
get-set_same (y ∷ ys) (suc i) x within = get-set_same ys i x (omega (arith, within))

pub get-set_other : {X : Type 0} (xs : List X) (i k : ℕ) (x : X) → (i ≡ k → ⊥)
    → slice_get (set xs i x) k ≡ slice_get xs k
get-set_other [] i k x differ = refl
get-set_other (y ∷ ys) zero zero x differ = absurd (differ refl)
get-set_other (y ∷ ys) zero (suc k) x differ = refl
get-set_other (y ∷ ys) (suc i) zero x differ = refl
get-set_other (y ∷ ys) (suc i) (suc k) x differ = get-set_other ys i k x (λ e. differ (ap suc e))

one_put : (looks : List Look) (rest : List Rest) (f : Fresh) (k : ℕ) → k < length looks → k < length rest
    → entry_in (set looks f.at f.entry.style.look) (set rest f.at (rest_of f.entry)) k
    ≡ or_else (if_at f k) (entry_in looks rest k)
one_put looks rest f k within inside = elim (cases_eq f.at k) [
  | inl same ↦
      subst (λ (n : ℕ). entry_in (set looks f.at f.entry.style.look) (set rest f.at (rest_of f.entry)) n
      ≡ or_else (if_at f n) (entry_in looks rest n)) same
      (ap (λ (o : Option Look). joined o (slice_get (set rest f.at (rest_of f.entry)) f.at))
      (get-set_same looks f.at f.entry.style.look (subst (λ (n : ℕ). n < length looks) (sym same) within))
      ∙ ap (joined (Some f.entry.style.look))
      (get-set_same rest f.at (rest_of f.entry) (subst (λ (n : ℕ). n < length rest) (sym same) inside))
      ∙ ap (λ (b : Bool). or_else (cond b (Some f.entry) None) (entry_in looks rest f.at))
      (sym (eq-eqb f.at f.at refl)))
  | inr other ↦
      ap (λ (o : Option Look). joined o (slice_get (set rest f.at (rest_of f.entry)) k))
      (get-set_other looks f.at k f.entry.style.look other)
      ∙ ap (joined (slice_get looks k)) (get-set_other rest f.at k (rest_of f.entry) other)
      ∙ ap (λ (b : Bool). or_else (cond b (Some f.entry) None) (entry_in looks rest k)) (sym (ne_eqb f.at k other))
]

pub put_planned : (looks : List Look) (rest : List Rest) (fresh : List Fresh) (k : ℕ) → k < length looks
    → k < length rest → entry_in (put_looks looks fresh) (put_rest rest fresh) k ≡ planned_at looks rest fresh k
put_planned looks rest [] k within inside = refl
put_planned looks rest (f ∷ fs) k within inside =
    put_planned (set looks f.at f.entry.style.look) (set rest f.at (rest_of f.entry)) fs k
    (subst (λ (n : ℕ). k < n) (sym (length-set looks f.at f.entry.style.look)) within)
    (subst (λ (n : ℕ). k < n) (sym (length-set rest f.at (rest_of f.entry))) inside)
    ∙ ap (or_else (fresh_at fs k)) (one_put looks rest f k within inside)
    ∙ sym (or_assoc (fresh_at fs k) (if_at f k) (entry_in looks rest k))

pub length-put_looks : (looks : List Look) (fresh : List Fresh) → length (put_looks looks fresh) ≡ length looks
length-put_looks looks [] = refl
length-put_looks looks (f ∷ fs) =
    length-put_looks (set looks f.at f.entry.style.look) fs ∙ length-set looks f.at f.entry.style.look

pub length-put_rest : (rest : List Rest) (fresh : List Fresh) → length (put_rest rest fresh) ≡ length rest
length-put_rest rest [] = refl
length-put_rest rest (f ∷ fs) =
    length-put_rest (set rest f.at (rest_of f.entry)) fs ∙ length-set rest f.at (rest_of f.entry)

-- the look of a place that no entry is for
pub put_looks-none : (looks : List Look) (fresh : List Fresh) (k : ℕ) → fresh_at fresh k ≡ None
    → slice_get (put_looks looks fresh) k ≡ slice_get looks k
put_looks-none looks [] k none = refl
put_looks-none looks (f ∷ fs) k none = elim (cases_eq f.at k) [
  | inl same ↦ absurd
      (some_first (fresh_at fs k)
      (ap (λ (b : Bool). or_else (fresh_at fs k) (cond b (Some f.entry) None)) (sym (eq-eqb f.at k same)) ∙ none))
  | inr other ↦
      put_looks-none (set looks f.at f.entry.style.look) fs k (none_first (fresh_at fs k) none)
      ∙ get-set_other looks f.at k f.entry.style.look other
]
  where
    some_first : (o : Option Entry) → or_else o (Some f.entry) ≡ None → ⊥
    some_first None e = cc
    some_first (Some x) e = cc

    none_first : (o : Option Entry) → or_else o (if_at f k) ≡ None → o ≡ None
    none_first None e = refl
    none_first (Some x) e = absurd (cc)

-- the entry of a place that has a rest
rest_entry : (looks : List Look) (rest : List Rest) (k : ℕ) (r : Rest) → k < length looks → slice_get rest k ≡ Some r
    → (style : NodeStyle) × (entry_in looks rest k ≡ Some (entry r.key style))
rest_entry [] rest k r within is = absurd (omega arith)
rest_entry (l ∷ ls) rest k r within is = by_look (slice_get (l ∷ ls) k) refl
  where
    by_look : (o : Option Look) → slice_get (l ∷ ls) k ≡ o
        → (style : NodeStyle) × (entry_in (l ∷ ls) rest k ≡ Some (entry r.key style))
    by_look None none = absurd (
        let h : None ≡ Some (get_or (l ∷ ls) k l) = sym none ∙ slice_get-get_or (l ∷ ls) k l within in cc)
    by_look (Some look) some = (
      record { look = look; paints = r.paints },
      ap (λ (o : Option Look). joined o (slice_get rest k)) some ∙ ap (joined (Some look)) is,
    )

-- nodes of different keys give entries of different keys
pub put_different : (facts : List StyleFacts) (looks base_looks : List Look) (rest base_rest : List Rest)
    (fresh : List Fresh) → AreDifferent facts → length base_looks ≡ length facts → length base_rest ≡ length facts
    → HaveKeysOf facts looks rest fresh
    → ((k : ℕ) → k < length facts → planned_at base_looks base_rest fresh k ≡ planned_at looks rest fresh k)
    → HaveDifferentKeys (put_rest base_rest fresh)
put_different facts looks base_looks rest base_rest fresh differ long wide keys same i j a b is_a is_b equal =
    let first = at_node i a is_a in
    let second = at_node j b is_b in
    differ i j first.0 second.0 first.1 second.1
    (key_is first.0.key second.0.key
    (sym first.2 ∙ same_key a.key b.key equal ∙ second.2))
  where
    node_there : (nodes : List StyleFacts) (k : ℕ) → k < length nodes
        → (node : StyleFacts) × (slice_get nodes k ≡ Some node)
    node_there [] k within = absurd (omega arith)
    node_there (n ∷ ns) zero within = (n, refl)
    node_there (n ∷ ns) (suc k) within = node_there ns k (omega (arith, within))

    at_node : (k : ℕ) (r : Rest) → slice_get (put_rest base_rest fresh) k ≡ Some r
        → (node : StyleFacts) × (slice_get facts k ≡ Some node) × (r.key ≡ node.key)
    at_node k r is =
        let inside : k < length (put_rest base_rest fresh) = slice_get_within (put_rest base_rest fresh) k r is in
        let low : k < length facts =
        subst (λ (n : ℕ). k < n) (length-put_rest base_rest fresh ∙ wide) inside in
        let node = node_there facts k low in
        let e = rest_entry (put_looks base_looks fresh) (put_rest base_rest fresh) k r
        (subst (λ (n : ℕ). k < n) (sym (length-put_looks base_looks fresh ∙ long)) low) is in (
          node.0,
          node.1,
          keys.each k node.0 (entry r.key e.0) node.1
              (sym (same k low)
              ∙ sym (put_planned base_looks base_rest fresh k (subst (λ (n : ℕ). k < n) (sym long) low)
              (subst (λ (n : ℕ). k < n) (sym wide) low))
              ∙ e.1),
        )

-- where each place has a fresh entry, what stood there doesn't matter
pub all_fresh : (looks base_looks : List Look) (rest base_rest : List Rest) (fresh : List Fresh) (k : ℕ)
    → is_some (fresh_at fresh k) ≡ true → planned_at base_looks base_rest fresh k ≡ planned_at looks rest fresh k
all_fresh looks base_looks rest base_rest fresh k some = by_fresh (fresh_at fresh k) some
  where
    by_fresh : (o : Option Entry) → is_some o ≡ true
        → or_else o (entry_in base_looks base_rest k) ≡ or_else o (entry_in looks rest k)
    by_fresh None e = absurd (cc)
    by_fresh (Some x) e = refl

pub put_there : (facts : List StyleFacts) (old new : Kept) (base_looks : List Look) (base_rest : List Rest)
    (fresh : List Fresh) (changed : List ℕ) → length base_looks ≡ length facts → length base_rest ≡ length facts
    → ((k : ℕ) → k < length facts
    → planned_at base_looks base_rest fresh k ≡ planned_at old.looks old.rest fresh k)
    → ((k : ℕ) → k < length facts → fresh_at fresh k ≡ None → slice_get base_looks k ≡ slice_get old.looks k)
    → new ≡ record { looks = put_looks base_looks fresh; rest = put_rest base_rest fresh; changed = changed }
    → ArePut old new fresh (length facts)
put_there facts old new base_looks base_rest fresh changed long wide same others is =
    subst (λ (n : Kept). ArePut old n fresh (length facts)) (sym is) (record {
      looks = length-put_looks base_looks fresh ∙ long;
      rest = length-put_rest base_rest fresh ∙ wide;
      each = λ k below.
          put_planned base_looks base_rest fresh k (subst (λ (n : ℕ). k < n) (sym long) below)
          (subst (λ (n : ℕ). k < n) (sym wide) below)
          ∙ same k below;
      others = λ k below none. put_looks-none base_looks fresh k none ∙ others k below none;
    })

-- a place with a fresh entry has one
pub none_some : (o : Option Entry) → o ≡ None → is_some o ≡ true → ⊥
none_some None e some = cc
none_some (Some x) e some = cc
