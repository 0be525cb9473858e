-- Each constraint is the one of its name.
use Rattle.std.proofs.Common.{◌≡◌, ℕ, zero, suc, ◌<◌, Bool, true, false, List, [], ◌∷◌, length, map, Some, slice_index_or, refl, sym, ap, subst, ◌∙◌, arith}
use Rattle.std.specs.Prelude.{IsTrue}
use Rattle.std.specs.List.{find, Contains}
use Rattle.std.specs.Str.{bytes_eq}
use Rattle.std.proofs.lemmas.List.Quantifiers.{position-Some}
use Rattle.std.proofs.lemmas.Option.{slice_get-get_or}
use Rattle.fx_base.specs.declared.kinds.Kind.{Kind}
use Rattle.fx_base.specs.declared.values.Value.{Value}
use Rattle.fx_look.specs.Readings.{IsValue}
use Rattle.fx_look.proofs.ReadingLemmas.{value_complete}
use Rattle.fx_look.proofs.TableLemmas.{all_first, row_found}
use Rattle.fx_kinds.specs.Constraints.{ConstraintEntry, constraints, constraint_named, is_in_range, IsConstraintValue}

find_first : {A : Type 0} (p : A → Bool) (xs : List A) (i : ℕ) (d : A) → i < length xs → p (slice_index_or xs i d) ≡ true → ((k : ℕ) → k < i → p (slice_index_or xs k d) ≡ false) → find p xs ≡ Some (slice_index_or xs i d)
find_first p [] i d within here before = absurd (omega arith)
find_first p (x ∷ xs) zero d within here before = rw here refl
find_first p (x ∷ xs) (suc i) d within here before =
    let not_first : p x ≡ false = before zero (omega arith) in
    rw not_first (find_first p xs i d (omega arith) here (λ k less. before (suc k) (omega arith)))

names_first : all_first (map (λ (e : ConstraintEntry). e.name) constraints) ≡ true
unfolding constraints
names_first = refl

pub own_name : (e : ConstraintEntry) → Contains constraints e → constraint_named e.name ≡ Some e
own_name e c =
    let test : ConstraintEntry → Bool = λ (other : ConstraintEntry). bytes_eq other.name e.name in
    let at = row_found (λ (e : ConstraintEntry). e.name) constraints c.0 e names_first (slice_get-get_or constraints c.0 e c.1 ∙ ap (λ x. Some x) c.2) in
    let first = position-Some (λ (other : ConstraintEntry). bytes_eq other.name e.name) constraints c.0 e at in
    find_first (λ (other : ConstraintEntry). bytes_eq other.name e.name) constraints c.0 e first.0 first.1 first.2 ∙ ap (λ x. Some x) c.2

-- what one text gives a constraint

one_entry : (name : List ℕ) (e d : ConstraintEntry) → constraint_named name ≡ Some e → constraint_named name ≡ Some d → d ≡ e
one_entry name e d f g = let both : Some d ≡ Some e = sym g ∙ f in cc

one_spelled : (k : Kind) (text : List ℕ) (v w : Value) → IsValue k text v → IsValue k text w → v ≡ w
one_spelled k text v w a b = let both : Some v ≡ Some w = sym (value_complete k text v a) ∙ value_complete k text w b in cc

same_value : (name text : List ℕ) (e : ConstraintEntry) (v w : Value) → constraint_named name ≡ Some e → IsValue e.kind text v → IsConstraintValue name text w → (v ≡ w) × IsTrue (is_in_range e.range w)
same_value name text e v w f a i =
    let same = one_entry name e i.entry f i.named in
    (one_spelled e.kind text v w a (subst (λ (d : ConstraintEntry). IsValue d.kind text w) same i.spelled), subst (λ (d : ConstraintEntry). IsTrue (is_in_range d.range w)) same i.in_range)

pub one_value : (name text : List ℕ) (v w : Value) → IsConstraintValue name text v → IsConstraintValue name text w → v ≡ w
one_value name text v w i j = (same_value name text i.entry v w i.named i.spelled j).0

pub out_of_range : (name text : List ℕ) (e : ConstraintEntry) (v : Value) → constraint_named name ≡ Some e → IsValue e.kind text v → is_in_range e.range v ≡ false → (w : Value) → IsConstraintValue name text w → ⊥
out_of_range name text e v f a out w i =
    let s = same_value name text e v w f a i in
    let in_range : is_in_range e.range v ≡ true = ap (is_in_range e.range) s.0 ∙ s.1 in
    absurd (let no : false ≡ true = sym out ∙ in_range in cc)
