-- What each row of a table has, by checks over the whole table.
-- Cited by the laws.
use Rattle.std.proofs.Common.{◌≡◌, ℕ, zero, suc, Bool, true, false, cond, List, [], ◌∷◌, map, filter, Option, Some, None, refl, sym, ap, ◌∙◌, subst, arith}
use Rattle.std.specs.Prelude.{slice_get}
use Rattle.std.specs.List.{Contains, position}
use Rattle.std.specs.Option.{option_map}
use Rattle.std.specs.Str.{bytes_eq}
use Rattle.std.proofs.lemmas.Option.{slice_get-map, slice_get-get_or}
use Rattle.fx_base.specs.declared.values.Value.{Value}
use Rattle.fx_base.specs.Printing.{kind_of}
use Rattle.fx_look.proofs.TableLemmas.{all_first, row_found}
use Rattle.fx_kinds.specs.declared.classes.Class.{Class}
use Rattle.fx_kinds.specs.Constraints.{ConstraintEntry, constraints, TakesValue}
use Rattle.fx_kinds.specs.Properties.{ListedProperty, PropertyRow, initial_of, listed, properties_of, rows, rows_of}

-- this is so of each row
Each : {A : Type 0} (P : A → Type 0) → List A → Type 0
Each P [] = Unit {0}
Each P (x ∷ xs) = P x × Each P xs

each_of : {A : Type 0} (P : A → Type 0) (xs : List A) (x : A) → Each P xs → Contains xs x → P x
unfolding Each
each_of P [] x all (i, within, is) = absurd (omega arith)
each_of P (y ∷ ys) x all (zero, within, is) = subst P is all.0
each_of P (y ∷ ys) x all (suc i, within, is) = each_of P ys x all.1 (i, omega arith, is)

-- values at first

IsKindly : PropertyRow → Type 0
IsKindly row = (class : Class) → kind_of (row.initial class) ≡ row.kind

all_kindly : Each IsKindly rows
unfolding rows Each IsKindly
all_kindly = ((λ c. refl), ((λ c. refl), ((λ c. refl), ((λ c. refl), ((λ c. refl), ((λ c. refl), ((λ c. refl), ((λ c. refl), ((λ c. refl), ((λ c. refl), ((λ c. refl), ((λ c. refl), ((λ c. refl), ((λ c. refl), ((λ c. refl), ((λ c. refl), ((λ c. refl), ((λ c. refl), ((λ c. refl), ((λ c. refl), ((λ c. refl), ((λ c. refl), ((λ c. refl), ((λ c. refl), ((λ c. refl), tt)))))))))))))))))))))))))

pub kindly : (row : PropertyRow) → Contains rows row → (class : Class) → kind_of (row.initial class) ≡ row.kind
unfolding IsKindly
kindly row c = each_of IsKindly rows row all_kindly c

-- a row of a class is a row of the table

kept_by : (test : PropertyRow → Bool) (y : PropertyRow) (ys : List PropertyRow) (b : Bool) (i : ℕ) (x : PropertyRow) → slice_get (cond b (y ∷ filter test ys) (filter test ys)) i ≡ Some x
    → ((j : ℕ) → slice_get (filter test ys) j ≡ Some x → Contains ys x) → Contains (y ∷ ys) x
kept_by test y ys true zero x e more = (zero, omega arith, cc)
kept_by test y ys true (suc i) x e more = let c = more i e in let within = c.1 in (suc c.0, omega arith, c.2)
kept_by test y ys false i x e more = let c = more i e in let within = c.1 in (suc c.0, omega arith, c.2)

kept : (test : PropertyRow → Bool) (xs : List PropertyRow) (i : ℕ) (x : PropertyRow) → slice_get (filter test xs) i ≡ Some x → Contains xs x
kept test [] i x e = absurd (cc)
kept test (y ∷ ys) i x e = kept_by test y ys (test y) i x e (λ j f. kept test ys j x f)

-- what stands at a place of a class's list is a row that is listed
record IsListed (class : Class) (place : ℕ) (p : ListedProperty) : Type 0 where
  row : PropertyRow
  there : slice_get (rows_of class) place ≡ Some row
  is : listed row ≡ p
  among : Contains rows row

listed_by : (class : Class) (place : ℕ) (p : ListedProperty) (o : Option PropertyRow) → slice_get (rows_of class) place ≡ o → option_map listed o ≡ Some p → IsListed class place p
unfolding rows_of
listed_by class place p None e f = absurd (cc)
listed_by class place p (Some row) e f = record {
  row = row;
  there = e;
  is = cc;
  among = kept (λ (r : PropertyRow). r.of class) rows place row e;
}

listed_at : (class : Class) (place : ℕ) (p : ListedProperty) → slice_get (properties_of class) place ≡ Some p → IsListed class place p
listed_at class place p e =
    listed_by class place p (slice_get (rows_of class) place) refl (sym (slice_get-map listed (rows_of class) place) ∙ e)

pub kindly_at : (class : Class) (place : ℕ) (p : ListedProperty) (v : Value) → slice_get (properties_of class) place ≡ Some p → initial_of class place ≡ Some v → kind_of v ≡ p.kind
kindly_at class place p v e f =
    let l = listed_at class place p e in
    let here : Some (l.row.initial class) ≡ Some v = sym (ap (option_map (λ (row : PropertyRow). row.initial class)) l.there) ∙ f in
    let same : l.row.initial class ≡ v = cc in
    sym (ap kind_of same) ∙ kindly l.row l.among class ∙ ap (λ (q : ListedProperty). q.kind) l.is

-- names

names_first : all_first (map (λ (row : PropertyRow). row.name) rows) ≡ true
unfolding rows
names_first = refl

place_of : (a : PropertyRow) → (c : Contains rows a) → position (λ (other : PropertyRow). bytes_eq other.name a.name) rows ≡ Some c.0
place_of a c =
    row_found (λ (row : PropertyRow). row.name) rows c.0 a names_first (slice_get-get_or rows c.0 a c.1 ∙ ap (λ x. Some x) c.2)

pub one_row : (a b : PropertyRow) → Contains rows a → Contains rows b → a.name ≡ b.name → a ≡ b
one_row a b c d n =
    let both : Some c.0 ≡ Some d.0 = sym (place_of a c) ∙ ap (λ name. position (λ (other : PropertyRow). bytes_eq other.name name) rows) n ∙ place_of b d in
    let same : c.0 ≡ d.0 = cc in
    let first : slice_get rows c.0 ≡ Some a = slice_get-get_or rows c.0 a c.1 ∙ ap (λ x. Some x) c.2 in
    let second : slice_get rows d.0 ≡ Some b = slice_get-get_or rows d.0 b d.1 ∙ ap (λ x. Some x) d.2 in
    let all : Some a ≡ Some b = sym first ∙ ap (slice_get rows) same ∙ second in
    cc

pub one_listed : (class other : Class) (i j : ℕ) (p q : ListedProperty) → slice_get (properties_of class) i ≡ Some p → slice_get (properties_of other) j ≡ Some q → p.name ≡ q.name → p ≡ q
one_listed class other i j p q e f n =
    let l = listed_at class i p e in
    let m = listed_at other j q f in
    let name : l.row.name ≡ m.row.name = ap (λ (x : ListedProperty). x.name) l.is ∙ n ∙ sym (ap (λ (x : ListedProperty). x.name) m.is) in
    sym l.is ∙ ap listed (one_row l.row m.row l.among m.among name) ∙ m.is

-- defaults

OfDefault : ConstraintEntry → Option Value → Type 0
OfDefault entry None = Unit {0}
OfDefault entry (Some v) = TakesValue entry v

all_taken : Each (λ (entry : ConstraintEntry). OfDefault entry entry.default) constraints
unfolding constraints Each OfDefault
all_taken = ((refl, refl), ((refl, refl), (tt, (tt, ((refl, refl), ((refl, refl), ((refl, refl), ((refl, refl), ((refl, refl), (tt, (tt, (tt, (tt, (tt, (tt, ((refl, refl), ((refl, refl), ((refl, refl), ((refl, refl), (tt, (tt, ((refl, refl), ((refl, refl), tt)))))))))))))))))))))))

of_default : (entry : ConstraintEntry) (o : Option Value) (v : Value) → OfDefault entry o → o ≡ Some v → TakesValue entry v
unfolding OfDefault
of_default entry None v d e = absurd (cc)
of_default entry (Some w) v d e = let same : w ≡ v = cc in subst (TakesValue entry) same d

pub taken : (entry : ConstraintEntry) → Contains constraints entry → (v : Value) → entry.default ≡ Some v → TakesValue entry v
taken entry c v e =
    of_default entry entry.default v (each_of (λ (x : ConstraintEntry). OfDefault x x.default) constraints entry all_taken c) e
