-- The kind of a value: of an expression over values of its operands' kinds, and of every known name.
use Rattle.std.proofs.Common.{◌≡◌, ℕ, zero, suc, ◌<◌, Bool, true, false, if◌then◌else◌, List, [], ◌∷◌, map, arith, refl, ◌∙◌, ap, Option, Some, None, slice_index_or, pos, ℤ}
use Rattle.std.specs.Prelude.{option_and_then, int_div, int_rem}
use Rattle.std.specs.List.{Contains}
use Rattle.std.specs.Ordering.{int_eq}
use Rattle.std.proofs.lemmas.Bool.{true≢false}
use Rattle.fx_base.specs.Printing.{kind_of}
use Rattle.fx_base.specs.declared.kinds.Kind.{Kind}
use Rattle.fx_base.specs.declared.kinds.Kind.TheVariants as kind
use Rattle.fx_base.specs.declared.values.Value.{Value}
use Rattle.fx_base.specs.declared.values.Value.TheVariants as value
use Rattle.fx_expr.specs.declared.tree.UnarySign.{UnarySign}
use Rattle.fx_expr.specs.declared.tree.BinarySign.{BinarySign}
use Rattle.fx_expr.specs.declared.tree.UnarySign.TheVariants as unary
use Rattle.fx_expr.specs.declared.tree.BinarySign.TheVariants as binary
use Rattle.fx_expr.specs.Tree.{Tree, Leaf, Place, One, Two}
use Rattle.fx_expr.specs.Typing.{unary_kind, sum_kind, numeric_kind, same_kind, truth_kind, binary_kind, kind_in}
use Rattle.fx_expr.specs.Meaning.{no_value, near, unary_of, over_numbers, numeric, sum_of, binary_of, mean}
use Rattle.fx_graph_model.specs.declared.entries.Entry.{Entry}
use Rattle.fx_graph_model.specs.declared.entries.Definition.{Definition}
use Rattle.fx_graph_model.specs.declared.entries.Definition.TheVariants.{Base, Bound, Forgotten}
use Rattle.fx_graph_model.specs.Uses.{entry_of, operands_in, is_gone, uses, unknown_in, Ranked}
use Rattle.fx_graph_model.specs.Eager.{value_of_definition, eager}
use Rattle.fx_graph_model.specs.Refusals.{kind_at}
use Rattle.fx_graph_model.specs.Sound.{HasKind, AreSound}
use Rattle.fx_graph_model.proofs.Members.{contains_first, contains_later}
use Rattle.fx_graph_model.proofs.Values.{eager-unfold}

unary_sound : (sign : UnarySign) (x : Value) (k : Kind) → unary_kind sign (kind_of x) ≡ Some k → kind_of (unary_of sign x) ≡ k
unary_sound unary.Minus (value.Int n) k e = cc
unary_sound unary.Not (value.Bool b) k e = cc
unary_sound _ _ k e = cc

truth_is : (i j k : Kind) → truth_kind i j ≡ Some k → kind.Bool ≡ k
truth_is kind.Bool kind.Bool k e = cc
truth_is _ _ k e = cc

same_is : (i j k : Kind) → same_kind i j ≡ Some k → kind.Bool ≡ k
same_is kind.Int kind.Int k e = cc
same_is kind.Bool kind.Bool k e = cc
same_is kind.Text kind.Text k e = cc
same_is _ _ k e = cc

sum_sound : (x y : Value) (k : Kind) → sum_kind (kind_of x) (kind_of y) ≡ Some k → kind_of (sum_of x y) ≡ k
sum_sound (value.Int m) (value.Int n) k e = cc
sum_sound (value.Int m) (value.Text t) k e = cc
sum_sound (value.Bool b) (value.Text t) k e = cc
sum_sound (value.Text s) (value.Int n) k e = cc
sum_sound (value.Text s) (value.Bool b) k e = cc
sum_sound (value.Text s) (value.Text t) k e = cc
sum_sound _ _ k e = cc

if_number : (b : Bool) (m : ℤ) (y : Value) → kind_of y ≡ kind.Int → kind_of (if b then value.Int m else y) ≡ kind.Int
if_number true m y h = refl
if_number false m y h = h

-- a sign between two numbers gives a value of this kind
abbrev Gives : BinarySign → Kind → Type 0
Gives sign answer = (m n : ℤ) → kind_of (over_numbers sign m n) ≡ answer

numeric_sound : (sign : BinarySign) (answer : Kind) → Gives sign answer → (x y : Value) (k : Kind)
    → numeric_kind answer (kind_of x) (kind_of y) ≡ Some k → kind_of (numeric sign x y) ≡ k
numeric_sound sign answer gives (value.Int m) (value.Int n) k e = let g : kind_of (over_numbers sign m n) ≡ answer = gives m n in cc
numeric_sound sign answer gives _ _ k e = cc

binary_sound : (sign : BinarySign) (x y : Value) (k : Kind) → binary_kind sign (kind_of x) (kind_of y) ≡ Some k
    → kind_of (binary_of sign x y) ≡ k
binary_sound binary.Or x y k e = truth_is (kind_of x) (kind_of y) k e
binary_sound binary.And x y k e = truth_is (kind_of x) (kind_of y) k e
binary_sound binary.Equal x y k e = same_is (kind_of x) (kind_of y) k e
binary_sound binary.Differ x y k e = same_is (kind_of x) (kind_of y) k e
binary_sound binary.Plus x y k e = sum_sound x y k e
binary_sound binary.Greater x y k e = numeric_sound binary.Greater kind.Bool (λ m n. refl) x y k e
binary_sound binary.GreaterEqual x y k e = numeric_sound binary.GreaterEqual kind.Bool (λ m n. refl) x y k e
binary_sound binary.Less x y k e = numeric_sound binary.Less kind.Bool (λ m n. refl) x y k e
binary_sound binary.LessEqual x y k e = numeric_sound binary.LessEqual kind.Bool (λ m n. refl) x y k e
binary_sound binary.Minus x y k e = numeric_sound binary.Minus kind.Int (λ m n. refl) x y k e
binary_sound binary.Times x y k e = numeric_sound binary.Times kind.Int (λ m n. refl) x y k e
binary_sound binary.Over x y k e =
    numeric_sound binary.Over kind.Int (λ m n. if_number (int_eq n (pos 0)) (pos 0) (near (int_div m n)) refl) x y k e
binary_sound binary.Rest x y k e =
    numeric_sound binary.Rest kind.Int (λ m n. if_number (int_eq n (pos 0)) (pos 0) (value.Int (int_rem m n)) refl) x y k e

and_then_parts : (o : Option Kind) (f : Kind → Option Kind) (k : Kind) → option_and_then f o ≡ Some k
    → (j : Kind) × (o ≡ Some j) × (f j ≡ Some k)
and_then_parts None f k e = cc
and_then_parts (Some j) f k e = (j, refl, e)

place_sound : (values : List Value) (i : ℕ) → kind_of (slice_index_or values i no_value) ≡ slice_index_or (map kind_of values) i kind.Bool
place_sound [] i = refl
place_sound (v ∷ values) zero = refl
place_sound (v ∷ values) (suc i) = place_sound values i

-- an expression has the kind that it is said to have
pub mean_sound : (t : Tree) (values : List Value) (k : Kind) → kind_in t (map kind_of values) ≡ Some k → kind_of (mean t values) ≡ k
mean_sound (Leaf v) values k e = cc
mean_sound (Place i) values k e =
    let p : kind_of (slice_index_or values i no_value) ≡ slice_index_or (map kind_of values) i kind.Bool = place_sound values i in
    cc
mean_sound (One sign x) values k e =
    let parts = and_then_parts (kind_in x (map kind_of values)) (λ j. unary_kind sign j) k e in
    let inner : kind_of (mean x values) ≡ parts.0 = mean_sound x values parts.0 parts.1 in
    unary_sound sign (mean x values) k (ap (unary_kind sign) inner ∙ parts.2)
mean_sound (Two sign x y) values k e =
    let outer = and_then_parts (kind_in x (map kind_of values))
    (λ i. option_and_then (λ j. binary_kind sign i j) (kind_in y (map kind_of values))) k e in
    let parts = and_then_parts (kind_in y (map kind_of values)) (λ j. binary_kind sign outer.0 j) k outer.2 in
    let left : kind_of (mean x values) ≡ outer.0 = mean_sound x values outer.0 outer.1 in
    let right : kind_of (mean y values) ≡ parts.0 = mean_sound y values parts.0 parts.1 in
    binary_sound sign (mean x values) (mean y values) k
    (ap (λ i. binary_kind sign i (kind_of (mean y values))) left ∙ ap (binary_kind sign outer.0) right ∙ parts.2)

kinds_of_values : (f : ℕ → Value) (g : ℕ → Kind) (names : List ℕ) → ((n : ℕ) → Contains names n → kind_of (f n) ≡ g n)
    → map kind_of (map f names) ≡ map g names
kinds_of_values f g [] same = refl
kinds_of_values f g (n ∷ names) same =
    ap (λ k. k ∷ map kind_of (map f names)) (same n (contains_first n names))
    ∙ ap (λ (ks : List Kind). g n ∷ ks) (kinds_of_values f g names (λ m c. same m (contains_later n names m c)))

definition_sound : (es : List Entry) (entry : Entry) (d : Definition) → HasKind es entry d → is_gone d ≡ false
    → ((o : ℕ) → Contains (operands_in d) o → kind_of (eager es o) ≡ kind_at es o)
    → kind_of (value_of_definition (eager es) d) ≡ entry.kind
definition_sound es entry (Base v) has known below = has
definition_sound es entry (Bound expr operands) has known below =
    mean_sound expr (map (eager es) operands) entry.kind
    (ap (kind_in expr) (kinds_of_values (eager es) (kind_at es) operands below) ∙ has.0)
definition_sound es entry Forgotten has known below = absurd (true≢false known)

eager_sound_below : (es : List Entry) (rank : ℕ → ℕ) → Ranked es rank → AreSound es → (depth name : ℕ) → rank name < depth
    → unknown_in es name ≡ false → kind_of (eager es name) ≡ kind_at es name
eager_sound_below es rank ranked sound zero name below known = absurd (omega arith)
eager_sound_below es rank ranked sound (suc depth) name below known =
    ap kind_of (eager-unfold es rank ranked name)
    ∙ definition_sound es (entry_of es name) (entry_of es name).definition (sound.kinds name) known
    (λ (o : ℕ) (c : Contains (uses es name) o).
    let falls : rank o < rank name = ranked.falls name o c in
    eager_sound_below es rank ranked sound depth o (omega arith) (sound.known name o c))

-- the value of a known name has its kind
pub eager_sound : (es : List Entry) (rank : ℕ → ℕ) → Ranked es rank → AreSound es → (name : ℕ) → unknown_in es name ≡ false
    → kind_of (eager es name) ≡ kind_at es name
eager_sound es rank ranked sound name known = eager_sound_below es rank ranked sound (suc (rank name)) name (omega arith) known
