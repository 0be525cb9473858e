-- Operands, one after another.
use Rattle.std.proofs.Common.{◌≡◌, ◌<◌, ◌+◌, ℕ, suc, Bool, true, false, List, [], ◌∷◌, ◌++◌, length, map, drop, get_or, Option, Some, None, is_none, cond, eqb, refl, sym, ◌∙◌, ap, subst, arith, append_assoc, Bor}
use Rattle.std.specs.Prelude.{IfOk, Result, Ok, Err, is_some, slice_get, ◌-◌, ◌||◌, ◌&&◌}
use Rattle.std.specs.Option.{option_copied, option_map}
use Rattle.std.proofs.lemmas.Grind.{common_steps}
use Rattle.std.proofs.lemmas.List.{drop_more, length-map, map-append}
use Rattle.std.proofs.lemmas.List.Sums.{sum_by-cons}
use Rattle.std.specs.Bool.{IsTrue}
use Rattle.fx_base.specs.declared.values.Value.{Value as Content}
use Rattle.fx_expr.specs.Filling.{filled, unknowns}
use Rattle.fx_expr.proofs.FillingLemmas.{none_filled}
use Rattle.fx_kinds.specs.Properties.{ListedProperty}
use Rattle.fx_scene_acts.specs.declared.tasks.Doing.{Doing}
use Rattle.fx_expr.specs.Tree.{Tree, is_within}
use Rattle.fx_scene_bindings.specs.Bindings.{Operand, are_named, bound_over, bound_to, has_value, is_named, node_of, operand_if, operand_of, operands_of, value_of, values_of, with_operand, with_path}
use Rattle.fx_scene_bindings.specs.Views.{operand_view}
use Rattle.fx_scene_bindings.specs.declared.operands.Operand.{Operand as Shown}
use Rattle.fx_scene_things.specs.Names.{Names}
use Rattle.fx_scene_things.specs.Spaces.{Space, node_along}
use Rattle.fx_scene_things.specs.declared.things.Named.{Named}

-- what is found so far in front of the rest
abbrev pub behind : List Operand → Option (List Operand) → Option (List Operand)
behind found None = None
behind found (Some others) = Some (found ++ others)

abbrev count : Option (List Operand) → ℕ
count None = 0
count (Some found) = length found

unknown_more : (values : List (Option Content)) → unknowns (None ∷ values) ≡ suc (unknowns values)
unknown_more values = let e = sum_by-cons (λ (v : Option Content). cond (is_none v) 1 0) None values in omega (arith, e)

known_more : (v : Content) (values : List (Option Content)) → unknowns (Some v ∷ values) ≡ unknowns values
known_more v values = let e = sum_by-cons (λ (v : Option Content). cond (is_none v) 1 0) (Some v) values in omega (arith, e)

-- there is an operand for each path that stands for no value
one_each : (spaces : List Space) (names : Names) (paths : List (List (List ℕ))) (found : List Operand) → operands_of spaces names paths ≡ Some found
    → length found ≡ unknowns (values_of names paths)
one_each spaces names [] found e = ap (λ o. count o) (sym e)
one_each spaces names (path ∷ paths) found e =
    by_first (value_of names path) (operand_of spaces names path) (operands_of spaces names paths)
    (λ all h. one_each spaces names paths all h) e
  where
    by_first : (known : Option Content) (one : Option Operand) (others : Option (List Operand))
        → ((all : List Operand) → others ≡ Some all → length all ≡ unknowns (values_of names paths))
        → with_path known one others ≡ Some found
        → length found ≡ unknowns (known ∷ values_of names paths)
    by_first (Some v) one others each e = each found e ∙ sym (known_more v (values_of names paths))
    by_first None None others each e = absurd (cc)
    by_first None (Some o) None each e = absurd (cc)
    by_first None (Some o) (Some all) each e =
        ap count (sym e) ∙ (ap suc (each all refl) ∙ sym (unknown_more (values_of names paths)))

pub enough : (spaces : List Space) (names : Names) (paths : List (List (List ℕ))) (operands seen : List Shown)
    (t : Tree) → Some (map operand_view operands) ≡ operands_of spaces names paths
    → seen ≡ operands → IsTrue (is_within t (unknowns (values_of names paths))) → IsTrue (is_within t (length seen))
enough spaces names paths operands seen t found shown_as within =
    let long = ap (λ (os : List Shown). length os) shown_as ∙ (sym (length-map operands operand_view)
    ∙ one_each spaces names paths (map operand_view operands) (sym found)) in
    subst (λ n. IsTrue (is_within t n)) (sym long) within

both : {a b : Bool} → a ≡ true → b ≡ true → (a && b) ≡ true
both e f = rw (e, f) refl

not_single : (n : ℕ) → eqb (suc (suc n)) 1 ≡ false
not_single n = grind (arith, common_steps)

-- a path to an operand leads to a node
on_node : (spaces : List Space) (names : Names) (path : List (List ℕ)) → value_of names path ≡ None → is_some (operand_of spaces names path) ≡ true
    → is_named spaces names path ≡ true
unfolding operand_of node_along
on_node spaces names [] none e = absurd (cc)
on_node spaces names (name ∷ []) none e = absurd (cc)
on_node spaces names (name ∷ next ∷ rest) none e =
    rw (not_single (length rest)) (by (slice_get (name ∷ next ∷ rest) (length (name ∷ next ∷ rest) - 1)) (node_of spaces names (name ∷ next ∷ rest)) e)
  where
    by : (property : Option (List ℕ)) (found : Option Named) → is_some (operand_if property found) ≡ true → is_some found ≡ true
    by None found h = absurd (cc)
    by (Some property) None h = absurd (cc)
    by (Some property) (Some node) h = refl

on_value : (spaces : List Space) (names : Names) (path : List (List ℕ)) → is_some (value_of names path) ≡ true → is_named spaces names path ≡ true
on_value spaces names [] e = absurd (cc)
on_value spaces names (name ∷ []) e = e
on_value spaces names (name ∷ next ∷ rest) e = absurd (cc)

-- where each path leads to an operand or stands for a value, each leads to something
pub all_named : (spaces : List Space) (names : Names) (paths : List (List (List ℕ))) (found : List Operand)
    → operands_of spaces names paths ≡ Some found → are_named spaces names paths ≡ true
all_named spaces names [] found e = refl
all_named spaces names (path ∷ paths) found e =
    by_first (value_of names path) (operand_of spaces names path) (operands_of spaces names paths)
    (λ h. on_value spaces names path h) (λ n h. on_node spaces names path n h)
    (λ all h. all_named spaces names paths all h) refl refl e
  where
    by_first : (known : Option Content) (one : Option Operand) (others : Option (List Operand))
        → (is_some (value_of names path) ≡ true → is_named spaces names path ≡ true)
        → (value_of names path ≡ None → is_some (operand_of spaces names path) ≡ true → is_named spaces names path ≡ true)
        → ((all : List Operand) → others ≡ Some all → are_named spaces names paths ≡ true)
        → value_of names path ≡ known → operand_of spaces names path ≡ one
        → with_path known one others ≡ Some found
        → are_named spaces names (path ∷ paths) ≡ true
    by_first (Some v) one others valued noded each k o e = both (valued (ap is_some k)) (each found e)
    by_first None None others valued noded each k o e = absurd (cc)
    by_first None (Some one) None valued noded each k o e = absurd (cc)
    by_first None (Some one) (Some all) valued noded each k o e = both (noded k (ap is_some o)) (each all refl)

-- where no path stands for a value, none is known
pub none_known : (names : Names) (paths : List (List (List ℕ))) → has_value names paths ≡ false
    → unknowns (values_of names paths) ≡ length (values_of names paths)
none_known names [] e = refl
none_known names (path ∷ paths) e = by (value_of names path) (none_known names paths) e
  where
    by : (known : Option Content) → (has_value names paths ≡ false → unknowns (values_of names paths) ≡ length (values_of names paths))
        → (is_some known || has_value names paths) ≡ false
        → unknowns (known ∷ values_of names paths) ≡ length (known ∷ values_of names paths)
    by (Some v) rest h = absurd (cc)
    by None rest h = unknown_more (values_of names paths) ∙ ap suc (rest h)

pub none_to_fill : (names : Names) (paths seen : List (List (List ℕ))) (t : Tree) → seen ≡ paths → has_value names seen ≡ false
    → IsTrue (is_within t (length paths)) → t ≡ filled (values_of names paths) t
none_to_fill names paths seen t same none within =
    none_filled (values_of names paths) t (none_known names paths (ap (has_value names) (sym same) ∙ none))
    (subst (λ n. IsTrue (is_within t n)) (sym (length-map paths (value_of names))) within)

pub none_within : (names : Names) (paths seen : List (List (List ℕ))) (t : Tree) → seen ≡ paths → has_value names seen ≡ false
    → IsTrue (is_within t (length paths)) → IsTrue (is_within t (unknowns (values_of names paths)))
none_within names paths seen t same none within =
    subst (λ n. IsTrue (is_within t n))
    (sym (none_known names paths (ap (has_value names) (sym same) ∙ none) ∙ length-map paths (value_of names))) within

if_ok : {X E : Type 0} {P Q : X → Type 0} (r : Result X E) → ((x : X) → P x → Q x) → IfOk r P → IfOk r Q
if_ok (Ok x) f p = f x p
if_ok (Err e) f p = tt

-- what is done where each path that stands for no value leads to an operand
pub bound_found : {E : Type 0} (spaces : List Space) (names : Names) (node : ℕ) (property : ListedProperty)
    (t whole : Tree) (paths : List (List (List ℕ))) (operands seen : List Shown) (r : Result Doing E)
    → Some (map operand_view operands) ≡ operands_of spaces names paths → seen ≡ operands
    → whole ≡ filled (values_of names paths) t
    → IfOk r (λ doing. doing ≡ bound_to node property whole (map operand_view seen))
    → IfOk r (λ doing. doing ≡ bound_over spaces names node property t paths)
bound_found spaces names node property t whole paths operands seen r found shown_as is done =
    if_ok r (λ doing e. e ∙ (ap (λ (os : List Shown). bound_to node property whole (map operand_view os)) shown_as
    ∙ (ap (λ (u : Tree). bound_to node property u (map operand_view operands)) is
    ∙ rw (all_named spaces names paths (map operand_view operands) (sym found), sym found) refl))) done

-- a turn of the loop over all paths

abbrev rest_of : List Space → Names → List (List (List ℕ)) → ℕ → Option (List Operand)
rest_of spaces names paths i = operands_of spaces names (drop i paths)

no_value : {A : Type 0} (found : Option (Bor A)) → is_some found ≡ false → option_copied found ≡ None
no_value None e = refl
no_value (Some v) e = absurd (cc)

at : (spaces : List Space) (names : Names) (paths : List (List (List ℕ))) (i : ℕ) (path : List (List ℕ))
    → i < length paths → path ≡ get_or paths i path
    → rest_of spaces names paths i
    ≡ with_path (value_of names path) (operand_of spaces names path) (rest_of spaces names paths (i + 1))
at spaces names paths i path h is =
    ap (operands_of spaces names)
    (drop_more paths i path h ∙ ap (λ (p : List (List ℕ)). p ∷ drop (i + 1) paths) (sym is))

pub turn_found : (spaces : List Space) (names : Names) (paths : List (List (List ℕ))) (i : ℕ) (path seen again : List (List ℕ))
    (known : Option (Bor Content)) (one : Shown) (found now : List Shown) → i < length paths → path ≡ get_or paths i path
    → seen ≡ path → again ≡ path → option_copied known ≡ value_of names seen → is_some known ≡ false
    → Some (operand_view one) ≡ operand_of spaces names again → now ≡ found ++ (one ∷ [])
    → behind (map operand_view found) (rest_of spaces names paths i) ≡ operands_of spaces names paths
    → behind (map operand_view now) (rest_of spaces names paths (i + 1)) ≡ operands_of spaces names paths
turn_found spaces names paths i path seen again known one found now h is same twice copied none operand more so_far =
    let nothing : value_of names path ≡ None =
    ap (value_of names) (sym same) ∙ (sym copied ∙ no_value known none) in
    let here : operand_of spaces names path ≡ Some (operand_view one) =
    ap (operand_of spaces names) (sym twice) ∙ sym operand in
    let next : rest_of spaces names paths i ≡ with_operand (Some (operand_view one)) (rest_of spaces names paths (i + 1)) =
    at spaces names paths i path h is
    ∙ (λ j. with_path (nothing j) (here j) (rest_of spaces names paths (i + 1))) in
    ap (λ (l : List Shown). behind (map operand_view l) (rest_of spaces names paths (i + 1))) more
    ∙ (joined (rest_of spaces names paths (i + 1)) ∙ (ap (behind (map operand_view found)) (sym next) ∙ so_far))
  where
    joined : (others : Option (List Operand))
        → behind (map operand_view (found ++ (one ∷ []))) others
        ≡ behind (map operand_view found) (with_operand (Some (operand_view one)) others)
    joined None = refl
    joined (Some all) =
        ap (λ (l : List Operand). Some (l ++ all)) (map-append operand_view found (one ∷ []))
        ∙ ap (λ (l : List Operand). Some l) (append_assoc (map operand_view found) (operand_view one ∷ []) all)

pub turn_missing : (spaces : List Space) (names : Names) (paths : List (List (List ℕ))) (i : ℕ) (path seen again : List (List ℕ))
    (known : Option (Bor Content)) (one : Option Shown) (found : List Shown) → i < length paths → path ≡ get_or paths i path
    → seen ≡ path → again ≡ path → option_copied known ≡ value_of names seen → is_some known ≡ false → one ≡ None
    → option_map operand_view one ≡ operand_of spaces names again
    → behind (map operand_view found) (rest_of spaces names paths i) ≡ operands_of spaces names paths
    → None ≡ operands_of spaces names paths
turn_missing spaces names paths i path seen again known one found h is same twice copied none gone operand so_far =
    let nothing : value_of names path ≡ None =
    ap (value_of names) (sym same) ∙ (sym copied ∙ no_value known none) in
    let here : operand_of spaces names path ≡ None =
    ap (operand_of spaces names) (sym twice) ∙ (sym operand ∙ ap (option_map operand_view) gone) in
    let next : rest_of spaces names paths i ≡ None =
    at spaces names paths i path h is
    ∙ (λ j. with_path (nothing j) (here j) (rest_of spaces names paths (i + 1))) in
    ap (behind (map operand_view found)) (sym next) ∙ so_far
