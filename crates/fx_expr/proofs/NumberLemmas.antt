-- What stands at names.
use Rattle.std.proofs.Common.{◌≡◌, ◌<◌, ℕ, List, length, get_or, Contains, ap, subst, ◌∙◌}
use Rattle.std.proofs.lemmas.List.{get_or-map}
use Rattle.std.proofs.lemmas.List.Elements.{Contains-get_or}
use Rattle.std.proofs.Math.ListN.{length-map}
use Rattle.fx_base.specs.declared.keys.Name.{Name}
use Rattle.fx_base.specs.declared.values.Value.{Value}
use Rattle.fx_base.specs.Names.{numbers, name_of}
use Rattle.fx_expr.specs.Meaning.{no_value}
use Rattle.fx_expr.specs.Numbers.{values_at}

number_there : (names : List Name) (i : ℕ) → i < length names
    → get_or (numbers names) i 0 ≡ (get_or names i (name_of 0)).0
number_there names i h = get_or-map (λ (name : Name). name.0) names i (name_of 0) 0 h

count_of : (names : List Name) (i : ℕ) → i < length names → i < length (numbers names)
count_of names i h = simp length-map h

-- the number of a name is among the numbers of the names
pub number_among : (names : List Name) (i : ℕ) → i < length names
    → Contains (numbers names) (get_or names i (name_of 0)).0
number_among names i h =
    subst (Contains (numbers names)) (number_there names i h) (Contains-get_or (numbers names) i 0 (count_of names i h))

-- what stands at the place of a name is what stands at its number
pub value_there : (values : List Value) (names : List Name) (i : ℕ) → i < length names
    → get_or (values_at values (numbers names)) i no_value ≡ get_or values (get_or names i (name_of 0)).0 no_value
value_there values names i h =
    let at : ℕ → Value = λ number. get_or values number no_value in
    get_or-map at (numbers names) i 0 no_value (count_of names i h) ∙ ap at (number_there names i h)
