use Rattle.std.proofs.Common.{◌≡◌, ◌∙◌, ◌+◌, ℕ, Option, Some, ap, arith, subst}
use Rattle.std.specs.Option.{option_map}
use Rattle.fx_kinds.specs.declared.classes.Class.{Class}
use Rattle.fx_stage_model.specs.Looking.{place_of, property_in}
use Rattle.fx_stage_facts.specs.Places.{name_of}
use Rattle.fx_stage_facts.proofs.ValueLemmas.{found_at, small_place}
use Rattle.fx_stage_facts.proofs.values.name_in.Goals as goal

pub overflow_cast-result : goal.overflow_cast-result
overflow_cast-result c =
    let small =
    small_place c.args.places.now (name_of c.args.asked) c.at.result c.in-Some.place c.at.ensures c.in-Some.is in
    omega (arith, small)

pub overflow_add-result : goal.overflow_add-result
overflow_add-result c =
    let small =
    small_place c.args.places.now (name_of c.args.asked) c.at.result c.in-Some.place c.at.ensures c.in-Some.is in
    omega (arith, small, c.requires.low)

pub returns-in-None : goal.returns-in-None
returns-in-None c =
    let name = name_of c.args.asked in
    subst
    (λ (o : Option ℕ). option_map (λ (place : ℕ). c.args.node.now.first + place) o ≡ property_in (Some c.args.node.now) name)
    c.in-None.is
    (found_at c.args.node.now name c.at.result (c.at.ensures ∙ ap (λ (class : Class). place_of class name) c.requires.class))

pub returns-in-Some : goal.returns-in-Some
returns-in-Some c =
    let name = name_of c.args.asked in
    subst
    (λ (o : Option ℕ). option_map (λ (place : ℕ). c.args.node.now.first + place) o ≡ property_in (Some c.args.node.now) name)
    c.in-Some.is
    (found_at c.args.node.now name c.at.result (c.at.ensures ∙ ap (λ (class : Class). place_of class name) c.requires.class))
