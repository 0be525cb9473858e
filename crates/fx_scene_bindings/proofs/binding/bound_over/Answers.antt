-- there is an operand for each path that stands for no value
use Rattle.std.proofs.Common.{◌∙◌, sym, ap, map, Vec, Global}
use Rattle.std.specs.Option.{option_map}
use Rattle.fx_expr.specs.Tree.{tree}
use Rattle.fx_kinds.specs.Listing.{listed_property}
use Rattle.fx_scene_bindings.specs.Bindings.{operands_of}
use Rattle.fx_scene_bindings.specs.Views.{operand_view}
use Rattle.fx_scene_bindings.specs.declared.operands.Operand.{Operand}
use Rattle.fx_scene_bindings.proofs.OperandLemmas.{bound_found, enough}
use Rattle.fx_scene_things.specs.Known.{known, space_view}
use Rattle.fx_scene_bindings.proofs.binding.bound_over.Goals as goal

pub bound_to-requires : goal.bound_to-requires
bound_to-requires c =
    let spaces = map space_view c.args.spaces.now in
    let names = known c.args.names.now in
    enough spaces names c.args.parsed.paths c.in-Some.operands.items
    c.as_slice-in-Some.result.now (tree c.in_ok-expr-in-Some.expr)
    (ap (option_map (λ (all : Vec Operand Global). map operand_view all.items)) (sym c.in-Some.is)
    ∙ (c.in_ok-operands.ensures ∙ ap (operands_of spaces names) c.as_slice.ensures))
    c.as_slice-in-Some.ensures.value c.in_ok-expr-in-Some.ensures.within

pub returns-in_ok-expr-in-Some : goal.returns-in_ok-expr-in-Some
returns-in_ok-expr-in-Some c =
    let spaces = map space_view c.args.spaces.now in
    let names = known c.args.names.now in
    bound_found spaces names c.args.node (listed_property c.args.property.now) (tree c.args.parsed.expr)
    (tree c.in_ok-expr-in-Some.expr) c.args.parsed.paths c.in-Some.operands.items c.as_slice-in-Some.result.now
    c.bound_to.result
    (ap (option_map (λ (all : Vec Operand Global). map operand_view all.items)) (sym c.in-Some.is)
    ∙ (c.in_ok-operands.ensures ∙ ap (operands_of spaces names) c.as_slice.ensures))
    c.as_slice-in-Some.ensures.value c.in_ok-expr-in-Some.ensures.filled c.bound_to.ensures
