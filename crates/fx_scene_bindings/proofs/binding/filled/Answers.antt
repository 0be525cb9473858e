-- where no path stands for a value, the expression stays as it is
use Rattle.std.proofs.Common.{◌∙◌, sym}
use Rattle.fx_expr.specs.Tree.{tree}
use Rattle.fx_scene_bindings.proofs.OperandLemmas.{none_to_fill, none_within}
use Rattle.fx_scene_things.specs.Known.{known}
use Rattle.fx_scene_bindings.proofs.binding.filled.Goals as goal

pub returns-clause-filled : goal.returns-clause-filled
returns-clause-filled c =
    none_to_fill (known c.args.names.now) c.args.parsed.paths c.as_slice.result.now (tree c.args.parsed.expr)
    c.as_slice.ensures (sym c.has_value.ensures ∙ c.if-has_value.false) c.requires

pub returns-clause-within : goal.returns-clause-within
returns-clause-within c =
    none_within (known c.args.names.now) c.args.parsed.paths c.as_slice.result.now (tree c.args.parsed.expr)
    c.as_slice.ensures (sym c.has_value.ensures ∙ c.if-has_value.false) c.requires
