-- an operand more, and one that isn't there
use Rattle.std.proofs.Common.{◌∙◌, sym, map}
use Rattle.fx_scene_bindings.proofs.OperandLemmas.{turn_found, turn_missing}
use Rattle.fx_scene_things.specs.Known.{known, space_view}
use Rattle.fx_scene_bindings.proofs.operands.operands_of.Goals as goal

pub returns-in-None : goal.returns-in-None
returns-in-None c =
    turn_missing (map space_view c.args.spaces.now) (known c.args.names.now) c.args.paths.now c.loop-path.path-index
    c.path-item.result c.as_slice.result.now c.as_slice-in-loop-path.result.now c.value_of.result c.operand_of.result
    c.loop-path.operands.items c.loop-path-test.true c.path-item.is c.as_slice.ensures c.as_slice-in-loop-path.ensures
    c.value_of.ensures (sym c.is_some.ensures ∙ c.if-is_some.false) c.in-None.is c.operand_of.ensures
    c.loop-path.invariant

pub loop-path-preserved : goal.loop-path-preserved
loop-path-preserved c =
    turn_found (map space_view c.args.spaces.now) (known c.args.names.now) c.args.paths.now c.loop-path.path-index
    c.path-item.result c.as_slice.result.now c.as_slice-in-loop-path.result.now c.value_of.result c.in-Some.operand
    c.loop-path.operands.items c.push.new.self.items c.loop-path-test.true c.path-item.is c.as_slice.ensures
    c.as_slice-in-loop-path.ensures c.value_of.ensures (sym c.is_some.ensures ∙ c.if-is_some.false)
    c.in-Some.ensures c.in_ok-push-in-Some.ensures.items c.loop-path.invariant
