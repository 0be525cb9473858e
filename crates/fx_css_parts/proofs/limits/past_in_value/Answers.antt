use Rattle.std.proofs.Common.{sym, ◌≤◌, arith}
use Rattle.fx_css_parts.proofs.PastLayerLaws.{value_open}
use Rattle.fx_css_types.specs.Limits.{layer_count}
use Rattle.fx_css_parts.proofs.limits.past_in_value.Goals as goal

pub returns-then-layer_count-le8 : goal.returns-then-layer_count-le8
returns-then-layer_count-le8 c =
    let few : layer_count c.args.declared.now ≤ 8 = omega (arith, c.layer_count.ensures) in
    sym (value_open c.args.form c.args.place c.args.value.now c.args.declared.now c.requires.spelled few)
