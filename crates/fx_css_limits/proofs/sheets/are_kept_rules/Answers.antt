-- one more keeps within the limits
use Rattle.std.proofs.Common.{refl, sym, subst}
use Rattle.std.specs.Prelude.{All, IsTrue}
use Rattle.std.proofs.lemmas.List.{take_all}
use Rattle.std.proofs.lemmas.List.Elements.{All-more}
use Rattle.fx_css_types.specs.declared.sheets.Rule.{Rule}
use Rattle.fx_css_types.specs.Limits.{IsKeptRule}
use Rattle.fx_css_limits.proofs.sheets.are_kept_rules.Goals as goal

pub loop-rule-preserved : goal.loop-rule-preserved
loop-rule-preserved c =
    let P : Rule → Type 0 = IsKeptRule in
    let kept : P c.rule-item.result = c.is_kept_rule.ensures.0 (subst IsTrue (sym c.if-not-is_kept_rule.false) refl) in
    All-more P c.args.rules.now c.loop-rule.rule-index c.rule-item.result c.loop-rule-test.true c.loop-rule.invariant (subst P c.rule-item.is kept)

pub returns : goal.returns
returns c =
    let P : Rule → Type 0 = IsKeptRule in
    (λ _. subst (All P) (take_all c.loop-rule.rule-index c.args.rules.now c.loop-rule-test.false) c.loop-rule.invariant, λ _. refl)
