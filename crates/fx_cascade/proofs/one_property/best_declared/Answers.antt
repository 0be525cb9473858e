use Rattle.std.proofs.Common.{◌≡◌, ◌+◌, List, get_or, drop, sym, ◌∙◌, ap}
use Rattle.fx_css_types.specs.declared.declarations.Declaration.{Declaration}
use Rattle.fx_cascade.specs.Sources.{declared_voices, rule_voices}
use Rattle.fx_cascade.specs.Winners.{heard}
use Rattle.fx_cascade.proofs.PassLemmas.{no_candidate, voices_done, voices_more}
use Rattle.fx_cascade.proofs.one_property.best_declared.Goals as goal

pub loop-at-preserved : goal.loop-at-preserved
loop-at-preserved c =
    let name = c.args.property.now in
    let at = c.loop-at.at in
    let matched = c.args.matched.now in
    ap (λ best. heard matched name best (declared_voices c.args.sheets.now (at + 1) (drop (at + 1) matched)))
    (c.best_in-best.ensures
    ∙ ap (λ (ds : List Declaration). heard matched name c.loop-at.best (rule_voices at 0 ds))
    c.declarations_at.ensures)
    ∙ sym (voices_more matched name c.loop-at.best c.args.sheets.now at matched no_candidate c.loop-at-test.true)
    ∙ c.loop-at.invariant

pub returns : goal.returns
returns c =
    voices_done c.args.matched.now c.args.property.now c.loop-at.best c.args.sheets.now c.loop-at.at c.args.matched.now
    c.loop-at-test.false
    ∙ c.loop-at.invariant
