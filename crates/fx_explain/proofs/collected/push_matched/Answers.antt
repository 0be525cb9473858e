use Rattle.std.proofs.Common.{◌++◌, List, ap, append-nil, sym, ◌∙◌}
use Rattle.fx_css_types.specs.declared.declarations.Declaration.{Declaration}
use Rattle.fx_cascade.specs.declared.sources.Source.{Source}
use Rattle.fx_cascade.specs.Sources.{rule_voices, sources_for}
use Rattle.fx_cascade.proofs.PassLemmas.{no_candidate}
use Rattle.fx_explain.proofs.CollectLemmas.{match_more, match_none}
use Rattle.fx_explain.proofs.collected.push_matched.Goals as goal

pub loop-at-preserved : goal.loop-at-preserved
loop-at-preserved c =
    let name = c.args.property.now in
    let at = c.loop-at.at in
    let old = c.loop-at.sources.items in
    match_more name old c.push_rule.new.sources.items c.args.sheets.now at c.args.matched.now no_candidate
    c.loop-at-test.true
    (c.in_ok-push_rule.ensures
    ∙ ap (λ (ds : List Declaration). old ++ sources_for name (rule_voices at 0 ds)) c.declarations_at.ensures)
    ∙ c.loop-at.invariant

pub returns : goal.returns
returns c =
    let name = c.args.property.now in
    let items = c.loop-at.sources.items in
    sym (append-nil items)
    ∙ ap (λ (rest : List Source). items ++ rest)
    (sym (match_none name c.args.sheets.now c.loop-at.at c.args.matched.now c.loop-at-test.false))
    ∙ c.loop-at.invariant
