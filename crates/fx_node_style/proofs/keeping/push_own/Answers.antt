use Rattle.std.proofs.Common.{◌++◌, List, ◌∙◌, ap}
use Rattle.std.specs.List.{flat_map}
use Rattle.fx_css_types.specs.declared.declarations.Declaration.{Declaration}
use Rattle.fx_cascade.proofs.PassLemmas.{no_candidate}
use Rattle.fx_node_style.specs.Keeping.{named_paint, names_of, own_paints}
use Rattle.fx_node_style.proofs.KeepingLemmas.{rule_pushed, rules_done}
use Rattle.fx_node_style.proofs.keeping.push_own.Goals as goal

pub loop-candidate-preserved : goal.loop-candidate-preserved
loop-candidate-preserved c =
    let rows = c.args.rows in
    let f = named_paint rows.sheets.now rows.matched.now rows.codes.now in
    rule_pushed f rows.sheets.now rows.matched.now c.loop-candidate.candidate-index no_candidate
    c.loop-candidate.paints.items c.push_rule.new.paints.items _ c.loop-candidate-test.true
    (c.in_ok-push_rule.ensures
    ∙ ap (λ (ds : List Declaration). c.loop-candidate.paints.items ++ flat_map f
    (names_of ds)) c.declarations_at.ensures)
    c.loop-candidate.invariant

pub returns : goal.returns
unfolding own_paints
returns c =
    let rows = c.args.rows in
    rules_done (named_paint rows.sheets.now rows.matched.now rows.codes.now) rows.sheets.now rows.matched.now
    c.loop-candidate.candidate-index c.loop-candidate.paints.items _ c.loop-candidate-test.false
    c.loop-candidate.invariant
