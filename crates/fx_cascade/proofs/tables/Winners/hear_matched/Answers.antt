use Rattle.std.proofs.Common.{◌≡◌, ◌+◌, List, get_or, drop, sym, subst, ◌∙◌, ap}
use Rattle.std.specs.Prelude.{All}
use Rattle.fx_css_types.specs.Limits.{IsKeptDeclaration}
use Rattle.fx_css_types.specs.declared.declarations.Declaration.{Declaration}
use Rattle.fx_cascade.specs.Sources.{declared_voices, rule_voices}
use Rattle.fx_cascade.specs.Tables.{source_of}
use Rattle.fx_cascade.specs.Winners.{heard}
use Rattle.fx_cascade.proofs.PassLemmas.{kept_declarations, no_candidate, voices_more, voices_done}
use Rattle.fx_cascade.proofs.tables.Winners.hear_matched.Goals as goal

pub hear_rule-requires : goal.hear_rule-requires
hear_rule-requires c =
    subst (λ (ds : List Declaration). All IsKeptDeclaration ds) (sym c.declarations_at.ensures)
    (kept_declarations c.args.sheets.now (get_or c.args.matched.now c.loop-at.at no_candidate) c.requires)

pub loop-at-preserved : goal.loop-at-preserved
loop-at-preserved c = λ name.
    let at = c.loop-at.at in
    let matched = c.args.matched.now in
    let best = source_of c.loop-at.self name in
    ap (λ best. heard matched name best (declared_voices c.args.sheets.now (at + 1) (drop (at + 1) matched)))
    (c.in_ok-hear_rule.ensures name
    ∙ ap (λ (ds : List Declaration). heard matched name best (rule_voices at 0 ds)) c.declarations_at.ensures)
    ∙ sym (voices_more matched name best c.args.sheets.now at matched no_candidate c.loop-at-test.true)
    ∙ c.loop-at.invariant name

pub returns : goal.returns
returns c = λ name.
    voices_done c.args.matched.now name (source_of c.loop-at.self name) c.args.sheets.now c.loop-at.at
    c.args.matched.now c.loop-at-test.false
    ∙ c.loop-at.invariant name
