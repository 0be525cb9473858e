use Rattle.std.proofs.Common.{◌≡◌, ◌||◌, ℕ, Bool, true, false, List, ◌∷◌, Option, Some, sym, ◌∙◌, ap}
use Rattle.std.specs.List.{list_any}
use Rattle.fx_kinds.specs.declared.facts.StyleFacts.{StyleFacts}
use Rattle.fx_select.specs.Chains.{upward}
use Rattle.fx_select.specs.Hits.{lists_sheet}
use Rattle.fx_select.proofs.ChainLemmas.{parent-there, upward-none, upward-some}
use Rattle.fx_select.proofs.hits.is_listed.Goals as goal

-- what is asked of a node and those above it, once the node has answered
any-step : (sheet : ℕ) (node : StyleFacts) (above nodes : List StyleFacts) (b : Bool)
    → nodes ≡ node ∷ above → lists_sheet sheet node ≡ b → list_any (lists_sheet sheet) nodes ≡ (b || list_any (lists_sheet sheet) above)
any-step sheet node above nodes b is test =
    ap (list_any (lists_sheet sheet)) is ∙ ap (λ (t : Bool). t || list_any (lists_sheet sheet) above) test

pub returns-then-lists_sheet : goal.returns-then-lists_sheet
returns-then-lists_sheet c =
    let facts = c.args.facts.now in
    let node = c.node_at-node.result.now in
    sym
    (sym c.loop-above.invariant.passed
    ∙ ap (λ (place : Option ℕ). list_any (lists_sheet c.args.sheet) (upward facts place)) c.in-Some.is
    ∙ any-step c.args.sheet node (upward facts node.parent) (upward facts (Some c.in-Some.place)) true
    (upward-some facts c.requires.before c.in-Some.place node c.node_at-node.ensures) (sym c.lists_sheet.ensures ∙ c.if-lists_sheet.true))

pub loop-above-preserved : goal.loop-above-preserved
loop-above-preserved c =
    let facts = c.args.facts.now in
    let node = c.node_at-node.result.now in
    record {
      there = parent-there facts c.requires.before c.in-Some.place node c.node_at-node.ensures;
      passed =
          sym (any-step c.args.sheet node (upward facts node.parent) (upward facts (Some c.in-Some.place)) false
          (upward-some facts c.requires.before c.in-Some.place node c.node_at-node.ensures) (sym c.lists_sheet.ensures ∙ c.if-lists_sheet.false))
          ∙ ap (λ (place : Option ℕ). list_any (lists_sheet c.args.sheet) (upward facts place)) (sym c.in-Some.is)
          ∙ c.loop-above.invariant.passed;
    }

pub returns : goal.returns
returns c =
    let facts = c.args.facts.now in
    sym
    (sym c.loop-above.invariant.passed
    ∙ ap (λ (place : Option ℕ). list_any (lists_sheet c.args.sheet) (upward facts place)) c.in_default.is
    ∙ ap (list_any (lists_sheet c.args.sheet)) (upward-none facts))
