use Rattle.std.proofs.Common.{List, sym, ◌∙◌, ap}
use Rattle.fx_kinds.specs.declared.facts.StyleFacts.{StyleFacts}
use Rattle.fx_select.specs.Hits.{is_own}
use Rattle.fx_select.proofs.ChainLemmas.{upward-some}
use Rattle.fx_select.proofs.hits.is_own.Goals as goal

pub returns : goal.returns
returns c =
    c.is_inline.ensures
    ∙ ap (λ (nodes : List StyleFacts). is_own nodes c.args.sheet)
    (sym (upward-some c.args.facts.now c.requires.before c.args.at c.node_at.result.now c.node_at.ensures))
