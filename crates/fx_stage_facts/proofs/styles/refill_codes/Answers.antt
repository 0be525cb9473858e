use Rattle.std.proofs.Common.{◌∙◌, ◌++◌, List, ap}
use Rattle.fx_look.specs.declared.styles.CodeValue.{CodeValue}
use Rattle.fx_stage_facts.specs.Styles.{styled_codes}
use Rattle.fx_stage_facts.proofs.CodeLemmas.{codes_of_styled, styled_are_read}
use Rattle.fx_stage_facts.proofs.styles.refill_codes.Goals as goal

pub push_codes-requires : goal.push_codes-requires
push_codes-requires c =
    styled_are_read c.args.store.now c.args.node.now c.args.places.now c.styled.result.now c.requires.read c.requires.class
    c.styled.ensures

pub returns : goal.returns
returns c =
    let entries = c.args.store.now.entries in
    let first = c.args.node.now.first in
    c.finish.ensures
    ∙ c.in_ok-push_codes.ensures
    ∙ ap (λ (codes : List CodeValue). codes ++ styled_codes entries first c.styled.result.now) c.over-codes.ensures
    ∙ codes_of_styled entries first c.args.places.now c.args.node.now.class c.styled.result.now c.requires.class c.styled.ensures
