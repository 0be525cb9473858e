use Rattle.std.proofs.Common.{Some, List, ◌++◌, false, sym, ap, ◌∙◌}
use Rattle.std.specs.Option.{option_map}
use Rattle.fx_css_types.specs.declared.selectors.Compound.{Compound}
use Rattle.fx_css_parts.specs.Selecting.{not_gap, compound_at, links_at, linked_at}
use Rattle.fx_css_parts.proofs.SelectorLemmas.{stops_at, compound_pushed, links_turn}
use Rattle.fx_css_parts.proofs.selecting.read_links.Goals as goal

pub loop-rest-preserved : goal.loop-rest-preserved
loop-rest-preserved c =
    let pushed = compound_pushed c.loop-rest.compounds.items c.read_compound.new.compounds.items _ c.in_ok-read.read c.if-not-read.false c.in_ok-read.ensures in
    record {
      next = stops_at not_gap c.split_gap.result.1.now c.split_word.result.1.now c.split_word.ensures.rest;
      compounds = ap (λ (y : List Compound). option_map (λ cs. y ++ cs) (linked_at (links_at false c.split_word.result.1.now))) (sym pushed.2)
          ∙ links_turn c.loop-rest.compounds.items c.loop-rest.rest.now c.split_gap.result.0.now c.split_gap.result.1.now c.split_word.result.1.now c.in-Some.combinator pushed.0
          (sym c.is_empty.ensures ∙ c.loop-rest-test.true) c.loop-rest.invariant.next c.split_gap.ensures.gap c.split_gap.ensures.rest c.split_word.ensures.rest
          (sym c.in-Some.is ∙ c.combinator_of.ensures) (sym pushed.1 ∙ ap (λ y. compound_at (Some c.in-Some.combinator) y) c.split_word.ensures.word)
          ∙ c.loop-rest.invariant.compounds;
    }
