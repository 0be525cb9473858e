use Rattle.std.proofs.Common.{refl, sym, ap, ◌∙◌}
use Rattle.fx_css_parts.specs.Selecting.{not_sign, kind_at}
use Rattle.fx_css_parts.proofs.SelectorLemmas.{stops_at, compound_put}
use Rattle.fx_css_parts.proofs.compounds.read_compound.Goals as goal

pub read_names-requires : goal.read_names-requires
read_names-requires c = stops_at not_sign c.args.text.now c.split_word.result.1.now c.split_word.ensures.rest

pub returns : goal.returns
returns c =
    compound_put c.args.combinator c.args.text.now c.split_word.result.1.now c.in-Some.kind _ c.read_names.new.compound
    c.args.compounds.now.items _ c.read_names.result
    (c.push_mut.follows.holds c.read_names.new.compound (rw (c.branch-compound.ensures, c.in_ok-compound.is) refl)).0
    (sym c.is_empty.ensures ∙ c.if-is_empty.false)
    (sym c.in-Some.is ∙ c.in_ok-kind.ensures ∙ ap kind_at c.split_word.ensures.word)
    c.split_word.ensures.rest
    (c.in_ok-compound.ensures.value ∙ rw (c.new.ensures, c.new-2.ensures, c.new-3.ensures) refl) c.read_names.ensures
