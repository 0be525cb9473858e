use Rattle.std.proofs.Common.{◌≡◌, true, ◌∷◌, sym, ap, ◌∙◌}
use Rattle.fx_css_parts.specs.Selecting.{not_sign, parts_at}
use Rattle.fx_css_parts.specs.Drafts.{names_of}
use Rattle.fx_css_parts.proofs.SelectorLemmas.{stops_at, named_turn}
use Rattle.fx_text.specs.Fronts.{stops}
use Rattle.fx_css_parts.proofs.compounds.read_names.Goals as goal

pub loop-sign-preserved : goal.loop-sign-preserved
loop-sign-preserved c =
    let whole : c.loop-sign.rest.now ≡ c.in-Some.sign.now ∷ c.in-Some.behind.now = c.in-Some.ensures.cases.0 in
    let next : stops not_sign (c.in-Some.sign.now ∷ c.in-Some.behind.now) ≡ true = ap (stops not_sign) (sym whole)
    ∙ c.loop-sign.invariant.next in
    record {
      next = stops_at not_sign c.in-Some.behind.now c.split_word.result.1.now c.split_word.ensures.rest;
      names = named_turn c.loop-sign.compound c.push_part.new.compound c.in-Some.sign.now
          c.in-Some.behind.now c.split_word.result.0.now c.split_word.result.1.now
          c.in_ok-named.named c.if-not-named.false next c.split_word.ensures.word c.in_ok-named.ensures
          c.split_word.ensures.rest
          ∙ ap (λ y. names_of c.loop-sign.compound (parts_at y)) (sym whole)
          ∙ c.loop-sign.invariant.names;
    }
