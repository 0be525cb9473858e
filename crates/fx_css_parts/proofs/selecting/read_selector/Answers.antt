use Rattle.std.proofs.Common.{[], ◌∷◌, ◌++◌, sym, ap, ◌∙◌}
use Rattle.std.specs.Option.{option_map}
use Rattle.fx_css_parts.specs.Selecting.{not_gap}
use Rattle.fx_css_parts.proofs.SelectorLemmas.{stops_at, compound_pushed, selector_unread, selector_read}
use Rattle.fx_css_parts.proofs.selecting.read_selector.Goals as goal

pub read_links-requires : goal.read_links-requires
read_links-requires c = stops_at not_gap c.args.text.now c.split_word.result.1.now c.split_word.ensures.rest

pub returns-in_default : goal.returns-in_default
returns-in_default c =
    let first = compound_pushed c.in_ok-compounds.compounds.items c.read_compound.new.compounds.items _ c.in_ok-read.read c.if-not-read.false c.in_ok-read.ensures in
    selector_unread c.args.text.now c.split_word.result.0.now c.split_word.result.1.now first.0 _ _ c.split_word.ensures.word c.split_word.ensures.rest (sym first.1)
    (sym first.2 ∙ ap (λ y. y ++ (first.0 ∷ [])) c.in_ok-compounds.ensures.items) c.in_ok-compounds-2.ensures (ap (λ o. option_map (λ v. v.items) o) (sym c.in_default.is))

pub returns : goal.returns
returns c =
    let first = compound_pushed c.in_ok-compounds.compounds.items c.read_compound.new.compounds.items _ c.in_ok-read.read c.if-not-read.false c.in_ok-read.ensures in
    rw c.from_vec.ensures
    (selector_read c.args.text.now c.split_word.result.0.now c.split_word.result.1.now first.0 _ _ c.split_word.ensures.word c.split_word.ensures.rest (sym first.1)
    (sym first.2 ∙ ap (λ y. y ++ (first.0 ∷ [])) c.in_ok-compounds.ensures.items) c.in_ok-compounds-2.ensures c.in-Some.compounds.items (ap (λ o. option_map (λ v. v.items) o) (sym c.in-Some.is)))
