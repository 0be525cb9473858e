use Rattle.std.proofs.Common.{◌+◌, ◌++◌, ℕ, List, take, sym, ◌∙◌, ap}
use Rattle.std.proofs.lemmas.List.{append-nil}
use Rattle.fx_css_types.specs.declared.selectors.Selector.{Selector}
use Rattle.fx_css_types.specs.declared.sheets.Candidate.{Candidate}
use Rattle.fx_css_types.specs.declared.sheets.Rule.{Rule}
use Rattle.fx_css_types.specs.declared.sheets.SheetOrigin.{SheetOrigin}
use Rattle.fx_select.specs.Hits.{own_hit, own_hits_in}
use Rattle.fx_select.proofs.ListingLemmas.{each-more, each-none}
use Rattle.fx_select.proofs.OwnLemmas.{joined-more}
use Rattle.fx_select.proofs.hits.push_rule_hits.Goals as goal

give : ℕ → SheetOrigin → ℕ → Rule → List Candidate
give own origin place r = own_hit own origin place r.selectors

pub loop-place-init : goal.loop-place-init
unfolding give
loop-place-init c =
    sym (append-nil c.args.hits.now.items)
    ∙ ap (λ (l : List Candidate). c.args.hits.now.items ++ l) (sym (each-none (give c.args.own c.args.origin)))

pub loop-place-preserved : goal.loop-place-preserved
unfolding give
loop-place-preserved c =
    let r = c.index-rules-place.result in
    joined-more c.args.hits.now.items (own_hits_in c.args.own c.args.origin (take c.loop-place.place c.args.rules.now))
    c.loop-place.hits.items c.push_rule_hit.new.hits.items
    (own_hit c.args.own c.args.origin c.loop-place.place c.as_slice.result.now) (own_hit c.args.own c.args.origin c.loop-place.place r.selectors)
    (own_hits_in c.args.own c.args.origin (take (c.loop-place.place + 1) c.args.rules.now))
    c.in_ok-push_rule_hit.ensures c.loop-place.invariant
    (ap (λ (ss : List Selector). own_hit c.args.own c.args.origin c.loop-place.place ss) c.as_slice.ensures)
    (each-more (give c.args.own c.args.origin) c.args.rules.now c.loop-place.place r c.loop-place-test.true c.index-rules-place.is)
