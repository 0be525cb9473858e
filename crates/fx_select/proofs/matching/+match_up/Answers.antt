use Rattle.std.proofs.Common.{◌≡◌, ℕ, false, [], reverse, Option, Some, sym, ◌∙◌, ap, subst}
use Rattle.fx_css_types.specs.declared.selectors.Combinator.{Combinator}
use Rattle.fx_css_types.specs.declared.selectors.Combinator.TheVariants.{Descendant, Child}
use Rattle.fx_select.specs.Chains.{upward}
use Rattle.fx_select.specs.Matching.{IsVerdict, matches_before, matches_up, somewhere}
use Rattle.fx_select.proofs.ChainLemmas.{parent-there, upward-none}
use Rattle.fx_select.proofs.ClimbLemmas.{found-here, looked-above, up-empty, up-fits, up-unfit}
use Rattle.fx_select.proofs.MatchLemmas.{matches_up-nothing, nowhere-twice, somewhere-none}
use Rattle.fx_select.proofs.matching.+match_up.Goals as goal

pub match_ancestor-returns-in-Here : goal.match_ancestor-returns-in-Here
match_ancestor-returns-in-Here t c =
    let facts = c.args.facts.now in
    let holds = matches_up (reverse c.args.before.now) in
    sym c.loop-above.invariant.tried
    ∙ ap (λ (place : Option ℕ). somewhere holds (upward facts place)) c.in-Some.is
    ∙ found-here facts c.requires.before holds c.in-Some.place (c.loop-above.invariant.there c.in-Some.place c.in-Some.is) c.in-Here.ensures

pub match_ancestor-returns-in-Nowhere : goal.match_ancestor-returns-in-Nowhere
match_ancestor-returns-in-Nowhere t c =
    let facts = c.args.facts.now in
    let holds = matches_up (reverse c.args.before.now) in
    let nowhere : somewhere holds (upward facts c.args.parent) ≡ false =
    sym c.loop-above.invariant.tried ∙ ap (λ (place : Option ℕ). somewhere holds (upward facts place)) c.in-Some.is ∙ c.in-Nowhere.ensures.1 in
    (nowhere, nowhere-twice holds (upward facts c.args.parent) nowhere)

pub match_ancestor-loop-above-preserved : goal.match_ancestor-loop-above-preserved
match_ancestor-loop-above-preserved t c =
    let facts = c.args.facts.now in
    let holds = matches_up (reverse c.args.before.now) in
    let node = c.node_at.result.now in
    record {
      there = parent-there facts c.requires.before c.in-Some.place node c.node_at.ensures;
      tried = sym (looked-above facts c.requires.before holds c.in-Some.place node c.node_at.ensures c.in-NotHere.ensures)
          ∙ ap (λ (place : Option ℕ). somewhere holds (upward facts place)) (sym c.in-Some.is)
          ∙ c.loop-above.invariant.tried;
    }

pub match_ancestor-returns : goal.match_ancestor-returns
match_ancestor-returns t c =
    let facts = c.args.facts.now in
    let holds = matches_up (reverse c.args.before.now) in
    let nowhere : somewhere holds (upward facts c.args.parent) ≡ false =
    sym c.loop-above.invariant.tried
    ∙ ap (λ (place : Option ℕ). somewhere holds (upward facts place)) c.in_default.is
    ∙ ap (somewhere holds) (upward-none facts)
    ∙ somewhere-none holds in
    (nowhere, nowhere-twice holds (upward facts c.args.parent) nowhere)

pub match_parent-returns-in-None : goal.match_parent-returns-in-None
match_parent-returns-in-None t c =
    let facts = c.args.facts.now in
    let holds = matches_up (reverse c.args.before.now) in
    let ended : upward facts c.args.parent ≡ [] = ap (upward facts) c.in-None.is ∙ upward-none facts in
    (ap holds ended ∙ matches_up-nothing (reverse c.args.before.now), ap (somewhere holds) ended ∙ somewhere-none holds)

pub match_up-returns-in_default : goal.match_up-returns-in_default
match_up-returns-in_default t c = up-empty c.args.compounds.now c.in_default.ensures.cases (upward c.args.facts.now (Some c.args.at))

pub match_up-returns-then-not-fits : goal.match_up-returns-then-not-fits
match_up-returns-then-not-fits t c =
    up-unfit c.args.facts.now c.requires.before c.args.compounds.now c.in-Some.before.now c.in-Some.last.now c.args.at c.node_at-node.result.now
    c.in-Some.ensures.cases.0 c.node_at-node.ensures (sym c.fits.ensures ∙ c.if-not-fits.true)

pub match_up-returns : goal.match_up-returns
match_up-returns t c =
    up-fits c.args.facts.now c.requires.before c.args.compounds.now c.in-Some.before.now c.in-Some.last.now c.args.at c.node_at-node.result.now
    c.in-Some.ensures.cases.0 c.node_at-node.ensures (sym c.fits.ensures ∙ c.if-not-fits.false) c.match_before.result c.match_before.ensures

pub match_before-returns-in-Child : goal.match_before-returns-in-Child
match_before-returns-in-Child t c =
    let P : Option Combinator → Type 0 = λ o.
    IsVerdict (matches_before o (matches_up (reverse c.args.before.now))) (upward c.args.facts.now c.args.parent) c.match_parent.result in
    let is : c.args.combinator ≡ Some Child = cc in
    subst P (sym is) c.match_parent.ensures

pub match_before-returns-in-Descendant : goal.match_before-returns-in-Descendant
match_before-returns-in-Descendant t c =
    let P : Option Combinator → Type 0 = λ o.
    IsVerdict (matches_before o (matches_up (reverse c.args.before.now))) (upward c.args.facts.now c.args.parent) c.match_ancestor.result in
    let is : c.args.combinator ≡ Some Descendant = cc in
    subst P (sym is) c.match_ancestor.ensures
