use Rattle.std.proofs.Common.{◌≡◌, ℕ, Bool, true, false, reverse, List, sym, ◌∙◌, ap}
use Rattle.fx_css_types.specs.declared.selectors.Compound.{Compound}
use Rattle.fx_select.specs.declared.matching.Match.TheVariants.{Here, NotHere, Nowhere}
use Rattle.fx_select.specs.Chains.{chain}
use Rattle.fx_select.specs.Matching.{matches_up}
use Rattle.fx_select.proofs.ClimbLemmas.{up-empty, up-fits, up-unfit}
use Rattle.fx_select.proofs.matching.is_match.Goals as goal

pub returns-in_default : goal.returns-in_default
returns-in_default c =
    let nodes = chain c.args.facts.now c.args.at in
    sym (ap (λ (cs : List Compound). matches_up (reverse cs) nodes) (sym c.as_slice-compounds.ensures)
    ∙ (up-empty c.as_slice-compounds.result.now c.in_default.ensures.cases nodes).0)

pub returns-then-not-fits : goal.returns-then-not-fits
returns-then-not-fits c =
    let nodes = chain c.args.facts.now c.args.at in
    sym (ap (λ (cs : List Compound). matches_up (reverse cs) nodes) (sym c.as_slice-compounds.ensures)
    ∙ up-unfit c.args.facts.now c.requires.before c.as_slice-compounds.result.now c.in-Some.before.now c.in-Some.last.now
    c.args.at c.node_at-node.result.now c.in-Some.ensures.cases.0 c.node_at-node.ensures
    (sym c.fits.ensures ∙ c.if-not-fits.true))

pub returns-in-Here : goal.returns-in-Here
returns-in-Here c =
    let nodes = chain c.args.facts.now c.args.at in
    sym (ap (λ (cs : List Compound). matches_up (reverse cs) nodes) (sym c.as_slice-compounds.ensures)
    ∙ up-fits c.args.facts.now c.requires.before c.as_slice-compounds.result.now c.in-Some.before.now c.in-Some.last.now
    c.args.at c.node_at-node.result.now c.in-Some.ensures.cases.0 c.node_at-node.ensures
    (sym c.fits.ensures ∙ c.if-not-fits.false) Here c.in-Here.ensures)

pub returns-in-NotHere : goal.returns-in-NotHere
returns-in-NotHere c =
    let nodes = chain c.args.facts.now c.args.at in
    sym (ap (λ (cs : List Compound). matches_up (reverse cs) nodes) (sym c.as_slice-compounds.ensures)
    ∙ up-fits c.args.facts.now c.requires.before c.as_slice-compounds.result.now c.in-Some.before.now c.in-Some.last.now
    c.args.at c.node_at-node.result.now c.in-Some.ensures.cases.0 c.node_at-node.ensures
    (sym c.fits.ensures ∙ c.if-not-fits.false) NotHere c.in-NotHere.ensures)

pub returns-in-Nowhere : goal.returns-in-Nowhere
returns-in-Nowhere c =
    let nodes = chain c.args.facts.now c.args.at in
    sym (ap (λ (cs : List Compound). matches_up (reverse cs) nodes) (sym c.as_slice-compounds.ensures)
    ∙ (up-fits c.args.facts.now c.requires.before c.as_slice-compounds.result.now c.in-Some.before.now
    c.in-Some.last.now c.args.at c.node_at-node.result.now c.in-Some.ensures.cases.0 c.node_at-node.ensures
    (sym c.fits.ensures ∙ c.if-not-fits.false) Nowhere c.in-Nowhere.ensures).0)
