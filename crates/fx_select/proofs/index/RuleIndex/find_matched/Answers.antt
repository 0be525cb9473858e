-- The merged hits are noted each in turn; their rules are those of the hits.
use Rattle.std.proofs.Common.{◌≡◌, List, sym, ◌∙◌, ap, subst}
use Rattle.std.specs.List.{filter_map}
use Rattle.fx_css_types.specs.declared.sheets.Candidate.{Candidate}
use Rattle.fx_select.specs.Chains.{chain}
use Rattle.fx_select.specs.Hits.{hits_of}
use Rattle.fx_select.specs.Strongest.{rules_of, strongest}
use Rattle.fx_select.proofs.MergedLemmas.{merged_of-strongest}
use Rattle.fx_select.proofs.RuleLemmas.{hits-among, rising-rules_of}
use Rattle.fx_select.proofs.StrongestLemmas.{AllAmong}
use Rattle.fx_select.proofs.index.RuleIndex.find_matched.Goals as goal

pub returns : goal.returns
returns c =
    let listing = c.args.self.now in
    let sheets = c.args.sheets.now in
    let nodes = chain c.args.facts.now c.args.at in
    let found = c.find_hits.new.hits.items in
    let hits : found ≡ hits_of listing sheets nodes = c.in_ok-find_hits.ensures in
    let among : AllAmong found (rules_of sheets) =
    subst (λ (l : List Candidate). AllAmong l (rules_of sheets)) (sym hits) (hits-among listing sheets nodes) in
    let merged = c.in_ok-merge_hits.ensures in
    merged.merged
    ∙ merged_of-strongest (rules_of sheets) (rising-rules_of sheets) found merged.sorted among merged.permutation
    merged.stable merged.order
    ∙ ap (λ (l : List Candidate). filter_map (strongest l) (rules_of sheets)) hits
