use Rattle.std.proofs.Common.{◌++◌, List, ℕ, ◌∙◌, ap}
use Rattle.std.specs.Prelude.{option_to_list}
use Rattle.fx_select.specs.Chains.{chain}
use Rattle.fx_plain_explain.specs.Explaining.{listed_by}
use Rattle.fx_play_explain.proofs.SeenLemmas.{seen-first}
use Rattle.fx_play_explain.proofs.matching.seen_at.Goals as goal

pub returns : goal.returns
returns c =
    let nodes = c.args.nodes.now in
    let node = c.node_at.result.now in
    c.in_ok-push_listed.ensures
    ∙ ap (λ (l : List ℕ). l ++ listed_by (chain nodes c.args.at)) c.in_ok-push_place.ensures
    ∙ ap (λ (l : List ℕ). (l ++ option_to_list node.inline) ++ listed_by (chain nodes c.args.at)) c.new-seen.ensures.items
    ∙ seen-first nodes c.requires.before c.args.at node c.node_at.ensures
