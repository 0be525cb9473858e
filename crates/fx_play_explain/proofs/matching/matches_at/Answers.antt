use Rattle.std.proofs.Common.{◌≡◌, ◌∙◌}
use Rattle.std.proofs.lemmas.Result.{IfOk-weaker}
use Rattle.fx_select.specs.AllMatching.{matching_of}
use Rattle.fx_select.specs.Strongest.{matched_of}
use Rattle.fx_play_explain.proofs.matching.matches_at.Goals as goal

pub returns : goal.returns
returns c =
    let sheets = c.args.sheets.now in
    let nodes = c.args.nodes.now in
    let index = c.in_ok-index.index in
    IfOk-weaker c.matched.result
    (λ found. found.items ≡ matched_of index sheets nodes c.args.at)
    (λ found. found.items ≡ matching_of sheets nodes c.args.at)
    (λ found is.
    is ∙ c.all_matched.ensures sheets index nodes c.args.at c.requires.before c.requires.there c.in_ok-index.ensures)
    c.matched.ensures
