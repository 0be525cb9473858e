use Rattle.std.proofs.Common.{◌≡◌, [], ◌∷◌, cond, ◌∙◌, ap, Bool, ◌<◌, length, arith}
use Rattle.fx_graph_model.specs.Eager.{eager}
use Rattle.fx_graph_model.specs.Changes.{changed}
use Rattle.fx_graph_model.proofs.MarkSteps.{marks_none, marks_more}
use Rattle.fx_graph.proofs.GivenLemmas.{changed-one}
use Rattle.fx_graph.proofs.giving.mark_pair.Goals as goal

pub returns-then-same : goal.returns-then-same
returns-then-same c =
    let es = c.args.entries.now in
    let one : changed (c.args.pair.now ∷ []) es ≡ [] =
    changed-one es c.requires.ranks.0 c.requires.ranks.1 c.args.pair.now c.has_value-same.result (c.has_value-same.ensures (eager es))
    ∙ ap (λ (b : Bool). cond b [] (c.args.pair.now.0.0 ∷ [])) c.if-same.true in
    rw one (marks_none _ _ _)

pub returns : goal.returns
returns c =
    let es = c.args.entries.now in
    let n = c.args.pair.now.0.0 in
    let one : changed (c.args.pair.now ∷ []) es ≡ n ∷ [] =
    changed-one es c.requires.ranks.0 c.requires.ranks.1 c.args.pair.now c.has_value-same.result (c.has_value-same.ensures (eager es))
    ∙ ap (λ (b : Bool). cond b [] (n ∷ [])) c.if-same.false in
    let within : n < length c.args.unread.now = omega (arith, c.requires.known, c.requires.flags) in
    rw (one, c.mark_one.ensures.flags, c.mark_one.ensures.work, c.mark_one.ensures.count)
    (marks_more [] _ _ _ _ _ _ n (marks_none _ _ _) within c.requires.room)
