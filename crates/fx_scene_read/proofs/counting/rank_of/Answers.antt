-- the piece is counted, if it is a child
use Rattle.std.proofs.Common.{◌∙◌, ◌≡◌, ◌++◌, ◌∷◌, [], List, ℕ, Option, ap, subst, sym}
use Rattle.fx_scene_read.specs.Opening.{AreCounted, owner_in}
use Rattle.fx_scene_outline.specs.Views.{piece_view, shown}
use Rattle.fx_scene_read.proofs.RankLemmas.{child_more, none_more}
use Rattle.fx_scene_read.proofs.counting.rank_of.Goals as goal

pub returns-in-Some-clause-counted : goal.returns-in-Some-clause-counted
returns-in-Some-clause-counted c =
    let piece = piece_view c.args.piece.now in
    let IsCounted : List ℕ → Type 0 = λ counts. AreCounted (shown c.args.before.now ++ (piece ∷ [])) counts in
    subst IsCounted (sym c.count_child.ensures.counted)
    (child_more (shown c.args.before.now) piece c.args.counts.now.items c.in-Some.owner
    (ap owner_in (sym c.seat_of.ensures) ∙ (sym c.owner_in.ensures ∙ c.in-Some.is)) c.requires)

pub returns-in-None-clause-counted : goal.returns-in-None-clause-counted
returns-in-None-clause-counted c =
    none_more (shown c.args.before.now) (piece_view c.args.piece.now) c.args.counts.now.items
    (ap owner_in (sym c.seat_of.ensures) ∙ (sym c.owner_in.ensures ∙ c.in-None.is)) c.requires
