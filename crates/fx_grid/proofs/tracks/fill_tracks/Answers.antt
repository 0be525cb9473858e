-- The lists of lengths are those of the definition, so the children widen them within the grid's tracks.
use Rattle.std.proofs.Common.{List, ℕ, length, ap, ◌∙◌}
use Rattle.std.specs.Prelude.{fold}
use Rattle.fx_panes_parts.specs.Axes.{along}
use Rattle.fx_panes.specs.declared.rules.Bound.TheVariants.{Minimum, Preferred}
use Rattle.fx_grid.specs.Tracks.{widened}
use Rattle.fx_grid.proofs.CountLemmas.{length-lengths_alone, within_count}
use Rattle.fx_grid.proofs.NeedLemmas.{fresh_needs, length_front, lengths_alone_are, tracks_are}
use Rattle.fx_grid.proofs.tracks.fill_tracks.Goals as goal

pub fill_needs-requires-clause-none : goal.fill_needs-requires-clause-none
fill_needs-requires-clause-none g c = fresh_needs g.row.N (length c.args.tracks.now) c.requires.few

pub fill_needs-requires-clause-within : goal.fill_needs-requires-clause-within
fill_needs-requires-clause-within g c =
    within_count c.args.axis c.args.given.now c.args.children.now _
    (length_front g.row.N _ c.requires.few ∙ c.requires.count)

pub widen_all-requires-clause-within : goal.widen_all-requires-clause-within
widen_all-requires-clause-within g c =
    within_count c.args.axis c.args.given.now c.args.children.now _
    (ap length (lengths_alone_are Minimum c.args.given.now (along c.args.axis c.args.children.now) _ _ _
    (length_front g.row.N _ c.requires.few ∙ c.requires.count) c.fill_needs.ensures c.fill_alone.ensures)
    ∙ length-lengths_alone Minimum c.args.given.now (along c.args.axis c.args.children.now))

pub widen_all-requires-2-clause-within : goal.widen_all-requires-2-clause-within
widen_all-requires-2-clause-within g c =
    within_count c.args.axis c.args.given.now c.args.children.now _
    (ap length (lengths_alone_are Preferred c.args.given.now (along c.args.axis c.args.children.now) _ _ _
    (length_front g.row.N _ c.requires.few ∙ c.requires.count) c.fill_needs.ensures c.fill_alone-2.ensures)
    ∙ length-lengths_alone Preferred c.args.given.now (along c.args.axis c.args.children.now))

pub returns : goal.returns
returns g c =
    tracks_are c.args.gap c.args.given.now (along c.args.axis c.args.children.now) _ _ _ _ _
    (length_front g.row.N _ c.requires.few ∙ c.requires.count) c.fill_needs.ensures
    (c.widen_all.ensures
    ∙ ap (λ (l : List ℕ). fold (widened Minimum c.args.gap) l (along c.args.axis c.args.children.now))
    (lengths_alone_are Minimum c.args.given.now (along c.args.axis c.args.children.now) _ _ _
    (length_front g.row.N _ c.requires.few ∙ c.requires.count) c.fill_needs.ensures c.fill_alone.ensures))
    (c.widen_all-2.ensures
    ∙ ap (λ (l : List ℕ). fold (widened Preferred c.args.gap) l (along c.args.axis c.args.children.now))
    (lengths_alone_are Preferred c.args.given.now (along c.args.axis c.args.children.now) _ _ _
    (length_front g.row.N _ c.requires.few ∙ c.requires.count) c.fill_needs.ensures c.fill_alone-2.ensures))
    c.fill_by.ensures
