use Rattle.std.proofs.Common.{sym, ap, subst, ◌∙◌, ◌+◌, ◌++◌, ◌∷◌, [], slice_index_or}
use Rattle.fx_layout_sweeps.specs.Nodes.{parents}
use Rattle.fx_pulse.specs.Drawing.{AreCounts}
use Rattle.fx_pulse.proofs.PathLemmas.{counts_child, counts_root, parent_there, path_none, path_some}
use Rattle.fx_pulse.proofs.paths.next_path.Goals as goal

pub returns-in-None-clause-path : goal.returns-in-None-clause-path
returns-in-None-clause-path c =
    c.new.ensures ∙ path_none c.args.boxes.now c.args.place c.requires.there (sym c.in-None.ensures)

pub returns-in-None-clause-counts : goal.returns-in-None-clause-counts
returns-in-None-clause-counts c =
    counts_root c.args.boxes.now c.args.place c.args.counts.now.items c.requires.there (sym c.in-None.ensures)
    c.requires.counts

pub count_child-child-requires-clause-there : goal.count_child-child-requires-clause-there
count_child-child-requires-clause-there c =
    parent_there c.args.boxes.now c.args.place c.in-Some.parent c.args.counts.now.items c.requires.tree c.requires.there
    (sym c.in-Some.ensures) c.requires.counts

pub returns-clause-path : goal.returns-clause-path
returns-clause-path c =
    c.in_ok-path.ensures
    ∙ (ap (λ p. p ++ c.count_child-child.result ∷ []) c.path_at.ensures
    ∙ (ap (λ n. slice_index_or c.args.paths.now c.in-Some.parent [] ++ n ∷ []) c.count_child-child.ensures.child
    ∙ path_some c.args.boxes.now c.args.place c.in-Some.parent c.args.paths.now c.args.counts.now.items c.requires.tree
    c.requires.there (sym c.in-Some.ensures) c.requires.paths c.requires.counts))

pub returns-clause-counts : goal.returns-clause-counts
returns-clause-counts c =
    subst (λ l. AreCounts (parents c.args.boxes.now) l (c.args.place + 1)) (sym c.count_child-child.ensures.counts)
    (counts_child c.args.boxes.now c.args.place c.in-Some.parent c.args.counts.now.items c.requires.tree
    c.requires.there (sym c.in-Some.ensures) c.requires.counts)
