use Rattle.fx_layout_laws.proofs.Branches.{rects_by}
use Rattle.fx_layout_laws.proofs.laws.rects_by_tree.Goals as goal

pub returns : goal.returns
returns c = λ nodes looks window all some tree layout.
    rects_by (record { nodes = nodes; looks = looks; window = window; all = all }) (record { tree = tree; layout = layout }) some
