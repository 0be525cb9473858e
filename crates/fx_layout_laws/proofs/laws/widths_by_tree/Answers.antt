use Rattle.std.proofs.Common.{length, arith}
use Rattle.fx_layout_laws.proofs.Branches.{wide_by, wide_only}
use Rattle.fx_layout_laws.proofs.laws.widths_by_tree.Goals as goal

pub returns-clause-are : goal.returns-clause-are
returns-clause-are c = λ nodes looks window all tree layout p within.
    wide_by (record { nodes = nodes; looks = looks; window = window; all = all }) (record { tree = tree; layout = layout })
    (length nodes) p within (omega arith)

pub returns-clause-only : goal.returns-clause-only
returns-clause-only c = λ nodes looks window all tree layout p within deep widths is.
    wide_only (record { nodes = nodes; looks = looks; window = window; all = all }) (record { tree = tree; layout = layout })
    deep p within widths is
