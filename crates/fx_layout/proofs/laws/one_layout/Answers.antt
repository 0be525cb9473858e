use Rattle.fx_layout.proofs.One.{one_layout}
use Rattle.fx_layout.proofs.laws.one_layout.Goals as goal

pub returns : goal.returns
returns c = λ nodes looks window one other tree first second.
    one_layout (record { nodes = nodes; looks = looks; window = window; one = one; other = other })
    (record { tree = tree; first = first; second = second })
