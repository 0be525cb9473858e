use Rattle.fx_layout.proofs.along.lay_moved.Goals as goal

pub returns-clause-placed : goal.returns-clause-placed
returns-clause-placed g c =
    let wide = rw (c.as_slice-2.ensures.value) at c.widths_along.ensures in
    let high = rw (c.as_slice-3.ensures.value) at c.heights_along.ensures in
    rw (wide, high) at c.in_ok-place_nodes.ensures.placed
