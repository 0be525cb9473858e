use Rattle.fx_layout_sweeps.proofs.measuring.heights_of.Goals as goal

pub returns-in-Some-clause-lengths : goal.returns-in-Some-clause-lengths
returns-in-Some-clause-lengths g c = c.in-Some.ensures _ _
