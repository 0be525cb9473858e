use Rattle.fx_doc_runs.proofs.signs.+reference_ahead.Given as goal

abbrev pub decreases-reference_ahead : goal.decreases-reference_ahead
decreases-reference_ahead l = l.most
