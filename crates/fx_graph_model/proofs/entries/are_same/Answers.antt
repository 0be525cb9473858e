-- two tests of one fact answer the same
use Rattle.std.proofs.lemmas.Bool.Decides.{same_from_decides}
use Rattle.fx_graph_model.proofs.Same.{Decides-value}
use Rattle.fx_graph_model.proofs.entries.are_same.Goals as goal

pub returns : goal.returns
returns c = same_from_decides _ _ c.equals.ensures (Decides-value _ _)
