use Rattle.std.proofs.Common.{◌≡◌, map, take}
use Rattle.fx_explain.specs.Explained.{loser_of}
use Rattle.fx_explain.proofs.explained.losers_of.Given as goal

abbrev pub invariant-loop-source : goal.invariant-loop-source
invariant-loop-source l = l.losers.items ≡ map (loser_of l.matched l.winner) (take l.source-index l.sources)
