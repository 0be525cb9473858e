-- the ledgers of the four counters
use Rattle.fx_graph_tests.proofs.bindings.follows_what_it_reads.Given as goal

abbrev pub ghosts-follow : goal.ghosts-follow
ghosts-follow g a = record {
  evaluated_name = a.evaluated.name;
  styled_name = a.styled.name;
  laid_name = a.laid.name;
  painted_name = a.painted.name;
}
