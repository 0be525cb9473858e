-- the ledgers of the four counters
use Rattle.fx_graph_tests.proofs.forgetting.unbind_keeps_the_value.Given as goal

abbrev pub ghosts-unbind_both : goal.ghosts-unbind_both
ghosts-unbind_both g a = record {
  evaluated_name = a.evaluated.name;
  styled_name = a.styled.name;
  laid_name = a.laid.name;
  painted_name = a.painted.name;
}
