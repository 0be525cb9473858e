-- the ledgers of the four counters
use Rattle.fx_play_tests.proofs.explains.a_button_has_its_padding_from_the_agent.Given as goal

abbrev pub ghosts-tells_of_a_button : goal.ghosts-tells_of_a_button
ghosts-tells_of_a_button g a = record {
  evaluated_name = a.evaluated.name;
  styled_name = a.styled.name;
  laid_name = a.laid.name;
  painted_name = a.painted.name;
}
