-- the ledgers of the four counters
use Rattle.fx_style_tests.proofs.parts.paints_are_kept_and_looked_up.Given as goal

abbrev pub ghosts-paint : goal.ghosts-paint
ghosts-paint g a = record {
  evaluated_name = a.evaluated.name;
  styled_name = a.styled.name;
  laid_name = a.laid.name;
  painted_name = a.painted.name;
}
