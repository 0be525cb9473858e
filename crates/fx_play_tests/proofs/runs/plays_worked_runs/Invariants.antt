-- the ledgers of the four counters
use Rattle.fx_play_tests.proofs.runs.plays_worked_runs.Given as goal

abbrev pub ghosts-played : goal.ghosts-played
ghosts-played g a = record {
  evaluated_name = a.evaluated.name;
  styled_name = a.styled.name;
  laid_name = a.laid.name;
  painted_name = a.painted.name;
}
