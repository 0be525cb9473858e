-- The names of the four ledgers are those of the pages that they are opened on.
use Rattle.reader_cases.proofs.main.Given as goal

abbrev pub ghosts-play : goal.ghosts-play
ghosts-play a = record {
  evaluated_name = a.evaluated.name;
  styled_name = a.styled.name;
  laid_name = a.laid.name;
  painted_name = a.painted.name;
}
