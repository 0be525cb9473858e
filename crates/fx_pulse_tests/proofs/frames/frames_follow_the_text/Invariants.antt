-- the ledgers of the four counters
use Rattle.fx_pulse_tests.proofs.frames.frames_follow_the_text.Given as goal

abbrev pub ghosts-frames : goal.ghosts-frames
ghosts-frames g a = record {
  evaluated_name = a.evaluated.name;
  styled_name = a.styled.name;
  laid_name = a.laid.name;
  painted_name = a.painted.name;
}
