-- the word is printed
use Rattle.std.proofs.Common.{[], Err, subst, sym}
use Rattle.fx_stage_types.specs.declared.answers.StageError.{StageError}
use Rattle.fx_play_times.specs.Passing.{IsPrinted}
use Rattle.fx_play_times.proofs.lines.print_word.Goals as goal

pub returns-in-Refused : goal.returns-in-Refused
returns-in-Refused c =
    subst (λ (error : StageError).
    IsPrinted c.args.number (Err error) c.args.trace.now c.print_refused.new.trace c.print_refused.result)
    (sym c.in-Refused.is) (λ world. c.print_refused.ensures [] world)
