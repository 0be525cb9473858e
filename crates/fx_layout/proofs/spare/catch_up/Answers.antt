use Rattle.std.proofs.Common.{◌∙◌, sym, arith}
use Rattle.fx_layout.proofs.spare.catch_up.Goals as goal

pub catch_lengths-requires-clause-each : goal.catch_lengths-requires-clause-each
catch_lengths-requires-clause-each c =
    rw (c.as_slice.ensures.value) (c.requires.to_lengths ∙ sym c.requires.from_lengths)

pub catch_lengths-requires-clause-marks : goal.catch_lengths-requires-clause-marks
catch_lengths-requires-clause-marks c =
    rw (c.as_slice.ensures.value) (c.requires.marks ∙ sym c.requires.from_lengths)

pub catch_lengths-requires-clause-still : goal.catch_lengths-requires-clause-still
catch_lengths-requires-clause-still c =
    rw (c.as_slice.ensures.value)
    (λ p few free. c.requires.still_lengths p (omega (arith, few, c.requires.from_lengths)) free)

pub catch_spans-requires-clause-still : goal.catch_spans-requires-clause-still
catch_spans-requires-clause-still c = rw (c.as_slice-2.ensures.value) c.requires.still_spans
