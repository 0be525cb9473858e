use Rattle.fx_pulse_kept.proofs.MeasuringLemmas.{measured}
use Rattle.fx_pulse_kept.proofs.measuring.measured_marks.Goals as goal

pub returns : goal.returns
returns c =
    measured c.args.boxes.now c.args.touched.items c.args.restyled.now c.args.changed.now c.mark_again.new.marks.items
    c.marked_above.result.items c.requires.each c.mark_again.ensures.marked c.marked_above.ensures.each
    c.marked_above.ensures.kept c.marked_above.ensures.closed c.marked_above.ensures.only
