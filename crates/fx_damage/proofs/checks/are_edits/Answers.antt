use Rattle.std.proofs.Common.{ap, length}
use Rattle.fx_damage.proofs.CheckLemmas.{edits_test, no_edits}
use Rattle.fx_damage.proofs.checks.are_edits.Goals as goal

pub returns-then-do_rise : goal.returns-then-do_rise
returns-then-do_rise c =
    edits_test c.args.edits.now _ _ _ _ c.do_rise.ensures c.if-do_rise.true c.are_below.ensures (ap length c.as_slice.ensures)

pub returns-else-do_rise : goal.returns-else-do_rise
returns-else-do_rise c = no_edits c.args.edits.now _ _ c.do_rise.ensures c.if-do_rise.false
