use Rattle.std.proofs.Common.{length, sym, ◌∙◌}
use Rattle.fx_pulse.specs.Drawing.{drawn}
use Rattle.fx_pulse.proofs.FlagLemmas.{all_shown}
use Rattle.fx_pulse.proofs.flags.shown_flags.Goals as goal

pub returns-then-are_visible : goal.returns-then-are_visible
returns-then-are_visible c =
    c.in_ok-flags.ensures
    ∙ sym (all_shown (drawn c.args.laid) (length c.args.laid.boxes.now)
    (c.are_visible.ensures c.if-are_visible.true))
