use Rattle.std.proofs.Common.{sym, ◌∙◌}
use Rattle.fx_pulse_touched.proofs.NoneLemmas.{places_none}
use Rattle.fx_pulse_touched.proofs.marks.marked_places.Goals as goal

pub returns-then-not-is_any : goal.returns-then-not-is_any
returns-then-not-is_any c =
    c.new.ensures.items ∙ sym (places_none c.args.marks.now (sym c.is_any.ensures ∙ c.if-not-is_any.true))
