use Rattle.std.proofs.Common.{sym, ap, subst, false, ◌∙◌, ◌+◌, slice_index_or, length}
use Rattle.std.specs.List.{AllZip}
use Rattle.fx_pulse_model.specs.Pictures.{IsEntry, shows}
use Rattle.fx_pulse.specs.Drawing.{drawn, shown_below}
use Rattle.fx_pulse.proofs.EntryLemmas.{entries_more, entries_skip}
use Rattle.fx_pulse_touched.proofs.ToldLemmas.{told_at}
use Rattle.fx_pulse.proofs.entries.add_shown.Goals as goal

pub returns-then-not-flag_at : goal.returns-then-not-flag_at
returns-then-not-flag_at c =
    let d = drawn c.args.laid in
    let k = c.args.place in
    entries_skip d k c.args.entries.now.items
    (sym (told_at (shows d) (length d.boxes) k false c.requires.there)
    ∙ (ap (λ l. slice_index_or l k false) (sym c.requires.shown) ∙ (sym c.flag_at.ensures ∙ c.if-not-flag_at.true)))
    c.requires.before

pub returns : goal.returns
returns c =
    let d = drawn c.args.laid in
    let k = c.args.place in
    subst (λ es. AllZip (IsEntry d) (shown_below d (k + 1)) es) (sym c.in_ok-push.ensures.items)
    (entries_more d k c.args.entries.now.items c.fill.new.entry
    (sym (told_at (shows d) (length d.boxes) k false c.requires.there)
    ∙ (ap (λ l. slice_index_or l k false) (sym c.requires.shown) ∙ (sym c.flag_at.ensures ∙ c.if-not-flag_at.false)))
    c.requires.before c.in_ok-fill.ensures)
