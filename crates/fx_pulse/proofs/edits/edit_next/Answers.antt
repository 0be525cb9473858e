-- a node that shows keeps its entry, or has it made anew
use Rattle.std.proofs.Common.{◌∙◌, ◌+◌, ap, false, refl, subst, sym, true}
use Rattle.fx_picture.specs.declared.entries.Entry.{Entry}
use Rattle.fx_pulse.specs.Drawing.{drawn}
use Rattle.fx_pulse.specs.Editing.{IsEditedUpTo}
use Rattle.fx_pulse.proofs.EditLemmas.{disabled_at, edit_added, edit_skip, edit_stays, old_at, old_path, shown_at}
use Rattle.fx_pulse.proofs.edits.edit_next.Goals as goal

pub returns-then-not-flag_at : goal.returns-then-not-flag_at
returns-then-not-flag_at c =
    let d = drawn c.args.laid in
    let k = c.args.place in
    edit_skip d c.args.last.entries.now k c.args.editing.now.edits c.args.editing.now.count
    (shown_at d c.args.notes.shown.now k false c.requires.there c.requires.shown
    (sym c.flag_at.ensures ∙ c.if-not-flag_at.true))
    c.requires.before

pub entry_at-old-requires : goal.entry_at-old-requires
entry_at-old-requires c =
    let d = drawn c.args.laid in
    let k = c.args.place in
    (old_at d c.args.last.marks.now c.args.last.entries.now k c.args.editing.now.edits c.args.editing.now.count
    c.requires.there
    (shown_at d c.args.notes.shown.now k true c.requires.there c.requires.shown
    (sym c.flag_at.ensures ∙ c.if-not-flag_at.false))
    c.requires.last c.requires.before).within

pub behind-editing-requires : goal.behind-editing-requires
behind-editing-requires c =
    let d = drawn c.args.laid in
    let k = c.args.place in
    (old_at d c.args.last.marks.now c.args.last.entries.now k c.args.editing.now.edits c.args.editing.now.count
    c.requires.there
    (shown_at d c.args.notes.shown.now k true c.requires.there c.requires.shown
    (sym c.flag_at.ensures ∙ c.if-not-flag_at.false))
    c.requires.last c.requires.before).within

pub returns-then-stays : goal.returns-then-stays
returns-then-stays c =
    let d = drawn c.args.laid in
    let k = c.args.place in
    let olds = c.args.last.entries.now in
    let marks = c.args.last.marks.now in
    let es = c.args.editing.now.edits in
    let count = c.args.editing.now.count in
    let old = c.entry_at-old.result.now in
    let shown =
    shown_at d c.args.notes.shown.now k true c.requires.there c.requires.shown
    (sym c.flag_at.ensures ∙ c.if-not-flag_at.false) in
    subst (IsEditedUpTo d olds (k + 1) es) (sym c.behind-editing.ensures)
    (edit_stays d marks olds k es count old c.requires.there shown
    (old_at d marks olds k es count c.requires.there shown c.requires.last c.requires.before) c.requires.before
    (c.entry_at-old.ensures old) (c.if-stays.ensures.marks refl) (c.if-stays.ensures.rect refl)
    (disabled_at d c.args.notes.disabled.now k old.disabled c.requires.there c.requires.disabled
    (c.if-stays.ensures.disabled refl)))

pub add-requires-clause-path : goal.add-requires-clause-path
add-requires-clause-path c =
    let d = drawn c.args.laid in
    let k = c.args.place in
    let olds = c.args.last.entries.now in
    let marks = c.args.last.marks.now in
    let es = c.args.editing.now.edits in
    let count = c.args.editing.now.count in
    let old = c.entry_at-old.result.now in
    let shown =
    shown_at d c.args.notes.shown.now k true c.requires.there c.requires.shown
    (sym c.flag_at.ensures ∙ c.if-not-flag_at.false) in
    c.as_slice-path.ensures
    ∙ (ap (λ (e : Entry). e.path) (c.entry_at-old.ensures old)
    ∙ old_path d marks olds k count old
    (old_at d marks olds k es count c.requires.there shown c.requires.last c.requires.before))

pub returns : goal.returns
returns c =
    let d = drawn c.args.laid in
    let k = c.args.place in
    let olds = c.args.last.entries.now in
    let marks = c.args.last.marks.now in
    let es = c.args.editing.now.edits in
    let count = c.args.editing.now.count in
    let shown =
    shown_at d c.args.notes.shown.now k true c.requires.there c.requires.shown
    (sym c.flag_at.ensures ∙ c.if-not-flag_at.false) in
    subst (IsEditedUpTo d olds (k + 1) c.add.new.self) (sym c.behind-editing.ensures)
    (edit_added d olds k es count c.add.new.self c.requires.there shown c.requires.before
    (old_at d marks olds k es count c.requires.there shown c.requires.last c.requires.before).within
    c.in_ok-add.ensures)
