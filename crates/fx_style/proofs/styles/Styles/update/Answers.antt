use Rattle.std.proofs.Common.{◌≡◌, ◌+◌, length, subst}
use Rattle.std.specs.Prelude.{OnErr, OnOk}
use Rattle.fx_style.specs.Kept.{Kept}
use Rattle.fx_style.specs.Rules.{IsUpdate, KeepsOthers, kept_of, needs, worked}
use Rattle.fx_style.proofs.styles.Styles.update.Goals as goal

pub returns-clause-styles : goal.returns-clause-styles
returns-clause-styles g c =
    subst (λ (k : Kept). OnOk c.update_in.result (IsUpdate c.args.scene.sheets.now c.args.scene.facts.now
    c.args.restyle.now k c.update_in.new.self)) c.take_memory-memory.ensures c.update_in.ensures.styles

pub returns-clause-changed : goal.returns-clause-changed
returns-clause-changed g c =
    subst (λ (k : Kept). OnOk c.update_in.result (KeepsOthers k c.update_in.new.self)) c.take_memory-memory.ensures
    c.update_in.ensures.changed

pub returns-clause-err : goal.returns-clause-err
returns-clause-err g c =
    subst (λ (k : Kept). OnErr c.update_in.result (c.update_in.new.self ≡ k)) c.take_memory-memory.ensures
    c.update_in.ensures.err

pub returns-clause-cost : goal.returns-clause-cost
returns-clause-cost g c =
    let facts = c.args.scene.facts.now in
    subst (λ (k : Kept). OnOk c.update_in.result (c.update_in.new.work ≡ record c.args.work.now {
      styled = c.args.work.now.styled + worked (needs c.args.restyle.now (kept_of k facts)) (length facts);
    })) c.take_memory-memory.ensures c.update_in.ensures.cost
