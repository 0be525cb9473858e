use Rattle.std.proofs.Common.{◌≡◌, ◌∙◌, List, false, ap, subst, sym}
use Rattle.fx_base.specs.declared.kinds.Kind.{Kind}
use Rattle.fx_graph_model.specs.declared.entries.Entry.{Entry}
use Rattle.fx_graph_model.specs.Refusals.{read_only_in}
use Rattle.fx_graph_model.specs.Uses.{unknown_in}
use Rattle.fx_look.specs.Readings.{value_at}
use Rattle.fx_stage_model.specs.Looking.{find}
use Rattle.fx_stage_model.specs.World.{World}
use Rattle.fx_stage.specs.Kept.{seen}
use Rattle.fx_stage.proofs.FoundLemmas.{found_known}
use Rattle.fx_stage.proofs.ValueLemmas.{set_few, set_none, set_some}
use Rattle.fx_stage.proofs.stage.Stage.set.Goals as goal

pub returns-in-Ok-None-clause-taken : goal.returns-in-Ok-None-clause-taken
returns-in-Ok-None-clause-taken g c =
    let s = c.self.inside in
    let w : World = seen s.store s.graph s.free.entries s.labels.entries s.actions.entries s.run.items s.written.entries s.pointer s.button s.window in
    let path = c.args.path.now in
    let name = c.in-Ok.name in
    let here : find c.args.self.now path ≡ _ = sym c.find_property.ensures ∙ c.in-Ok.is in
    let entries : w.store.entries ≡ c.args.self.now.store.entries = ap (λ (x : World). x.store.entries) c.self.view_is in
    let free = subst (λ (es : List Entry). read_only_in es name.0 ≡ false) entries (sym c.is_read_only.ensures ∙ c.if-is_read_only.false) in
    let known = subst (λ (es : List Entry). unknown_in es name.0 ≡ false) entries
    (found_known w c.self.invariant.sound name path (ap (λ (x : World). find x path) c.self.view_is ∙ here)) in
    set_none path c.args.text.now c.args.self.now name here free
    (sym c.in-Ok-None.field-0-is ∙ c.in-Ok-None.ensures ∙ ap (λ (k : Kind). value_at k c.args.text.now) (c.kind_of.ensures known))

pub returns-clause-taken : goal.returns-clause-taken
returns-clause-taken g c =
    let s = c.self.inside in
    let w : World = seen s.store s.graph s.free.entries s.labels.entries s.actions.entries s.run.items s.written.entries s.pointer s.button s.window in
    let path = c.args.path.now in
    let name = c.in-Ok.name in
    let here : find c.args.self.now path ≡ _ = sym c.find_property.ensures ∙ c.in-Ok.is in
    let entries : w.store.entries ≡ c.args.self.now.store.entries = ap (λ (x : World). x.store.entries) c.self.view_is in
    let free = subst (λ (es : List Entry). read_only_in es name.0 ≡ false) entries (sym c.is_read_only.ensures ∙ c.if-is_read_only.false) in
    let known = subst (λ (es : List Entry). unknown_in es name.0 ≡ false) entries
    (found_known w c.self.invariant.sound name path (ap (λ (x : World). find x path) c.self.view_is ∙ here)) in
    set_some path c.args.text.now c.args.self.now name here free c.in-Ok-Some.value c.change_store.new.self c.change_store.result
    (sym c.in-Ok-Some.field-0-is ∙ c.in-Ok-Some.ensures ∙ ap (λ (k : Kind). value_at k c.args.text.now) (c.kind_of.ensures known))
    c.change_store.ensures.taken

pub returns-clause-few : goal.returns-clause-few
returns-clause-few g c =
    let s = c.self.inside in
    let w : World = seen s.store s.graph s.free.entries s.labels.entries s.actions.entries s.run.items s.written.entries s.pointer s.button s.window in
    let path = c.args.path.now in
    let name = c.in-Ok.name in
    let here : find c.args.self.now path ≡ _ = sym c.find_property.ensures ∙ c.in-Ok.is in
    let entries : w.store.entries ≡ c.args.self.now.store.entries = ap (λ (x : World). x.store.entries) c.self.view_is in
    let free = subst (λ (es : List Entry). read_only_in es name.0 ≡ false) entries (sym c.is_read_only.ensures ∙ c.if-is_read_only.false) in
    let known = subst (λ (es : List Entry). unknown_in es name.0 ≡ false) entries
    (found_known w c.self.invariant.sound name path (ap (λ (x : World). find x path) c.self.view_is ∙ here)) in
    set_few path c.args.text.now c.args.self.now name here free c.in-Ok-Some.value c.args.work.now.evaluated
    c.change_store.new.work.evaluated
    (sym c.in-Ok-Some.field-0-is ∙ c.in-Ok-Some.ensures ∙ ap (λ (k : Kind). value_at k c.args.text.now) (c.kind_of.ensures known))
    c.change_store.ensures.few
