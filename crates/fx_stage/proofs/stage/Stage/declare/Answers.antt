use Rattle.std.proofs.Common.{◌∙◌, ℕ, List, Result, ap, is_some, subst, sym}
use Rattle.std.specs.Map.{lookup}
use Rattle.std.specs.Str.{bytes_eq}
use Rattle.fx_base.specs.Printing.{kind_of}
use Rattle.fx_base.specs.declared.kinds.Kind.{Kind}
use Rattle.fx_look.specs.Readings.{value_at}
use Rattle.fx_stage_types.specs.declared.refusals.Refusal.{Refusal}
use Rattle.fx_stage_model.specs.Answers.{Taken}
use Rattle.fx_stage_model.specs.Properties.{declared, has_no_room}
use Rattle.fx_stage_model.specs.Taking.{IsTaken}
use Rattle.fx_stage_model.specs.World.{World}
use Rattle.fx_stage.proofs.DeclaringLemmas.{declare_is, memory_first}
use Rattle.fx_stage.proofs.stage.Stage.declare.Goals as goal

pub returns-in-Err : goal.returns-in-Err
returns-in-Err c = memory_first _ c.args.self.now

pub returns : goal.returns
returns c =
    let now = c.args.self.now in
    let v = c.in-Ok-Some.value in
    let is = sym c.in-Ok-Some.field-0-is ∙ c.in-Ok-Some.ensures ∙ ap (λ (k : Kind). value_at k c.args.text.now) c.kind_named.ensures in
    let free = ap (λ (w : World). is_some (lookup (bytes_eq c.args.name.now) w.names.free)) c.self.view_is in
    let room = ap has_no_room c.self.view_is in
    let made =
    declare_is c.args.name.now c.args.kind.now c.args.text.now now v is (sym free ∙ sym c.has_free.ensures ∙ c.if-has_free.false)
    (sym room ∙ sym c.has_no_room.ensures ∙ c.if-has_no_room.false) in
    subst (λ (r : Result Taken Refusal). IsTaken r now c.add_free.new.self c.add_free.result) (sym made)
    (subst (λ (n : List ℕ). IsTaken (declared n (kind_of v) v now) now c.add_free.new.self c.add_free.result) c.in-Ok.ensures c.add_free.ensures)
