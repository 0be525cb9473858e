use Rattle.std.proofs.Common.{◌∙◌, Bool, None, Some, ap, cond, eqb, sym}
use Rattle.std.specs.Map.{lookup}
use Rattle.fx_stage_model.specs.World.{World}
use Rattle.fx_stage.proofs.WrittenLemmas.{lookup_written}
use Rattle.fx_stage.proofs.stage.Stage.written.Goals as goal

pub returns-then-not-is_listening : goal.returns-then-not-is_listening
returns-then-not-is_listening c =
    let s = c.self.inside in
    let n = c.args.listener in
    sym
    (ap (λ (x : World). lookup (eqb n) x.names.written) (sym c.self.view_is)
    ∙ lookup_written s.store.listeners n s.written.entries
    ∙ ap (λ (b : Bool). cond b (lookup (eqb n) s.written.entries) None)
    (sym c.is_listening.ensures ∙ c.if-not-is_listening.true))

pub returns-in-None : goal.returns-in-None
returns-in-None c =
    let s = c.self.inside in
    let n = c.args.listener in
    sym
    (ap (λ (x : World). lookup (eqb n) x.names.written) (sym c.self.view_is)
    ∙ lookup_written s.store.listeners n s.written.entries
    ∙ ap (λ (b : Bool). cond b (lookup (eqb n) s.written.entries) None)
    (sym c.is_listening.ensures ∙ c.if-not-is_listening.false)
    ∙ sym c.in-None.ensures.value)

pub returns-in-Some : goal.returns-in-Some
returns-in-Some c =
    let s = c.self.inside in
    let n = c.args.listener in
    sym
    (ap (λ (x : World). lookup (eqb n) x.names.written) (sym c.self.view_is)
    ∙ lookup_written s.store.listeners n s.written.entries
    ∙ ap (λ (b : Bool). cond b (lookup (eqb n) s.written.entries) None)
    (sym c.is_listening.ensures ∙ c.if-not-is_listening.false)
    ∙ sym c.in-Some.ensures.value
    ∙ ap Some (sym c.as_slice.ensures))
