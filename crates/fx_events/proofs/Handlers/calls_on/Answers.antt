use Rattle.std.proofs.Common.{refl, ◌≡◌, ◌∙◌, List, None, Some, IfOk, ap, sym, subst}
use Rattle.fx_events.specs.declared.registrations.Registration.{Registration}
use Rattle.fx_events.specs.Handlers.{calls_at}
use Rattle.fx_events.proofs.Maps.{listed, no_calls}
use Rattle.fx_events.proofs.Handlers.calls_on.Goals as goal

pub returns-in-None : goal.returns-in-None
returns-in-None c =
    let entries = c.self.inside.nodes.entries in
    let none = listed entries c.args.self.now c.self.view_is c.args.key c.args.key refl None c.in-None.ensures.value in
    c.new.ensures.items ∙ sym (ap (λ (l : List Registration). calls_at l c.args.on c.args.phase) none ∙ no_calls c.args.on c.args.phase)

pub returns-in-Some : goal.returns-in-Some
returns-in-Some c =
    let entries = c.self.inside.nodes.entries in
    let there = listed entries c.args.self.now c.self.view_is c.args.key c.args.key refl (Some c.in-Some.node.now) c.in-Some.ensures.value in
    subst (λ (l : List Registration). IfOk c.calls.result (λ calls. calls.items ≡ calls_at l c.args.on c.args.phase)) (sym there) c.calls.ensures
