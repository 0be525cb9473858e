use Rattle.std.proofs.Common.{refl, ◌≡◌, ◌∙◌, List, [], ◌∷◌, None, Some, cond, is_some, Ok, Err, ap, sym, subst}
use Rattle.std.specs.FinMap.{from_entries, insert}
use Rattle.std.specs.Map.{lookup, set_value}
use Rattle.std.proofs.lemmas.Map.Steps.{set_value_same}
use Rattle.std.proofs.lemmas.Result.{err_from_is_err_and, on_ok_weaker, on_err_weaker}
use Rattle.fx_base.specs.Answers.{IsAnswer}
use Rattle.fx_base.specs.declared.keys.NodeKey.{NodeKey}
use Rattle.fx_events.specs.declared.EventError.TheVariants.{Memory}
use Rattle.fx_events.specs.declared.registrations.Registration.{Registration}
use Rattle.fx_events.specs.Handlers.{AreLimited, HandlerMap, add_refusal, registrations_of, with_registration}
use Rattle.fx_events.specs.Keyed.{key_cmp}
use Rattle.fx_events.proofs.Limits.{limited_after}
use Rattle.fx_events.proofs.Maps.{same_key, admitted, first_alone, inserted, listed, wanting}
use Rattle.fx_events.proofs.Handlers.add.Goals as goal

there : (c : goal.After-self-in-Some-1) → registrations_of c.args.self.now c.args.key ≡ c.in-Some.node.now
there c =
    listed c.self.inside.nodes.entries c.args.self.now c.self.view_is c.args.key c.args.key refl
    (Some c.in-Some.node.now) c.in-Some.ensures.value

pub returns-in-Some-clause-added : goal.returns-in-Some-clause-added
returns-in-Some-clause-added c =
    let entries = c.self.inside.nodes.entries in
    let key = c.args.key in
    let new : Registration = record { on = c.args.on; phase = c.args.phase; action = c.args.action } in
    let w = c.add.new.self in
    let changed = (c.get_mut.follows.holds w).3 (sym (ap is_some c.in-Some.ensures.value)) in
    let put : from_entries {R = key_cmp} (c.get_mut.follows.lender w).entries ≡ insert c.args.self.now key w =
    inserted entries (c.get_mut.follows.lender w).entries key w
    (λ q. changed.0 q ∙ ap (λ (k : NodeKey). cond (same_key k q) (Some w) (lookup (same_key q) entries)) refl)
    ∙ ap (λ (m : HandlerMap). insert m key w) c.self.view_is in
    on_ok_weaker {P = w ≡ with_registration new c.in-Some.node.now} c.add.result
    (λ is. put ∙ ap (insert c.args.self.now key) (is ∙ ap (with_registration new) (sym (there c))))
    c.add.ensures.added

pub returns-in-Some-clause-answer : goal.returns-in-Some-clause-answer
returns-in-Some-clause-answer c =
    let new : Registration = record { on = c.args.on; phase = c.args.phase; action = c.args.action } in
    subst (λ (l : List Registration). IsAnswer Memory (add_refusal new l) c.add.result) (sym (there c)) c.add.ensures.answer

pub returns-in-Some-clause-err : goal.returns-in-Some-clause-err
returns-in-Some-clause-err c =
    let entries = c.self.inside.nodes.entries in
    let node = c.in-Some.node.now in
    let w = c.add.new.self in
    on_err_weaker {P = w ≡ node} c.add.result
    (λ is.
    ap (from_entries {R = key_cmp})
    ((c.get_mut.follows.holds w).0
    ∙ ap (set_value (same_key c.args.key) entries) is
    ∙ set_value_same (same_key c.args.key) entries node (sym c.in-Some.ensures.value))
    ∙ c.self.view_is)
    c.add.ensures.err

-- what was limited is so behind the call, whatever it answers
pub invariant_of-self : goal.invariant_of-self
invariant_of-self c =
    limited_after c.args.self.now (from_entries {R = key_cmp} (c.get_mut.follows.lender c.add.new.self).entries) c.args.key
    (record { on = c.args.on; phase = c.args.phase; action = c.args.action }) c.add.result
    (subst AreLimited c.self.view_is c.self.invariant)
    (returns-in-Some-clause-answer c) (returns-in-Some-clause-added c) (returns-in-Some-clause-err c)

pub returns-in_err-node-clause-answer : goal.returns-in_err-node-clause-answer
returns-in_err-node-clause-answer c =
    let new : Registration = record { on = c.args.on; phase = c.args.phase; action = c.args.action } in
    let none = listed c.self.inside.nodes.entries c.args.self.now c.self.view_is c.args.key c.args.key refl None c.in_default.ensures.value in
    let p = err_from_is_err_and c.from_residual.result c.from_residual.ensures.1 in
    wanting new (registrations_of c.args.self.now c.args.key) none c.from_residual.result (p.1 ∙ ap Err p.2)

pub returns-in_err-insert-clause-answer : goal.returns-in_err-insert-clause-answer
returns-in_err-insert-clause-answer c =
    let new : Registration = record { on = c.args.on; phase = c.args.phase; action = c.args.action } in
    let none = listed c.self.inside.nodes.entries c.args.self.now c.self.view_is c.args.key c.args.key refl None c.in_default.ensures.value in
    let p = err_from_is_err_and c.from_residual-in_err-insert.result c.from_residual-in_err-insert.ensures.1 in
    wanting new (registrations_of c.args.self.now c.args.key) none c.from_residual-in_err-insert.result (p.1 ∙ ap Err p.2)

pub returns-clause-added : goal.returns-clause-added
returns-clause-added c =
    let entries = c.self.inside.nodes.entries in
    let key = c.args.key in
    let new : Registration = record { on = c.args.on; phase = c.args.phase; action = c.args.action } in
    let none = listed entries c.args.self.now c.self.view_is c.args.key key refl None c.in_default.ensures.value in
    let alone : List Registration = new ∷ [] in
    inserted entries c.insert.new.self.entries key alone
    (λ q.
    c.in_ok-insert.ensures.updates.0 q
    ∙ (λ i.
    cond (same_key key q) (Some (c.in_ok-node.ensures i))
    (lookup (same_key q) (c.get_mut.follows.holds-at-none i).entries)))
    ∙ ap (λ (m : HandlerMap). insert m key alone) c.self.view_is
    ∙ ap (insert c.args.self.now key) (sym (ap (with_registration new) none ∙ first_alone new))

pub returns-clause-answer : goal.returns-clause-answer
returns-clause-answer c =
    let new : Registration = record { on = c.args.on; phase = c.args.phase; action = c.args.action } in
    let none = listed c.self.inside.nodes.entries c.args.self.now c.self.view_is c.args.key c.args.key refl None c.in_default.ensures.value in
    admitted new (registrations_of c.args.self.now c.args.key) none

pub invariant_of-self-2 : goal.invariant_of-self-2
invariant_of-self-2 c =
    limited_after c.args.self.now (from_entries {R = key_cmp} c.insert.new.self.entries) c.args.key
    (record { on = c.args.on; phase = c.args.phase; action = c.args.action }) (Ok tt)
    (subst AreLimited c.self.view_is c.self.invariant)
    (returns-clause-answer c) (returns-clause-added c) tt
