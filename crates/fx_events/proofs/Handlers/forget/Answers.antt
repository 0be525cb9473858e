use Rattle.std.proofs.Common.{refl, ◌≡◌, ◌∙◌, None, ap, cond, subst, sym}
use Rattle.std.specs.FinMap.{from_entries, remove}
use Rattle.std.specs.Map.{lookup}
use Rattle.fx_base.specs.declared.keys.NodeKey.{NodeKey}
use Rattle.fx_events.specs.Handlers.{AreLimited, HandlerMap, after_forget}
use Rattle.fx_events.specs.Keyed.{key_cmp}
use Rattle.fx_events.proofs.Limits.{limited_forgotten}
use Rattle.fx_events.proofs.Maps.{same_key, removed}
use Rattle.fx_events.proofs.Handlers.forget.Goals as goal
use Rattle.fx_events.proofs.Handlers.forget.Goals.{Joined-swap_remove}

gone : (c : Joined-swap_remove)
    → from_entries {R = key_cmp} c.swap_remove.new.self.entries ≡ remove (from_entries {R = key_cmp} c.self.inside.nodes.entries) c.args.key
gone c =
    let old = c.self.inside.nodes.entries in
    removed old c.swap_remove.new.self.entries c.args.key
    (λ q. c.swap_remove.ensures.updates.0 q ∙ ap (λ (k : NodeKey). cond (same_key k q) None (lookup (same_key q) old)) refl)

pub invariant_of-self : goal.invariant_of-self
invariant_of-self c =
    subst AreLimited (sym (gone c)) (limited_forgotten (from_entries {R = key_cmp} c.self.inside.nodes.entries) c.args.key c.self.invariant)

pub returns : goal.returns
returns c = gone c ∙ ap (λ (m : HandlerMap). after_forget m c.args.key) c.self.view_is
