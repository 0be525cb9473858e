use Rattle.std.proofs.Common.{◌≡◌, ℕ, List, IfOk, map, subst, ap, ◌∙◌}
use Rattle.fx_base.specs.declared.keys.Name.{Name}
use Rattle.fx_store.specs.Watching.{told_as}
use Rattle.fx_store.proofs.WatchLemmas.{heard_living}
use Rattle.fx_store.proofs.watching.change_listeners.Goals as goal

pub returns : goal.returns
returns c =
    subst (λ (l : List (Name × ℕ)). IfOk c.as_told.result (λ heard. heard.items ≡ l))
    (ap (map told_as) (c.as_slice.ensures.value ∙ c.in_ok-living.ensures)
    ∙ heard_living c.args.owners.now.living c.args.listeners.now.entries)
    c.as_told.ensures
