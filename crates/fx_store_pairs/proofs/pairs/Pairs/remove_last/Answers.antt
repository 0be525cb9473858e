-- the rows lose the pair that the list loses
use Rattle.std.proofs.Common.{◌≡◌, ◌++◌, ◌∷◌, [], List, ap, ◌∙◌}
use Rattle.fx_base.specs.declared.keys.Name.{Name}
use Rattle.fx_store_pairs.specs.Pairs.{pairs_of}
use Rattle.fx_store_pairs.specs.Rows.{partners}
use Rattle.fx_store_pairs.proofs.Partners.{partners_push}
use Rattle.fx_store_pairs.proofs.pairs.Pairs.remove_last.Goals as goal

pub invariant_of-self : goal.invariant_of-self
invariant_of-self c = λ name.
    let left : List (Name × Name) = c.pop.new.self.items in
    let was : c.self.inside.pairs.items ≡ left ++ (c.in-Some.one, c.in-Some.other) ∷ [] =
    rw c.in-Some.is at c.pop.ensures.items in
    c.remove_last_pair.ensures name (partners name (pairs_of left))
    (c.self.invariant name
    ∙ ap (λ (pairs : List (Name × Name)). partners name (pairs_of pairs)) was
    ∙ partners_push name left c.in-Some.one c.in-Some.other)
