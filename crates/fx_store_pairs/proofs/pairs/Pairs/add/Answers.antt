-- the rows have the pair behind the others, as the list has
use Rattle.std.proofs.Common.{◌++◌, ◌∷◌, [], ℕ, List, sym, ap, ◌∙◌}
use Rattle.fx_base.specs.declared.keys.Name.{Name}
use Rattle.fx_store_pairs.specs.Pairs.{pairs_of}
use Rattle.fx_store_pairs.specs.Rows.{partners}
use Rattle.fx_store_pairs.proofs.Partners.{partners_push}
use Rattle.fx_store_pairs.proofs.pairs.Pairs.add.Goals as goal

pub invariant_of-self-in-Ok : goal.invariant_of-self-in-Ok
invariant_of-self-in-Ok c = λ name.
    let one : Name = c.args.one in
    let other : Name = c.args.other in
    c.in-Ok.ensures.ok name
    ∙ ap (λ (others : List ℕ). others ++ partners name ((one.0, other.0) ∷ [])) (c.self.invariant name)
    ∙ sym (partners_push name c.self.inside.pairs.items one other)
    ∙ ap (λ (pairs : List (Name × Name)). partners name (pairs_of pairs)) (sym c.in_ok-push.ensures.items)
