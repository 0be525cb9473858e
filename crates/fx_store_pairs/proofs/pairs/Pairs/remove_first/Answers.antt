-- the row of the one tells whether there is a pair of the two; the first one goes from the list and from both rows
use Rattle.std.proofs.Common.{◌≡◌, ℕ, false, List, sym, ap, ◌∙◌}
use Rattle.std.specs.List.{list_any}
use Rattle.fx_store_pairs.specs.Pairs.{is_among, is_pair, pairs_of, without_pair}
use Rattle.fx_store_pairs.specs.Rows.{partners, without_partner}
use Rattle.fx_store_pairs.proofs.Partners.{no_pair, pair_among, partners_without}
use Rattle.fx_store_pairs.proofs.pairs.Pairs.remove_first.Goals as goal

pub invariant_of-self : goal.invariant_of-self
invariant_of-self c = λ name.
    c.remove_first_pair.ensures name
    ∙ ap (without_partner c.args.one.0 c.args.other.0 name) (c.self.invariant name)
    ∙ sym (partners_without c.args.one.0 c.args.other.0 name (pairs_of c.self.inside.pairs.items))
    ∙ ap (partners name) (sym c.remove_first.ensures)

pub returns-else-has : goal.returns-else-has
returns-else-has c =
    let pairs : List (ℕ × ℕ) = pairs_of c.self.inside.pairs.items in
    let none : list_any (is_pair c.args.one.0 c.args.other.0) pairs ≡ false =
    sym (pair_among c.args.one.0 c.args.other.0 pairs)
    ∙ ap (λ (row : List ℕ). is_among row c.args.other.0) (sym (c.self.invariant c.args.one.0))
    ∙ sym c.has.ensures
    ∙ c.if-has.false in
    sym c.self.view_is ∙ sym (no_pair c.args.one.0 c.args.other.0 pairs none)
    ∙ ap (without_pair c.args.one.0 c.args.other.0) c.self.view_is
