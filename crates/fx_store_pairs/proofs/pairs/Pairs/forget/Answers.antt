-- the rows lose what the list loses
use Rattle.std.proofs.Common.{◌≡◌, ◌==◌, ℕ, true, false, length, List, [], cond, filter, not, sym, ap, ◌∙◌}
use Rattle.fx_base.specs.Names.{numbers}
use Rattle.fx_store_pairs.specs.Pairs.{is_among, is_paired, is_touched, pairs_of}
use Rattle.fx_store_pairs.specs.Rows.{partners, row}
use Rattle.fx_store_pairs.specs.declared.rows.Rows.{Rows}
use Rattle.fx_store_pairs.proofs.Partners.{none_touched, paired_row, partners_untouched}
use Rattle.fx_store_pairs.proofs.RowSteps.{of_among}
use Rattle.fx_store_pairs.proofs.pairs.Pairs.forget.Goals as goal

pub invariant_of-self : goal.invariant_of-self
invariant_of-self c = λ name.
    let gone : List ℕ = c.new-names.result in
    c.forget.ensures name
    ∙ ap (λ (row : List ℕ). cond (is_among gone name) [] (filter (λ partner. not (is_among gone partner)) row))
    (c.self.invariant name)
    ∙ sym (partners_untouched gone name (pairs_of c.self.inside.pairs.items))
    ∙ ap (partners name) (sym c.drop_touched.ensures)

pub returns-then-not-has_one_of : goal.returns-then-not-has_one_of
returns-then-not-has_one_of c =
    let gone : List ℕ = numbers c.args.names.now in
    let pairs : List (ℕ × ℕ) = pairs_of c.self.inside.pairs.items in
    let rows : Rows = c.self.inside.rows in
    let none : (name : ℕ) → is_among gone name ≡ true → row rows name ≡ [] =
    of_among (λ name. row rows name ≡ []) c.args.names.now (rw c.if-not-has_one_of.true at c.has_one_of.ensures) in
    let apart : (name : ℕ) → is_among gone name ≡ true → is_paired pairs name ≡ false =
    λ name there.
    sym (paired_row name pairs)
    ∙ ap (λ (others : List ℕ). not (length others == 0)) (sym (c.self.invariant name) ∙ none name there) in
    sym c.self.view_is
    ∙ sym (none_touched gone pairs apart)
    ∙ ap (filter (λ (pair : ℕ × ℕ). not (is_touched gone pair))) c.self.view_is
