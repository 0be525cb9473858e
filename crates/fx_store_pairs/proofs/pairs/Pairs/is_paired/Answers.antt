use Rattle.std.proofs.Common.{◌≡◌, ◌==◌, ℕ, List, length, not, sym, ap, ◌∙◌}
use Rattle.std.proofs.lemmas.List.{length-map}
use Rattle.fx_base.specs.declared.keys.Name.{Name}
use Rattle.fx_store_pairs.specs.Pairs.{is_paired, pairs_of}
use Rattle.fx_store_pairs.specs.Rows.{partners}
use Rattle.fx_store_pairs.proofs.Partners.{paired_row}
use Rattle.fx_store_pairs.proofs.pairs.Pairs.is_paired.Goals as goal

pub returns : goal.returns
returns c =
    let name : ℕ = c.args.name.0 in
    let pairs : List (ℕ × ℕ) = pairs_of c.self.inside.pairs.items in
    let long : length c.row.result.now ≡ length (partners name pairs) =
    sym (length-map c.row.result.now (λ (n : Name). n.0)) ∙ ap length (c.row.ensures ∙ c.self.invariant name) in
    ap not c.is_empty.ensures
    ∙ ap (λ n. not (n == 0)) long
    ∙ paired_row name pairs
    ∙ ap (λ (ps : List (ℕ × ℕ)). is_paired ps name) c.self.view_is
