use Rattle.std.proofs.Common.{◌≡◌, ◌∙◌, ◌++◌, ◌∷◌, ◌-◌, ℕ, [], rules, ap, sym, take, length, arith, length-append}
use Rattle.std.proofs.lemmas.Fn.{filter_same}
use Rattle.std.proofs.Math.Seq.{take-append_seam}
use Rattle.fx_tree.specs.Scene.{is_once, without}
use Rattle.fx_tree.proofs.Keys.{without-last}
use Rattle.fx_tree.proofs.nodes.Children.remove.Goals as goal

pub returns-then-ends_with : goal.returns-then-ends_with
returns-then-ends_with c =
    let child = c.args.child in
    let parts = c.ends_with.ensures c.if-ends_with.true in
    let front = parts.0 in
    let keys = c.self.inside.keys in
    let whole : keys.items ≡ front ++ child ∷ [] = c.self.view_is ∙ parts.1 in
    let e : length keys.items ≡ length (front ++ child ∷ []) = ap length whole in
    let n : keys.len - 1 ≡ length front = omega (arith, keys.ok, e, length-append front (child ∷ [])) in
    c.pop.ensures.rest
    ∙ ap (λ (m : ℕ). take m keys.items) n
    ∙ ap (take (length front)) whole
    ∙ take-append_seam front (child ∷ [])
    ∙ sym (without-last front child (sym (ap is_once parts.1) ∙ c.requires))
    ∙ sym (ap (without child) parts.1)

pub returns : goal.returns
returns c = rw (← c.self.view_is) (filter_same _ _ _ (λ x b f' k. search rules) _ _ c.retain.ensures.filtered)
