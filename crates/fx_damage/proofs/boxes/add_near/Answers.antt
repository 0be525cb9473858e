use Rattle.std.proofs.Common.{◌≡◌, ◌∙◌, ◌++◌, ◌∷◌, [], ap, sym, false, append_assoc}
use Rattle.fx_damage.specs.Damage.{cut_to}
use Rattle.fx_damage.specs.Near.{wide}
use Rattle.fx_picture.specs.Bounds.{are_same}
use Rattle.fx_damage.proofs.BoxLemmas.{cut-append}
use Rattle.fx_damage.proofs.boxes.add_near.Goals as goal

pub returns : goal.returns
returns c =
    let w = wide c.args.window in
    let old = wide c.args.old in
    let now = wide c.args.now in
    let other : are_same old now ≡ false = sym c.same_edges.ensures ∙ c.if-same_edges.false in
    rw other (c.in_ok-add_near_cut-2.ensures
    ∙ (ap (λ l. l ++ cut_to w (now ∷ [])) c.in_ok-add_near_cut.ensures
    ∙ (append_assoc c.args.boxes.now.items (cut_to w (old ∷ [])) (cut_to w (now ∷ []))
    ∙ ap (λ l. c.args.boxes.now.items ++ l) (sym (cut-append w (old ∷ []) (now ∷ []))))))
