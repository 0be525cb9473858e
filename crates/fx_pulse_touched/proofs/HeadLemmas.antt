-- Nodes of two lists with the same keys and parents.
use Rattle.std.proofs.Common.{sym, ap, ◌∙◌, ◌≡◌, ℕ, ◌<◌, List, get_or, length, map}
use Rattle.std.proofs.lemmas.List.{get_or-map}
use Rattle.fx_kinds.specs.declared.facts.BoxFacts.{BoxFacts}
use Rattle.fx_layout_sweeps.specs.Nodes.{keys, parents}

pub same_told : {A B C : Type 0} (f : A → C) (g : B → C) (xs : List A) (ys : List B) (k : ℕ) (x : A) (y : B)
    → map f xs ≡ map g ys → k < length xs → k < length ys → x ≡ get_or xs k x → y ≡ get_or ys k y → f x ≡ g y
same_told f g xs ys k x y alike within few here there =
    ap f here
    ∙ (sym (get_or-map f xs k x (f x) within)
    ∙ (ap (λ l. get_or l k (f x)) alike ∙ (get_or-map g ys k y (f x) few ∙ sym (ap g there))))

pub same_key : (olds nodes : List BoxFacts) (k : ℕ) (old node : BoxFacts) → keys olds ≡ keys nodes
    → k < length olds → k < length nodes → old ≡ get_or olds k old → node ≡ get_or nodes k node → old.key ≡ node.key
same_key olds nodes k old node alike within few here there =
    same_told (λ (n : BoxFacts). n.key) (λ (n : BoxFacts). n.key) olds nodes k old node alike within few here there

pub same_parent : (olds nodes : List BoxFacts) (k : ℕ) (old node : BoxFacts) → parents olds ≡ parents nodes
    → k < length olds → k < length nodes → old ≡ get_or olds k old → node ≡ get_or nodes k node
    → old.parent ≡ node.parent
same_parent olds nodes k old node alike within few here there =
    same_told (λ (n : BoxFacts). n.parent) (λ (n : BoxFacts). n.parent) olds nodes k old node alike within few here
    there
