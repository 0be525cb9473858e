-- any attribute, as it is seen
use Rattle.std.proofs.Common.{◌≡◌, ◌∙◌, ◌∷◌, [], ◌||◌, Bool, List, ap, map, refl, sym}
use Rattle.std.specs.List.{list_any}
use Rattle.fx_doc.specs.Views.{attr_view}
use Rattle.fx_scene_outline.specs.Nodes.{has_name}
use Rattle.fx_scene_outline.proofs.nodes.has_attribute.Goals as goal

any_seen : {A B : Type 0} (test : B → Bool) (f : A → B) (xs : List A)
    → list_any test (map f xs) ≡ list_any (λ x. test (f x)) xs
any_seen test f [] = refl
any_seen test f (x ∷ xs) = ap (λ b. test (f x) || b) (any_seen test f xs)

pub returns : goal.returns
returns c = c.any_has.ensures ∙ sym (any_seen (has_name c.args.name.now) attr_view c.args.attributes.now)
