-- A node without paints has none that a look-up could find.
use Rattle.std.proofs.Common.{◌≡◌, ◌++◌, ◌∷◌, [], ℕ, zero, suc, cond, List, Option, Some, None, refl, ap, ◌∙◌}
use Rattle.fx_base.specs.declared.color.Color.{Color as Rgba}
use Rattle.fx_css_types.specs.declared.declarations.Paint.{Paint}
use Rattle.fx_css_types.specs.declared.declarations.Paint.TheVariants.{Color, Named}
use Rattle.fx_lookup.specs.declared.named.NamedPaint.{NamedPaint}
use Rattle.fx_lookup.specs.Lookups.{along, has_name, nearest, resolved, resolved_in, steps_in}

along-same : (p : Option Paint) (f g : List ℕ → Option Rgba) → ((name : List ℕ) → f name ≡ g name)
    → along p f ≡ along p g
along-same None f g same = refl
along-same (Some (Color color)) f g same = refl
along-same (Some (Named name)) f g same = same name

-- the search is the same where the nearest paints are
pub same-in : (most : ℕ) (one other : List (List NamedPaint))
    → ((name : List ℕ) → nearest one name ≡ nearest other name) → (visited : List (List ℕ)) (name : List ℕ)
    → resolved_in most one visited name ≡ resolved_in most other visited name
unfolding resolved_in
same-in zero one other same visited name = refl
same-in (suc most) one other same visited name =
    ap (λ (o : Option Rgba). cond (has_name visited name) None o)
    (ap (λ (p : Option Paint). along p (resolved_in most one (visited ++ name ∷ []))) (same name)
    ∙ along-same (nearest other name) (resolved_in most one (visited ++ name ∷ []))
    (resolved_in most other (visited ++ name ∷ []))
    (same-in most one other same (visited ++ name ∷ [])))

pub bare : (above : List (List NamedPaint)) (name : List ℕ) → resolved above name ≡ resolved ([] ∷ above) name
bare above name = same-in (steps_in above) above ([] ∷ above) (λ n. refl) [] name
