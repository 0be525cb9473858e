-- What is left of a node, and what becomes of it.
use Rattle.std.proofs.Common.{◌≡◌, ◌<◌, ℕ, zero, suc, Bool, true, false, ◌||◌, List, [], ◌∷◌, Option, Some, None, length, refl, sym, ◌∙◌, ap, arith}
use Rattle.std.specs.Prelude.{slice_get, is_none, option_and_then}
use Rattle.fx_base.specs.declared.keys.NodeKey.{NodeKey}
use Rattle.fx_look.specs.declared.looks.Look.{Look}
use Rattle.fx_node_style.specs.declared.node_styles.NodeStyle.{NodeStyle}
use Rattle.fx_style.specs.declared.kept.Rest.{Rest}
use Rattle.fx_style.specs.declared.making.Turn.{Turn}
use Rattle.fx_style.specs.Kept.{entry, entry_in, joined, kept_under, place_of_key, style_of_entry}
use Rattle.fx_style.specs.Rules.{needs_by, or_made, renewed_by, ticks}
use Rattle.fx_style.specs.Turns.{Stays}
use Rattle.fx_style.proofs.KeyLemmas.{key_found}

pub kept_found : (looks : List Look) (rest : List Rest) (key : NodeKey) (place : ℕ) → place_of_key rest key ≡ Some place
    → kept_under looks rest key ≡ style_of_entry (entry_in looks rest place)
unfolding kept_under
kept_found looks rest key place e = ap (λ (o : Option ℕ). style_of_entry (option_and_then (entry_in looks rest) o)) e

kept_nowhere : (looks : List Look) (rest : List Rest) (key : NodeKey) → place_of_key rest key ≡ None
    → kept_under looks rest key ≡ None
unfolding kept_under
kept_nowhere looks rest key e = ap (λ (o : Option ℕ). style_of_entry (option_and_then (entry_in looks rest) o)) e

or_right : (a b : Bool) → b ≡ true → (a || b) ≡ true
or_right true b e = refl
or_right false b e = e

none_needs : (listed : Bool) (kept : Option NodeStyle) → kept ≡ None → needs_by listed kept ≡ true
none_needs listed kept e = or_right listed (is_none kept) (ap is_none e)

pub nowhere_needs : (looks : List Look) (rest : List Rest) (key : NodeKey) (listed : Bool)
    → place_of_key rest key ≡ None → needs_by listed (kept_under looks rest key) ≡ true
nowhere_needs looks rest key listed e = none_needs listed (kept_under looks rest key) (kept_nowhere looks rest key e)

pub nothing_needs : (looks : List Look) (rest : List Rest) (key : NodeKey) (listed : Bool) (place : ℕ)
    → place_of_key rest key ≡ Some place → style_of_entry (entry_in looks rest place) ≡ None
    → needs_by listed (kept_under looks rest key) ≡ true
nothing_needs looks rest key listed place e none =
    none_needs listed (kept_under looks rest key) (kept_found looks rest key place e ∙ none)

pub get_there : {X : Type 0} (xs : List X) (i : ℕ) → i < length xs → (x : X) × (slice_get xs i ≡ Some x)
get_there [] i within = absurd (omega arith)
get_there (x ∷ xs) zero within = (x, refl)
get_there (x ∷ xs) (suc i) within = get_there xs i (omega (arith, within))

-- what is kept of a node in its own place
pub stays_here : (looks : List Look) (rest : List Rest) (turn : Turn) → turn.listed ≡ false
    → turn.stay ≡ true → place_of_key rest turn.key ≡ Some turn.at → turn.at < length looks → turn.at < length rest
    → Stays looks rest turn
stays_here looks rest turn unlisted may e within inside =
    let key = turn.key in
    let l = get_there looks turn.at within in
    let r = get_there rest turn.at inside in
    let style : NodeStyle = record { look = l.0; paints = r.0.paints } in
    let here : entry_in looks rest turn.at ≡ Some (entry key style) =
    ap (λ (o : Option Look). joined o (slice_get rest turn.at)) l.1
    ∙ ap (joined (Some l.0)) r.1
    ∙ ap (λ (k : NodeKey). Some (entry k style)) (key_found rest key turn.at r.0 e r.1) in
    record {
      unlisted = unlisted;
      may = may;
      style = style;
      here = here;
      kept = kept_found looks rest key turn.at e ∙ ap style_of_entry here;
    }

-- what becomes of a node

pub stays_style : (looks : List Look) (rest : List Rest) (turn : Turn) (anew : NodeStyle) → Stays looks rest turn
    → entry_in looks rest turn.at
    ≡ Some (entry turn.key (renewed_by turn.listed (kept_under looks rest turn.key) anew))
stays_style looks rest turn anew s =
    let key = turn.key in
    s.here
    ∙ ap (λ (o : Option NodeStyle). Some (entry key (or_made o anew))) (sym s.kept)
    ∙ ap (λ (b : Bool). Some (entry key (renewed_by b (kept_under looks rest key) anew))) (sym s.unlisted)

pub kept_ticks : (listed : Bool) (kept : Option NodeStyle) (style : NodeStyle) → listed ≡ false → kept ≡ Some style
    → ticks (needs_by listed kept) ≡ 0
kept_ticks listed kept style unlisted is =
    ap (λ (b : Bool). ticks (b || is_none kept)) unlisted ∙ ap (λ (o : Option NodeStyle). ticks (is_none o)) is
