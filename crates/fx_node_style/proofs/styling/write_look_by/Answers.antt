use Rattle.std.proofs.Common.{◌≡◌, ◌∷◌, [], ◌<◌, ℕ, List, Option, Bor, map, length, refl, sym, ◌∙◌, ap, arith}
use Rattle.std.specs.Option.{option_copied}
use mathlib.Core.Path.{fun_ext}
use Rattle.fx_base.specs.declared.color.Color.{Color as Rgba}
use Rattle.fx_look.specs.declared.looks.Look.{Look}
use Rattle.fx_lookup.specs.declared.named.NamedPaint.{NamedPaint}
use Rattle.fx_lookup.specs.Lookups.{resolved}
use Rattle.fx_node_style.specs.Looking.{look_of, rows_of}
use Rattle.fx_node_style.specs.Styling.{inherited}
use Rattle.fx_node_style.proofs.ChainLemmas.{bare}
use Rattle.fx_node_style.proofs.styling.write_look_by.Goals as goal

none-in : (paints : List NamedPaint) → length paints < 1 → paints ≡ []
none-in [] few = refl
none-in (p ∷ ps) few = absurd (omega (arith, few))

same-resolved : (above : List (List NamedPaint)) (own : List NamedPaint) → own ≡ []
    → resolved above ≡ resolved (own ∷ above)
same-resolved above own none =
    let skipped : resolved above ≡ resolved ([] ∷ above) = fun_ext (λ (name : List ℕ). bare above name) in
    skipped ∙ ap (λ (ps : List NamedPaint). resolved (ps ∷ above)) (sym none)

pub returns-in_ok-write_under-in-empty : goal.returns-in_ok-write_under-in-empty
returns-in_ok-write_under-in-empty c =
    let ground = c.args.ground in
    let row = rows_of c.args.rows in
    let above : List (List NamedPaint) = map (λ (n : Bor (List NamedPaint)). n.now) ground.above.now in
    let under : Look = inherited ground.alignment (option_copied ground.parent) in
    let none : c.args.paints.now ≡ [] = none-in c.args.paints.now c.in-empty.len_below in
    c.in_ok-write_under-in-empty.ensures
    ∙ ap (λ (r : List ℕ → Option Rgba). look_of row r ground.alignment under)
    (same-resolved above c.args.paints.now none)
