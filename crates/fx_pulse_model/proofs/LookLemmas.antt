-- An update of which nothing was kept gives each node its look from nothing.
use Rattle.std.proofs.Common.{sym, ap, ◌∙◌, ◌≡◌, ℕ, ◌<◌, List, [], get_or, length, slice_get, Option, Some, None, inl, inr, arith}
use Rattle.std.specs.Option.{option_and_then, option_map, option_map_or}
use Rattle.std.proofs.lemmas.List.{length-map}
use Rattle.std.proofs.lemmas.List.FromFn.{length-map-range_with_len}
use Rattle.std.proofs.lemmas.Option.{slice_get-get_or, slice_get_cases}
use Rattle.fx_base.specs.declared.keys.NodeKey.{NodeKey}
use Rattle.fx_kinds.specs.declared.facts.BoxFacts.{BoxFacts}
use Rattle.fx_kinds.specs.declared.facts.StyleFacts.{StyleFacts}
use Rattle.fx_look.specs.declared.looks.Look.{Look}
use Rattle.fx_look.specs.Looks.{initial_look}
use Rattle.fx_node_style.specs.declared.node_styles.NodeStyle.{NodeStyle}
use Rattle.fx_style.specs.declared.kept.Entry.{Entry}
use Rattle.fx_style.specs.declared.kept.Rest.{Rest}
use Rattle.fx_style.specs.Kept.{Kept, entry, entry_in, joined, kept_under}
use Rattle.fx_style.specs.Rules.{kept_of, style_of}
use Rattle.fx_pulse_model.specs.Scenes.{IsScene, Scene, look_in, looks_of}

-- what is kept before the first update
abbrev pub nothing : Kept
nothing = record { looks = []; rest = []; changed = [] }

none_kept : (facts : List StyleFacts) (at : ℕ) (style : NodeStyle) → kept_of nothing facts at ≡ Some style → ⊥
unfolding kept_under
none_kept facts at style is = none (slice_get facts at) is
  where
    none : (o : Option StyleFacts)
        → option_and_then (λ (node : StyleFacts). kept_under [] [] node.key) o ≡ Some style → ⊥
    none None e = grind arith
    none (Some node) e = grind arith

look_of_entry : Option Entry → Look
look_of_entry o = option_map_or (λ (e : Entry). e.style.look) o (initial_look 0)

-- the look of a node is that of its entry
made : (look : Look) (r : Rest) (key : NodeKey) (o : Option NodeStyle)
    → joined (Some look) (Some r) ≡ option_map (entry key) o → look ≡ look_in o
unfolding look_of_entry
made look r key None e = absurd (no e)
  where
    no : Some (entry r.key (record { look = look; paints = r.paints })) ≡ None → ⊥
    no same = grind arith
made look r key (Some style) e = ap look_of_entry e

looked : (looks : List Look) (rest : List Rest) (at : ℕ) (key : NodeKey) (o : Option NodeStyle) → at < length looks
    → at < length rest → entry_in looks rest at ≡ option_map (entry key) o
    → get_or looks at (initial_look 0) ≡ look_in o
looked looks rest at key o within there is =
    let look = get_or looks at (initial_look 0) in
    let here : slice_get looks at ≡ Some look = slice_get-get_or looks at (initial_look 0) within in
    elim ((slice_get_cases rest at).1) [
      | inl (r, few, found, same) ↦ made look r key o
          (sym (ap (λ l. joined l (slice_get rest at)) here ∙ ap (λ s. joined (Some look) s) found) ∙ is)
      | inr (past, none) ↦ absurd (omega (arith, past, there))
    ]

pub looks_long : (scene : Scene) → IsScene scene → length (looks_of scene) ≡ length scene.boxes
looks_long scene is =
    length-map-range_with_len (λ k. look_in (style_of scene.sheets scene.styles k)) 0 (length scene.styles)
    ∙ (sym (length-map scene.styles (λ (node : StyleFacts). node.key))
    ∙ (ap length is.keys ∙ length-map scene.boxes (λ (node : BoxFacts). node.key)))
