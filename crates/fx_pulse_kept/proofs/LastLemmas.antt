-- What an update of styles is told of the last scene: where the root isn't styled anew, the sheets are the same.
use Rattle.std.proofs.Common.{◌≡◌, ◌<◌, ◌∙◌, Bool, false, IfSome, List, length, Option, Some, None, ap, arith, subst, sym}
use Rattle.std.specs.Option.{option_map}
use Rattle.std.proofs.lemmas.Option.{get_or_from_slice_get, slice_get_within}
use Rattle.fx_css_types.specs.declared.sheets.SheetAt.{SheetAt}
use Rattle.fx_kinds.specs.declared.facts.StyleFacts.{StyleFacts}
use Rattle.fx_layout_sweeps.specs.Marks.{flag_in}
use Rattle.fx_layout_sweeps.specs.Nodes.{parents}
use Rattle.fx_style.specs.Kept.{Kept, entry}
use Rattle.fx_style.specs.Lasts.{AreStylesOf}
use Rattle.fx_style.specs.Rules.{style_of}
use Rattle.fx_pulse_model.specs.Scenes.{Scene}
use Rattle.fx_pulse_touched.specs.Marks.{places_of}
use Rattle.fx_pulse_touched.specs.Touched.{is_restyled}
use Rattle.fx_pulse_kept.specs.Keeping.{AreStylesBefore}
use Rattle.fx_pulse_kept.proofs.StyleLemmas.{AreAlike, AreReady, alike_of, are_right, before, marked_as, marks_long, same_line, unlisted}

-- the styles of one scene, by its own facts, as the styles of facts that stand before another
of_last : (old scene : Scene) (touched marks : List Bool) (kept : Kept) → AreReady (Some old) scene touched marks kept
    → AreAlike old scene touched
    → AreStylesOf scene.sheets scene.styles (places_of marks) kept.looks kept.rest old.styles
of_last old scene touched marks kept ready alike = record {
  before = before old alike.was;
  styles = λ at node is. ready.was.1.each at node is
      ∙ ap (λ (sheets : List SheetAt). option_map (entry node.key) (style_of sheets old.styles at)) alike.shape.sheets;
  right = are_right (Some old) scene touched marks kept ready;
  chains = λ at within free. same_line old scene touched alike at within
      (unlisted (Some old) scene touched marks kept ready at within free);
}

pub told_last : (last : Option Scene) (scene : Scene) (touched marks : List Bool) (kept : Kept)
    → AreReady last scene touched marks kept → (olds : Option (List StyleFacts))
    → IfSome olds (AreStylesBefore last marks)
    → IfSome olds (AreStylesOf scene.sheets scene.styles (places_of marks) kept.looks kept.rest)
told_last last scene touched marks kept ready None told = told
told_last last scene touched marks kept ready (Some olds) told =
    let old = told.scene in
    let known : AreReady (Some old) scene touched marks kept =
    subst (λ o. AreReady o scene touched marks kept) told.is ready in
    let inside : 0 < length marks = slice_get_within marks 0 false told.root in
    let within : 0 < length scene.styles = omega (arith, inside, marks_long last scene touched marks kept ready) in
    let free : flag_in marks 0 ≡ false = get_or_from_slice_get marks 0 false false told.root in
    let quiet : is_restyled (parents scene.boxes) touched 0 ≡ false =
    sym (marked_as last scene touched marks kept ready 0 within) ∙ free in
    subst (λ facts. AreStylesOf scene.sheets scene.styles (places_of marks) kept.looks kept.rest facts) told.styles
    (of_last old scene touched marks kept known (alike_of old scene touched marks kept known 0 within quiet))
