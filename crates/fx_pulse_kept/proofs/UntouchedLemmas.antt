-- Where nothing is touched and the root stays as large, nothing is worked on.
use Rattle.std.proofs.Common.{refl, sym, ap, ◌∙◌, ◌≡◌, ℕ, ◌≤◌, ◌&&◌, ◌||◌, Bool, true, false, List, length, Option, None, Some, inl, inr, arith}
use Rattle.std.specs.Prelude.{slice_get}
use Rattle.std.specs.List.{range_with_len}
use Rattle.std.proofs.lemmas.Bool.{cases_lt, or_from, true≢false}
use Rattle.std.proofs.lemmas.List.{get_or_past}
use Rattle.fx_kinds.specs.declared.facts.BoxFacts.{BoxFacts}
use Rattle.fx_layout.specs.Updates.{resized, root_size}
use Rattle.fx_layout_sweeps.specs.Marks.{flag_in}
use Rattle.fx_layout_sweeps.specs.Nodes.{Parents, children_lists, keys, parents}
use Rattle.fx_pulse_model.specs.Lines.{line_to}
use Rattle.fx_pulse_model.specs.Scenes.{Scene}
use Rattle.fx_pulse_model.proofs.KeyLemmas.{different_keys}
use Rattle.fx_pulse_touched.specs.Marks.{is_above, is_on_line, places_of}
use Rattle.fx_pulse_touched.specs.Touched.{AreTouched, HaveOneShape, IsUntouched, is_remeasured, is_restyled, remeasured, restyled}
use Rattle.fx_pulse_touched.proofs.PlaceLemmas.{among_places}
use Rattle.fx_pulse_touched.proofs.ToldLemmas.{told_at, told_long}
use Rattle.fx_pulse_kept.specs.Costs.{AreFew}
use Rattle.fx_pulse_kept.proofs.CountLemmas.{any_none, tally_none}
use Rattle.fx_pulse_kept.proofs.StepLemmas.{IsStep, Step, was_of}
use Rattle.fx_pulse_kept.proofs.StillLemmas.{none_resized}

shape : (last scene : Scene) → IsUntouched (Some last) scene → HaveOneShape last scene
shape last scene same = record { sheets = same.0; keys = ap keys same.2; parents = ap parents same.2 }

no_style : (last : Option Scene) (scene : Scene) (styles boxes : List Bool) → AreTouched last scene styles boxes
    → IsUntouched last scene → (k : ℕ) → flag_in styles k ≡ false
no_style None scene styles boxes touched same k = absurd same
no_style (Some last) scene styles boxes touched same k = elim (cases_lt k (length scene.styles)) [
  | inl within ↦ (touched.styled k within).1 (shape last scene same, ap (λ l. slice_get l k) same.1)
  | inr past ↦ get_or_past styles k false (omega (arith, past, touched.each_style))
]

no_box : (last : Option Scene) (scene : Scene) (styles boxes : List Bool) → AreTouched last scene styles boxes
    → IsUntouched last scene → (k : ℕ) → flag_in boxes k ≡ false
no_box None scene styles boxes touched same k = absurd same
no_box (Some last) scene styles boxes touched same k = elim (cases_lt k (length scene.boxes)) [
  | inl within ↦ (touched.laid k within).1 (shape last scene same, ap (λ l. slice_get l k) same.2)
  | inr past ↦ get_or_past boxes k false (omega (arith, past, touched.each_box))
]

none_restyled : (ups : Parents) (styles : List Bool) → ((k : ℕ) → flag_in styles k ≡ false) → (k : ℕ)
    → is_restyled ups styles k ≡ false
none_restyled ups styles none k = any_none (flag_in styles) none (line_to ups k)

none_above : (ups : Parents) (test : ℕ → Bool) → ((k : ℕ) → test k ≡ false) → (k : ℕ) → is_above ups test k ≡ false
none_above ups test none k =
    any_none (λ j. test j && is_on_line ups j k) (λ j. ap (λ b. b && is_on_line ups j k) (none j))
    (range_with_len 0 (length ups))

none_remeasured : (ups : Parents) (styles boxes : List Bool) → ((k : ℕ) → flag_in styles k ≡ false)
    → ((k : ℕ) → flag_in boxes k ≡ false) → (k : ℕ) → is_remeasured ups styles boxes k ≡ false
none_remeasured ups styles boxes none free k =
    none_above ups (λ j. is_restyled ups styles j || flag_in boxes j)
    (λ j. or_from (is_restyled ups styles j) (flag_in boxes j) (none_restyled ups styles none j) (free j)) k

false_of : (b : Bool) → (b ≡ true → ⊥) → b ≡ false
false_of true never = absurd (never refl)
false_of false never = refl

same_size : (s : Step) → IsStep s → IsUntouched s.last s.scene → root_size s.old_layout ≡ root_size s.new_layout
    → resized s.old_layout s.scene.boxes s.new_layout ≡ 0
same_size s g same size = by s.last refl same
  where
    ups : Parents
    ups = parents s.scene.boxes

    no_mark : IsUntouched s.last s.scene → (p : ℕ) → flag_in s.marks p ≡ false
    no_mark still p = false_of (flag_in s.marks p) (λ marked. true≢false (sym (g.anew.only p marked)
        ∙ none_above ups (λ j. flag_in s.restyled j || flag_in s.boxes j)
        (λ j. or_from (flag_in s.restyled j) (flag_in s.boxes j) (quiet j) (boxes j)) p))
      where
        styles : (k : ℕ) → flag_in s.styles k ≡ false
        styles = no_style s.last s.scene s.styles s.boxes g.touched still

        boxes : (k : ℕ) → flag_in s.boxes k ≡ false
        boxes = no_box s.last s.scene s.styles s.boxes g.touched still

        quiet : (j : ℕ) → flag_in s.restyled j ≡ false
        quiet j = elim (cases_lt j (length s.scene.boxes)) [
          | inl within ↦ ap (λ l. flag_in l j) g.marks_are
              ∙ (told_at (is_restyled ups s.styles) (length s.scene.boxes) j false within
              ∙ none_restyled ups s.styles styles j)
          | inr past ↦ get_or_past s.restyled j false
              (omega (arith, past, ap length g.marks_are, told_long (is_restyled ups s.styles) (length s.scene.boxes)))
        ]

    by : (o : Option Scene) → s.last ≡ o → IsUntouched o s.scene
        → resized s.old_layout s.scene.boxes s.new_layout ≡ 0
    by None e still = absurd still
    by (Some old) e still =
        let was = was_of s g old e in
        none_resized
        (record {
          nodes = s.scene.boxes;
          looks = s.new_styles.looks;
          window = s.window;
          listed = places_of s.marks;
          old = s.old_layout;
          new = s.new_layout;
        })
        (record {
          tree = g.is.nodes;
          differ = different_keys s.scene.boxes g.is.births;
          same_keys = was.laid.keys ∙ ap keys still.2;
          same_children = was.laid.children ∙ ap (λ (l : List BoxFacts). children_lists (parents l)) still.2;
          none = λ p within. among_places s.marks p (omega (arith, within, g.anew.each)) ∙ no_mark same p;
          update = g.laid;
          size = size;
        })

pub nothing : (s : Step) → IsStep s → (styled_before styled laid_before laid : ℕ)
    → AreFew s.last s.scene s.old_layout s.new_layout styled_before styled laid_before laid
    → IsUntouched s.last s.scene → root_size s.old_layout ≡ root_size s.new_layout
    → (styled ≤ styled_before) × (laid ≤ laid_before)
nothing s g styled_before styled laid_before laid few same size =
    let ups = parents s.scene.boxes in
    let styles = no_style s.last s.scene few.styles few.boxes few.touched same in
    let boxes = no_box s.last s.scene few.styles few.boxes few.touched same in
    let one : restyled ups few.styles ≡ 0 =
    tally_none (is_restyled ups few.styles) (length ups) (λ p within. none_restyled ups few.styles styles p) in
    let two : remeasured ups few.styles few.boxes ≡ 0 =
    tally_none (is_remeasured ups few.styles few.boxes) (length ups)
    (λ p within. none_remeasured ups few.styles few.boxes styles boxes p) in (
      omega (arith, few.few_styled, one),
      omega (arith, few.few_laid, two, same_size s g same size),
    )
