-- A node that isn't styled anew has the style that is kept of it, and so an update gives each node its style from
-- nothing.
use Rattle.std.proofs.Common.{refl, sym, ap, subst, ◌∙◌, ◌≡◌, ℕ, zero, suc, ◌<◌, ◌∷◌, Bool, false, List, [], get_or, length, map, Option, Some, None, arith, zero-add}
use Rattle.std.specs.Prelude.{is_none, slice_get, option_and_then, IfSome}
use Rattle.std.specs.List.{range_with_len}
use Rattle.std.specs.Option.{option_map, option_map_or}
use Rattle.std.proofs.lemmas.Bool.{or_parts}
use Rattle.std.proofs.lemmas.List.{ext_get_or, length-map}
use Rattle.std.proofs.lemmas.List.FromFn.{get_or-map-range_with_len, length-map-range_with_len}
use Rattle.std.proofs.lemmas.Option.{get_or_from_slice_get, slice_get-get_or, slice_get-map, slice_get_within}
use Rattle.fx_base.specs.declared.keys.NodeKey.{NodeKey}
use Rattle.fx_css_types.specs.declared.sheets.SheetAt.{SheetAt}
use Rattle.fx_kinds.specs.declared.facts.BoxFacts.{BoxFacts}
use Rattle.fx_kinds.specs.declared.facts.StyleFacts.{StyleFacts}
use Rattle.fx_look.specs.declared.looks.Look.{Look}
use Rattle.fx_look.specs.Looks.{initial_look}
use Rattle.fx_node_style.specs.declared.node_styles.NodeStyle.{NodeStyle}
use Rattle.fx_select.specs.Chains.{ParentsStandBefore, chain, upward}
use Rattle.fx_select.proofs.ChainLemmas.{upward-none, upward-some}
use Rattle.fx_style.specs.declared.kept.Entry.{Entry}
use Rattle.fx_style.specs.declared.kept.Rest.{Rest}
use Rattle.fx_style.specs.Kept.{AreDifferent, HaveDifferentKeys, Kept, entry, entry_in, is_among, is_key, joined, kept_under, place_of_key, style_of_entry}
use Rattle.fx_style.specs.Places.{parent_at as style_parent, places_up}
use Rattle.fx_style.specs.Rules.{AreKept, AreRight, IsUpdate, anew, kept_of, style_of}
use Rattle.fx_style.specs.Styled.{first_of, styled}
use Rattle.fx_style.proofs.ChainLaws.{same_chain}
use Rattle.fx_style.proofs.KeyLemmas.{key_is, key_place}
use Rattle.fx_style.proofs.UpdateLemmas.{from_nothing, style_entry, styled-some}
use Rattle.fx_layout_sweeps.specs.Marks.{flag_in}
use Rattle.fx_layout_sweeps.specs.Nodes.{IsTree, Parents, parent_at, parents}
use Rattle.fx_pulse_model.specs.Scenes.{IsScene, Scene, look_in, looks_of}
use Rattle.fx_pulse_model.proofs.KeyLemmas.{different_facts, stand_before}
use Rattle.fx_pulse_model.proofs.LineLemmas.{any_child, any_root}
use Rattle.fx_pulse_touched.specs.Marks.{places_of, told}
use Rattle.fx_pulse_touched.specs.Touched.{HaveOneShape, IsStyledAsBefore, is_restyled}
use Rattle.fx_pulse_touched.proofs.PlaceLemmas.{among_places}
use Rattle.fx_pulse_touched.proofs.ToldLemmas.{told_at, told_long}
use Rattle.fx_pulse_kept.specs.Keeping.{AreStyled}

there : {A : Type 0} (xs : List A) (j : ℕ) → j < length xs → (x : A) × (slice_get xs j ≡ Some x)
there [] j within = absurd (omega (arith, within))
there (x ∷ xs) zero within = (x, refl)
there (x ∷ xs) (suc j) within = there xs j (omega (arith, within))

-- ---- scenes
pub before : (scene : Scene) → IsScene scene → ParentsStandBefore scene.styles
before scene is = stand_before scene.styles scene.boxes is.parents is.nodes.tree

pub apart : (scene : Scene) → IsScene scene → AreDifferent scene.styles
apart scene is = different_facts scene.styles scene.boxes is.keys is.births

pub as_many : (scene : Scene) → IsScene scene → length scene.styles ≡ length scene.boxes
as_many scene is =
    sym (length-map scene.styles (λ (node : StyleFacts). node.key))
    ∙ (ap length is.keys ∙ length-map scene.boxes (λ (node : BoxFacts). node.key))

style_some : (sheets : List SheetAt) (facts : List StyleFacts) → ParentsStandBefore facts → (at : ℕ)
    → at < length facts → (s : NodeStyle) × (style_of sheets facts at ≡ Some s)
style_some sheets facts stand at within = (
  anew sheets facts at (styled (anew sheets facts) (places_up facts (style_parent facts at))),
  ap first_of (styled-some (anew sheets facts) facts stand at within),
)

-- ---- what is kept
key_in : NodeKey → Option Entry → NodeKey
key_in key None = key
key_in key (Some e) = e.key

-- what is kept at the place of a node has its key
rest_key : (scene : Scene) (kept : Kept) → ParentsStandBefore scene.styles → AreStyled scene kept → (i : ℕ) (a : Rest)
    (x : StyleFacts) → slice_get kept.rest i ≡ Some a → slice_get scene.styles i ≡ Some x → a.key ≡ x.key
unfolding key_in
rest_key scene kept stand are i a x is here =
    let within : i < length scene.styles = slice_get_within scene.styles i x here in
    let look = get_or kept.looks i (initial_look 0) in
    let looks : slice_get kept.looks i ≡ Some look =
    slice_get-get_or kept.looks i (initial_look 0) (omega (arith, within, are.looks)) in
    let s = style_some scene.sheets scene.styles stand i within in
    ap (key_in a.key)
    (sym (ap (λ l. joined l (slice_get kept.rest i)) looks ∙ ap (joined (Some look)) is)
    ∙ (are.each i x here ∙ ap (option_map (entry x.key)) s.1))

rest_apart : (scene : Scene) (kept : Kept) → ParentsStandBefore scene.styles → AreDifferent scene.styles
    → AreStyled scene kept → HaveDifferentKeys kept.rest
rest_apart scene kept stand differ are i j a b here other same =
    let first = slice_get_within kept.rest i a here in
    let second = slice_get_within kept.rest j b other in
    let x = there scene.styles i (omega (arith, first, are.rest)) in
    let y = there scene.styles j (omega (arith, second, are.rest)) in
    differ i j x.0 y.0 x.1 y.1
    (sym (ap (λ k. is_key k b.key) (rest_key scene kept stand are i a x.0 here x.1)
    ∙ ap (λ k. is_key x.0.key k) (rest_key scene kept stand are j b y.0 other y.1))
    ∙ same)

kept_here : (old : Scene) (kept : Kept) (facts : List StyleFacts) (at : ℕ) → ParentsStandBefore old.styles
    → AreDifferent old.styles → AreStyled old kept → at < length old.styles
    → slice_get old.styles at ≡ slice_get facts at → kept_of kept facts at ≡ style_of old.sheets old.styles at
unfolding kept_under
kept_here old kept facts at stand differ are within same =
    let x = there old.styles at within in
    let r = there kept.rest at (omega (arith, within, are.rest)) in
    let place : place_of_key kept.rest x.0.key ≡ Some at =
    key_place kept.rest x.0.key at r.0 (rest_apart old kept stand differ are) r.1
    (key_is r.0.key x.0.key (rest_key old kept stand are at r.0 x.0 r.1 x.1)) in
    ap (λ (o : Option StyleFacts). option_and_then (λ (node : StyleFacts). kept_under kept.looks kept.rest node.key) o)
    (sym same ∙ x.1)
    ∙ (ap (λ (o : Option ℕ). style_of_entry (option_and_then (entry_in kept.looks kept.rest) o)) place
    ∙ (ap style_of_entry (are.each at x.0 x.1) ∙ style_entry x.0.key (style_of old.sheets old.styles at)))

-- ---- a node that isn't styled anew stands below the same facts
own_quiet : (ups : Parents) (touched : List Bool) (k : ℕ) → IsTree ups → k < length ups
    → is_restyled ups touched k ≡ false → flag_in touched k ≡ false
own_quiet ups touched k tree within quiet = by (parent_at ups k) refl
  where
    by : (o : Option ℕ) → parent_at ups k ≡ o → flag_in touched k ≡ false
    by None is = sym (any_root ups (flag_in touched) k is) ∙ quiet
    by (Some p) is = (or_parts (is_restyled ups touched p) (flag_in touched k)
        (sym (any_child ups (flag_in touched) k p tree within is) ∙ quiet)).1

up_quiet : (ups : Parents) (touched : List Bool) (k p : ℕ) → IsTree ups → k < length ups → parent_at ups k ≡ Some p
    → is_restyled ups touched k ≡ false → is_restyled ups touched p ≡ false
up_quiet ups touched k p tree within is quiet =
    (or_parts (is_restyled ups touched p) (flag_in touched k)
    (sym (any_child ups (flag_in touched) k p tree within is) ∙ quiet)).0

-- two scenes of which the facts for style are the same but at marked places
pub record AreAlike (old scene : Scene) (touched : List Bool) : Type 0 where
  pub was : IsScene old
  pub is : IsScene scene
  pub shape : HaveOneShape old scene
  pub same : (k : ℕ) → k < length scene.styles → flag_in touched k ≡ false
      → slice_get old.styles k ≡ slice_get scene.styles k

pub lengths : (old scene : Scene) (touched : List Bool) → AreAlike old scene touched
    → length old.styles ≡ length scene.styles
lengths old scene touched alike =
    as_many old alike.was
    ∙ (sym (length-map old.boxes (λ (node : BoxFacts). node.key))
    ∙ (ap length alike.shape.keys
    ∙ (length-map scene.boxes (λ (node : BoxFacts). node.key) ∙ sym (as_many scene alike.is))))

up_at : (scene : Scene) (at : ℕ) (node : StyleFacts) → IsScene scene → slice_get scene.styles at ≡ Some node
    → parent_at (parents scene.boxes) at ≡ node.parent
up_at scene at node is here =
    ap (λ ups. parent_at ups at) (sym is.parents)
    ∙ get_or_from_slice_get (map (λ (n : StyleFacts). n.parent) scene.styles) at node.parent None
    (slice_get-map (λ (n : StyleFacts). n.parent) scene.styles at
    ∙ ap (option_map (λ (n : StyleFacts). n.parent)) here)

same_up : (old scene : Scene) (touched : List Bool) → AreAlike old scene touched → (fuel : ℕ) (o : Option ℕ)
    → ((p : ℕ) → o ≡ Some p → p < fuel) → ((p : ℕ) → o ≡ Some p → p < length scene.styles)
    → ((p : ℕ) → o ≡ Some p → is_restyled (parents scene.boxes) touched p ≡ false)
    → upward old.styles o ≡ upward scene.styles o
same_up old scene touched alike fuel None few within quiet = upward-none old.styles ∙ sym (upward-none scene.styles)
same_up old scene touched alike zero (Some at) few within quiet =
    absurd (let h : at < zero = few at refl in omega arith)
same_up old scene touched alike (suc fuel) (Some at) few within quiet =
    let ups = parents scene.boxes in
    let here : at < length scene.styles = within at refl in
    let long : length ups ≡ length scene.styles =
    length-map scene.boxes (λ (n : BoxFacts). n.parent) ∙ sym (as_many scene alike.is) in
    let inside : at < length ups = omega (arith, here, long) in
    let tree = alike.is.nodes.tree in
    let x = there scene.styles at here in
    let same = alike.same at here (own_quiet ups touched at tree inside (quiet at refl)) in
    let up = up_at scene at x.0 alike.is x.1 in
    let less : (p : ℕ) → x.0.parent ≡ Some p → p < at =
    λ p e. before scene alike.is at p x.0 x.1 e in
    let rest : upward old.styles x.0.parent ≡ upward scene.styles x.0.parent =
    same_up old scene touched alike fuel x.0.parent
    (λ p e. let h : at < suc fuel = few at refl in omega (arith, h, less p e))
    (λ p e. omega (arith, here, less p e))
    (λ p e. up_quiet ups touched at p tree inside (up ∙ e) (quiet at refl)) in
    upward-some old.styles (before old alike.was) at x.0 (same ∙ x.1)
    ∙ (ap (λ (l : List StyleFacts). x.0 ∷ l) rest ∙ sym (upward-some scene.styles (before scene alike.is) at x.0 x.1))

same_some : (a b : ℕ) → Some a ≡ Some b → a ≡ b
same_some a b e = cc

-- such a node stands below the facts that it stood below
pub same_line : (old scene : Scene) (touched : List Bool) → AreAlike old scene touched → (at : ℕ)
    → at < length scene.styles → is_restyled (parents scene.boxes) touched at ≡ false
    → chain old.styles at ≡ chain scene.styles at
same_line old scene touched alike at within quiet =
    same_up old scene touched alike (suc at) (Some at)
    (λ p e. omega (arith, same_some at p e))
    (λ p e. subst (λ n. n < length scene.styles) (same_some at p e) within)
    (λ p e. subst (λ n. is_restyled (parents scene.boxes) touched n ≡ false) (same_some at p e) quiet)

-- the style of such a node from nothing is what it was
pub same_style : (old scene : Scene) (touched : List Bool) → AreAlike old scene touched → (at : ℕ)
    → at < length scene.styles → is_restyled (parents scene.boxes) touched at ≡ false
    → style_of old.sheets old.styles at ≡ style_of scene.sheets scene.styles at
same_style old scene touched alike at within quiet =
    ap (λ (sheets : List SheetAt). style_of sheets old.styles at) alike.shape.sheets
    ∙ same_chain scene.sheets old.styles scene.styles (before old alike.was) (before scene alike.is) at at
    (omega (arith, within, lengths old scene touched alike)) within (same_line old scene touched alike at within quiet)

kept_style : (old scene : Scene) (touched : List Bool) (kept : Kept) → AreAlike old scene touched → AreStyled old kept
    → (at : ℕ) → at < length scene.styles → is_restyled (parents scene.boxes) touched at ≡ false
    → kept_of kept scene.styles at ≡ style_of scene.sheets scene.styles at
kept_style old scene touched kept alike are at within quiet =
    let ups = parents scene.boxes in
    let long : length ups ≡ length scene.styles =
    length-map scene.boxes (λ (n : BoxFacts). n.parent) ∙ sym (as_many scene alike.is) in
    kept_here old kept scene.styles at (before old alike.was) (apart old alike.was) are
    (omega (arith, within, lengths old scene touched alike))
    (alike.same at within
    (own_quiet ups touched at alike.is.nodes.tree (omega (arith, within, long)) quiet))
    ∙ same_style old scene touched alike at within quiet

-- ---- what an update is given
-- the styles of the last scene, if there was one, and the marks of the nodes that are styled anew
pub record AreReady (last : Option Scene) (scene : Scene) (touched marks : List Bool) (kept : Kept) : Type 0 where
  pub is : IsScene scene
  pub was : IfSome last (λ (old : Scene). IsScene old × AreStyled old kept)
  pub quiet : (k : ℕ) → k < length scene.styles → flag_in touched k ≡ false → IsStyledAsBefore last scene k
  pub marks_are : marks ≡ told (is_restyled (parents scene.boxes) touched) (length scene.boxes)

pub marked_as : (last : Option Scene) (scene : Scene) (touched marks : List Bool) (kept : Kept)
    → AreReady last scene touched marks kept → (at : ℕ) → at < length scene.styles
    → flag_in marks at ≡ is_restyled (parents scene.boxes) touched at
marked_as last scene touched marks kept ready at within =
    ap (λ l. flag_in l at) ready.marks_are
    ∙ told_at (is_restyled (parents scene.boxes) touched) (length scene.boxes) at false
    (omega (arith, within, as_many scene ready.is))

pub marks_long : (last : Option Scene) (scene : Scene) (touched marks : List Bool) (kept : Kept)
    → AreReady last scene touched marks kept → length marks ≡ length scene.styles
marks_long last scene touched marks kept ready =
    ap length ready.marks_are
    ∙ (told_long (is_restyled (parents scene.boxes) touched) (length scene.boxes) ∙ sym (as_many scene ready.is))

pub unlisted : (last : Option Scene) (scene : Scene) (touched marks : List Bool) (kept : Kept)
    → AreReady last scene touched marks kept → (at : ℕ) → at < length scene.styles
    → is_among (places_of marks) at ≡ false → is_restyled (parents scene.boxes) touched at ≡ false
unlisted last scene touched marks kept ready at within free =
    sym (marked_as last scene touched marks kept ready at within)
    ∙ (sym (among_places marks at (omega (arith, within, marks_long last scene touched marks kept ready))) ∙ free)

pub alike_of : (old scene : Scene) (touched marks : List Bool) (kept : Kept)
    → AreReady (Some old) scene touched marks kept → (at : ℕ) → at < length scene.styles
    → is_restyled (parents scene.boxes) touched at ≡ false → AreAlike old scene touched
alike_of old scene touched marks kept ready at within quiet =
    let ups = parents scene.boxes in
    let long : length ups ≡ length scene.styles =
    length-map scene.boxes (λ (n : BoxFacts). n.parent) ∙ sym (as_many scene ready.is) in
    record {
      was = ready.was.0;
      is = ready.is;
      shape = (ready.quiet at within
          (own_quiet ups touched at ready.is.nodes.tree (omega (arith, within, long)) quiet)).0;
      same = λ k inside free. (ready.quiet k inside free).1;
    }

-- of a node that isn't listed its style from nothing is kept
pub kept_right : (last : Option Scene) (scene : Scene) (touched marks : List Bool) (kept : Kept)
    → AreReady last scene touched marks kept → (at : ℕ) → at < length scene.styles
    → is_among (places_of marks) at ≡ false → kept_of kept scene.styles at ≡ style_of scene.sheets scene.styles at
kept_right None scene touched marks kept ready at within free =
    let ups = parents scene.boxes in
    let long : length ups ≡ length scene.styles =
    length-map scene.boxes (λ (n : BoxFacts). n.parent) ∙ sym (as_many scene ready.is) in
    absurd (ready.quiet at within (own_quiet ups touched at ready.is.nodes.tree (omega (arith, within, long))
    (unlisted None scene touched marks kept ready at within free)))
kept_right (Some old) scene touched marks kept ready at within free =
    let quiet = unlisted (Some old) scene touched marks kept ready at within free in
    kept_style old scene touched kept (alike_of old scene touched marks kept ready at within quiet) ready.was.1 at
    within quiet

pub are_right : (last : Option Scene) (scene : Scene) (touched marks : List Bool) (kept : Kept)
    → AreReady last scene touched marks kept → AreRight scene.sheets scene.styles (places_of marks) kept
are_right last scene touched marks kept ready at within free style is =
    sym is ∙ kept_right last scene touched marks kept ready at within free

pub are_kept : (last : Option Scene) (scene : Scene) (touched marks : List Bool) (kept : Kept)
    → AreReady last scene touched marks kept → AreKept scene.styles (places_of marks) kept
are_kept last scene touched marks kept ready at within free =
    let some = style_some scene.sheets scene.styles (before scene ready.is) at within in
    ap is_none (kept_right last scene touched marks kept ready at within free ∙ some.1)

-- ---- what it gives
pub styled_anew : (last : Option Scene) (scene : Scene) (touched marks : List Bool) (kept new : Kept)
    → AreReady last scene touched marks kept → IsUpdate scene.sheets scene.styles (places_of marks) kept new
    → AreStyled scene new
styled_anew last scene touched marks kept new ready update = record {
  looks = update.looks;
  rest = update.rest;
  each = λ at node is. update.each at node is
      ∙ ap (option_map (entry node.key))
      (from_nothing scene.sheets scene.styles (places_of marks) (kept_of kept scene.styles) (before scene ready.is)
      (are_right last scene touched marks kept ready) at (slice_get_within scene.styles at node is));
}

look_of_entry : Option Entry → Look
look_of_entry o = option_map_or (λ (e : Entry). e.style.look) o (initial_look 0)

pub looks_are : (scene : Scene) (kept : Kept) → IsScene scene → AreStyled scene kept → kept.looks ≡ looks_of scene
unfolding look_of_entry
looks_are scene kept is are =
    let n = length scene.styles in
    let look : ℕ → Look = λ k. look_in (style_of scene.sheets scene.styles k) in
    ext_get_or (initial_look 0) kept.looks (map look (range_with_len 0 n))
    (are.looks ∙ sym (length-map-range_with_len look 0 n))
    (λ i within. (
    let inside : i < n = omega (arith, within, are.looks) in
    let x = there scene.styles i inside in
    let r = there kept.rest i (omega (arith, inside, are.rest)) in
    let s = style_some scene.sheets scene.styles (before scene is) i inside in
    let here : slice_get kept.looks i ≡ Some (get_or kept.looks i (initial_look 0)) =
    slice_get-get_or kept.looks i (initial_look 0) within in
    ap look_of_entry
    (sym (ap (λ l. joined l (slice_get kept.rest i)) here
    ∙ ap (joined (Some (get_or kept.looks i (initial_look 0)))) r.1)
    ∙ (are.each i x.0 x.1 ∙ ap (option_map (entry x.0.key)) s.1))
    ∙ (sym (ap look_in s.1) ∙ sym (get_or-map-range_with_len look 0 n i i (initial_look 0) inside (zero-add i)))))
