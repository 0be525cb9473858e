-- From one scene to the next: what an update of the layout is given, and that it gives the layout from nothing.
use Rattle.std.proofs.Common.{refl, sym, ap, subst, ◌∙◌, ◌≡◌, ℕ, zero, suc, ◌<◌, ◌⊎◌, Bool, true, false, List, [], ◌∷◌, get_or, length, map, Option, Some, None, inl, inr, arith, zero-add}
use Rattle.std.specs.Prelude.{IfSome, slice_get}
use Rattle.std.specs.Option.{unwrap_or}
use Rattle.std.proofs.lemmas.Bool.{cases_Bool, cases_lt, true≢false}
use Rattle.std.proofs.lemmas.List.{get_or-map, get_or_past, length-map}
use Rattle.std.proofs.lemmas.List.FromFn.{get_or-map-range_with_len}
use Rattle.std.proofs.lemmas.Option.{unwrap_or-slice_get}
use Rattle.fx_kinds.specs.declared.facts.BoxFacts.{BoxFacts}
use Rattle.fx_look.specs.declared.looks.Look.{Look}
use Rattle.fx_look.specs.Looks.{initial_look}
use Rattle.fx_layout.specs.Layouts.{IsLayout, IsSame, apart as alone}
use Rattle.fx_layout.specs.Updates.{IsUpdate as IsLaidUpdate, Kept as Laid, is_listed, old_place}
use Rattle.fx_layout.proofs.Agree.{agreed, anew_is, own_place}
use Rattle.fx_layout_parts.specs.Boxes.{box_of}
use Rattle.fx_layout_sweeps.specs.Marks.{flag_in}
use Rattle.fx_layout_sweeps.specs.Nodes.{children_of, keys, look_at, no_node, node_at, parents}
use Rattle.fx_style.specs.Kept.{Kept as Styled, is_among}
use Rattle.fx_style.specs.Rules.{IsUpdate as IsStyledUpdate, KeepsOthers, style_of}
use Rattle.fx_pulse_model.specs.Scenes.{IsScene, Scene, look_in, looks_of}
use Rattle.fx_pulse_model.proofs.KeyLemmas.{different_keys}
use Rattle.fx_pulse_touched.specs.Marks.{places_of, told}
use Rattle.fx_pulse_touched.specs.Touched.{AreTouched, HaveOneShape, IsLaidAsBefore, IsStyledAsBefore, is_restyled}
use Rattle.fx_pulse_touched.proofs.PlaceLemmas.{among_places}
use Rattle.fx_pulse_touched.proofs.ToldLemmas.{long, read}
use Rattle.fx_pulse_kept.specs.Keeping.{AreOf, AreStyled}
use Rattle.fx_pulse_kept.specs.Measuring.{AreMeasuredAnew, IsAsBefore}
use Rattle.fx_pulse_kept.proofs.StyleLemmas.{AreAlike, AreReady, as_many, lengths, looks_are, marked_as, same_style, styled_anew}

-- the last scene, the next one, marks of what is touched, styled anew and measured anew, and what is kept
pub record Step : Type 0 where
  pub last : Option Scene
  pub scene : Scene
  pub styles : List Bool
  pub boxes : List Bool
  pub restyled : List Bool
  pub marks : List Bool
  pub old_styles : Styled
  pub new_styles : Styled
  pub old_layout : Laid
  pub new_layout : Laid
  pub window : Option (ℕ × ℕ)

pub record IsStep (s : Step) : Type 0 where
  pub is : IsScene s.scene
  pub was : IfSome s.last (λ (old : Scene). AreOf old s.old_styles s.old_layout)
  pub touched : AreTouched s.last s.scene s.styles s.boxes
  pub marks_are : s.restyled ≡ told (is_restyled (parents s.scene.boxes) s.styles) (length s.scene.boxes)
  pub update : IsStyledUpdate s.scene.sheets s.scene.styles (places_of s.restyled) s.old_styles s.new_styles
  pub others : KeepsOthers s.old_styles s.new_styles
  pub anew : AreMeasuredAnew s.scene.boxes s.boxes s.restyled s.new_styles.changed s.marks
  pub laid : IsLaidUpdate s.old_layout s.scene.boxes s.new_styles.looks s.window (places_of s.marks) s.new_layout

pub ready_of : (last : Option Scene) (scene : Scene) (styles boxes restyled : List Bool) (kept : Styled) (layout : Laid)
    → IsScene scene → IfSome last (λ (old : Scene). AreOf old kept layout) → AreTouched last scene styles boxes
    → restyled ≡ told (is_restyled (parents scene.boxes) styles) (length scene.boxes)
    → AreReady last scene styles restyled kept
ready_of last scene styles boxes restyled kept layout is was touched marks = record {
  is = is;
  was = styled last was;
  quiet = λ k within free. (touched.styled k within).0 free;
  marks_are = marks;
}
  where
    styled : (o : Option Scene) → IfSome o (λ (old : Scene). AreOf old kept layout)
        → IfSome o (λ (old : Scene). IsScene old × AreStyled old kept)
    styled None w = tt
    styled (Some old) w = (w.drawable, w.styled)

pub ready : (s : Step) → IsStep s → AreReady s.last s.scene s.styles s.restyled s.old_styles
ready s g =
    ready_of s.last s.scene s.styles s.boxes s.restyled s.old_styles s.old_layout g.is g.was g.touched g.marks_are

pub new_styled : (s : Step) → IsStep s → AreStyled s.scene s.new_styles
new_styled s g =
    styled_anew s.last s.scene s.styles s.restyled s.old_styles s.new_styles (ready s g) g.update

pub new_looks : (s : Step) → IsStep s → s.new_styles.looks ≡ looks_of s.scene
new_looks s g = looks_are s.scene s.new_styles g.is (new_styled s g)

-- ---- a node that isn't marked
no_mark : (a b : Bool) → (a ≡ true → b ≡ true) → b ≡ false → a ≡ false
no_mark true b goes is = absurd (true≢false (sym (goes refl) ∙ is))
no_mark false b goes is = refl

pub was_of : (s : Step) → IsStep s → (old : Scene) → s.last ≡ Some old → AreOf old s.old_styles s.old_layout
was_of s g old e = subst (λ o. IfSome o (λ (w : Scene). AreOf w s.old_styles s.old_layout)) e g.was

box_quiet : (s : Step) → IsStep s → (p : ℕ) → p < length s.scene.boxes → flag_in s.marks p ≡ false
    → IsLaidAsBefore s.last s.scene p
box_quiet s g p within free =
    (g.touched.laid p within).0 (no_mark (flag_in s.boxes p) (flag_in s.marks p) (g.anew.facts p within) free)

before_of : (s : Step) → IsStep s → (old : Scene) → s.last ≡ Some old → (p : ℕ) → p < length s.scene.boxes
    → flag_in s.marks p ≡ false
    → HaveOneShape old s.scene × (slice_get old.boxes p ≡ slice_get s.scene.boxes p)
before_of s g old e p within free = subst (λ o. IsLaidAsBefore o s.scene p) e (box_quiet s g p within free)

alike : (s : Step) → IsStep s → (old : Scene) → s.last ≡ Some old → HaveOneShape old s.scene
    → AreAlike old s.scene s.styles
alike s g old e shape = record {
  was = (was_of s g old e).drawable;
  is = g.is;
  shape = shape;
  same = λ k within free. styled_as k within free;
}
  where
    styled_as : (k : ℕ) → k < length s.scene.styles → flag_in s.styles k ≡ false
        → slice_get old.styles k ≡ slice_get s.scene.styles k
    styled_as k within free = before s.last e ((g.touched.styled k within).0 free)
      where
        before : (o : Option Scene) → o ≡ Some old → IsStyledAsBefore o s.scene k
            → slice_get old.styles k ≡ slice_get s.scene.styles k
        before None n is = absurd is
        before (Some w) n is = subst (λ (v : Scene). slice_get v.styles k ≡ slice_get s.scene.styles k) (same w n) is.1
          where
            same : (v : Scene) → Some v ≡ Some old → v ≡ old
            same v m = cc

pub same_there : {A : Type 0} (xs ys : List A) (k : ℕ) (d : A) → slice_get xs k ≡ slice_get ys k
    → get_or xs k d ≡ get_or ys k d
same_there xs ys k d same =
    sym (unwrap_or-slice_get xs k d) ∙ (ap (λ o. unwrap_or o d) same ∙ unwrap_or-slice_get ys k d)

look_told : (scene : Scene) (p : ℕ) → p < length scene.styles
    → look_at (looks_of scene) p ≡ look_in (style_of scene.sheets scene.styles p)
look_told scene p within =
    get_or-map-range_with_len (λ k. look_in (style_of scene.sheets scene.styles k)) 0 (length scene.styles) p p
    (initial_look 0) within (zero-add p)

same_look : (s : Step) → IsStep s → (old : Scene) → s.last ≡ Some old → HaveOneShape old s.scene → (p : ℕ)
    → p < length s.scene.boxes → flag_in s.marks p ≡ false
    → look_at s.new_styles.looks p ≡ look_at (looks_of old) p
same_look s g old e shape p within free =
    let inside : p < length s.scene.styles = omega (arith, within, as_many s.scene g.is) in
    let pair = alike s g old e shape in
    elim (cases_Bool (flag_in s.restyled p)) [
      | inr quiet ↦ ap (λ l. look_at l p) (new_looks s g)
          ∙ (look_told s.scene p inside
          ∙ (ap look_in (sym (same_style old s.scene s.styles pair p inside
          (sym (marked_as s.last s.scene s.styles s.restyled s.old_styles (ready s g) p inside) ∙ quiet)))
          ∙ sym (look_told old p (omega (arith, inside, lengths old s.scene s.styles pair)))))
      | inl anew ↦ same_there s.new_styles.looks s.old_styles.looks p (initial_look 0)
          (g.others p (omega (arith, inside, g.update.looks))
          (no_mark (is_among s.new_styles.changed p) (flag_in s.marks p) (g.anew.looks p within anew) free))
          ∙ ap (λ l. look_at l p) (looks_are old s.old_styles pair.was (was_of s g old e).styled)
    ]

pub as_before : (s : Step) → IsStep s → (k : ℕ) → k < length s.scene.boxes → flag_in s.marks k ≡ false
    → IsAsBefore s.last s.scene k
as_before s g k within free = by s.last refl (box_quiet s g k within free)
  where
    by : (o : Option Scene) → s.last ≡ o → IsLaidAsBefore o s.scene k → IsAsBefore o s.scene k
    by None e none = absurd none
    by (Some old) e before = (
      before.0,
      before.1,
      sym (ap (λ l. look_at l k) (sym (new_looks s g)) ∙ same_look s g old e before.0 k within free),
    )

-- ---- the same nodes
key_at : (nodes : List BoxFacts) (j : ℕ) → (node_at nodes j).key ≡ get_or (keys nodes) j no_node.key
key_at nodes j = elim (cases_lt j (length nodes)) [
  | inl within ↦ sym (get_or-map (λ (n : BoxFacts). n.key) nodes j no_node no_node.key within)
  | inr past ↦ ap (λ (n : BoxFacts). n.key) (get_or_past nodes j no_node past)
      ∙ sym (get_or_past (keys nodes) j no_node.key (omega (arith, past, length-map nodes (λ (n : BoxFacts). n.key))))
]

map_ext : {A : Type 0} (f h : ℕ → A) → ((j : ℕ) → f j ≡ h j) → (xs : List ℕ) → map f xs ≡ map h xs
map_ext f h same [] = refl
map_ext f h same (x ∷ xs) = ap (λ y. y ∷ map f xs) (same x) ∙ ap (λ ys. h x ∷ ys) (map_ext f h same xs)

same_children : (olds nodes : List BoxFacts) (p : ℕ) → keys olds ≡ keys nodes → parents olds ≡ parents nodes
    → map (λ (j : ℕ). (node_at nodes j).key) (children_of (parents nodes) p)
    ≡ map (λ (j : ℕ). (node_at olds j).key) (children_of (parents olds) p)
same_children olds nodes p alike hung =
    map_ext (λ j. (node_at nodes j).key) (λ j. (node_at olds j).key)
    (λ j. key_at nodes j ∙ (ap (λ ks. get_or ks j no_node.key) (sym alike) ∙ sym (key_at olds j)))
    (children_of (parents nodes) p)
    ∙ ap (λ ups. map (λ (j : ℕ). (node_at olds j).key) (children_of ups p)) (sym hung)

pub as_many_boxes : (olds nodes : List BoxFacts) → keys olds ≡ keys nodes → length olds ≡ length nodes
as_many_boxes olds nodes alike =
    sym (length-map olds (λ (n : BoxFacts). n.key)) ∙ (ap length alike ∙ length-map nodes (λ (n : BoxFacts). n.key))

same_node : (s : Step) → IsStep s → (old : Scene) → s.last ≡ Some old → HaveOneShape old s.scene → (p : ℕ)
    → p < length s.scene.boxes → is_listed (places_of s.marks) p ≡ false
    → IsSame old.boxes (looks_of old) s.scene.boxes s.new_styles.looks (places_of s.marks) p
    (old_place (keys old.boxes) (node_at s.scene.boxes p).key)
same_node s g old e shape p within unlisted =
    let free : flag_in s.marks p ≡ false =
    sym (among_places s.marks p (omega (arith, within, g.anew.each))) ∙ unlisted in
    let was = before_of s g old e p within free in
    let node : node_at s.scene.boxes p ≡ node_at old.boxes p =
    sym (same_there old.boxes s.scene.boxes p no_node was.1) in
    let there : p < length old.boxes = omega (arith, within, as_many_boxes old.boxes s.scene.boxes shape.keys) in
    let place : old_place (keys old.boxes) (node_at s.scene.boxes p).key ≡ p =
    ap (λ (n : BoxFacts). old_place (keys old.boxes) n.key) node
    ∙ own_place old.boxes (different_keys old.boxes (was_of s g old e).drawable.births) p there in
    subst (λ q. IsSame old.boxes (looks_of old) s.scene.boxes s.new_styles.looks (places_of s.marks) p q) (sym place)
    (record {
      there = there;
      facts = ap alone node;
      box = ap (λ (n : BoxFacts). box_of n (look_at s.new_styles.looks p)) node
          ∙ ap (λ (l : Look). box_of (node_at old.boxes p) l) (same_look s g old e shape p within free);
      children = same_children old.boxes s.scene.boxes p shape.keys shape.parents;
      below = λ j inside up.
          no_mark (is_listed (places_of s.marks) j) (flag_in s.marks p)
          (λ listed. g.anew.closed j p (omega (arith, inside, long s.scene.boxes))
          (read s.scene.boxes j inside ∙ up)
          (sym (among_places s.marks j (omega (arith, inside, g.anew.each))) ∙ listed)) free;
    })

-- ---- the layout
all_or_some : (marks : List Bool) (n : ℕ)
    → ((p : ℕ) → p < n → flag_in marks p ≡ true) ⊎ ((p : ℕ) × (p < n) × (flag_in marks p ≡ false))
all_or_some marks zero = inl (λ p less. absurd (omega (arith, less)))
all_or_some marks (suc n) = by (cases_Bool (flag_in marks n)) (all_or_some marks n)
  where
    by : ((flag_in marks n ≡ true) ⊎ (flag_in marks n ≡ false))
        → (((p : ℕ) → p < n → flag_in marks p ≡ true) ⊎ ((p : ℕ) × (p < n) × (flag_in marks p ≡ false)))
        → (((p : ℕ) → p < suc n → flag_in marks p ≡ true) ⊎ ((p : ℕ) × (p < suc n) × (flag_in marks p ≡ false)))
    by (inr free) rest = inr (n, omega arith, free)
    by (inl marked) (inr one) = inr (one.0, omega (arith, one.1), one.2)
    by (inl marked) (inl all) = inl (λ p less. elim (cases_lt p n) [
      | inl below ↦ all p below
      | inr last ↦ (let here : n ≡ p = omega (arith, less, last) in ap (flag_in marks) (sym here) ∙ marked)
    ])

pub new_layout : (s : Step) → IsStep s → IsLayout s.scene.boxes s.new_styles.looks s.window s.new_layout
new_layout s g = elim (all_or_some s.marks (length s.scene.boxes)) [
  | inl all ↦ anew_is s.scene.boxes s.new_styles.looks s.window (places_of s.marks) s.old_layout s.new_layout
      (λ p within. among_places s.marks p (omega (arith, within, g.anew.each)) ∙ all p within) g.laid
  | inr one ↦ by s.last refl one.0 one.1 (box_quiet s g one.0 one.1 one.2)
]
  where
    next : (old : Scene) → s.last ≡ Some old → HaveOneShape old s.scene
        → IsLayout s.scene.boxes s.new_styles.looks s.window s.new_layout
    next old e shape =
        let was = was_of s g old e in
        agreed
        (record {
          olds = old.boxes;
          old_looks = looks_of old;
          old_window = was.window;
          nodes = s.scene.boxes;
          looks = s.new_styles.looks;
          window = s.window;
          listed = places_of s.marks;
          old = s.old_layout;
          new = s.new_layout;
        })
        (record {
          old_tree = was.drawable.nodes;
          old_keys = different_keys old.boxes was.drawable.births;
          tree = g.is.nodes;
          was = was.laid;
          same = same_node s g old e shape;
          update = g.laid;
        })

    by : (o : Option Scene) → s.last ≡ o → (p : ℕ) → p < length s.scene.boxes → IsLaidAsBefore s.last s.scene p
        → IsLayout s.scene.boxes s.new_styles.looks s.window s.new_layout
    by None e p within was = absurd (subst (λ o. IsLaidAsBefore o s.scene p) e was)
    by (Some old) e p within was = next old e (subst (λ o. IsLaidAsBefore o s.scene p) e was).0

pub new_kept : (s : Step) → IsStep s → AreOf s.scene s.new_styles s.new_layout
new_kept s g = record {
  drawable = g.is;
  styled = new_styled s g;
  window = s.window;
  laid = subst (λ looks. IsLayout s.scene.boxes looks s.window s.new_layout) (new_looks s g) (new_layout s g);
}
