-- What is shown after a frame: the canvas follows the pictures.
use Rattle.std.proofs.Common.{sym, ap, subst, ◌∙◌, ◌≡◌, ℕ, ◌&&◌, Bool, true, false, cond, List, max, min, nat_eq, nat_le, Option, Some, None, arith}
use Rattle.std.specs.Prelude.{Err, IfOk, IfSome, OnOk, Ok, Result}
use Rattle.std.specs.List.{list_all}
use Rattle.std.proofs.lemmas.Bool.{and_from, true≢false}
use Rattle.std.proofs.lemmas.Bool.Decides.{nat_tests}
use Rattle.fx_base.specs.declared.geometry.Rect.{Rect}
use Rattle.fx_picture.specs.Entries.{HasDistinctBirths, Rises}
use Rattle.fx_picture.specs.declared.entries.Entry.{Entry}
use Rattle.fx_damage.specs.Damage.{damage}
use Rattle.fx_damage.proofs.OutsideLemmas.{same_outside}
use Rattle.fx_layout.specs.Layouts.{IsLayout}
use Rattle.fx_layout.specs.Updates.{Kept, root_length, root_size}
use Rattle.fx_layout_sweeps.specs.Nodes.{extent_at, span_at}
use Rattle.fx_panes_parts.specs.declared.axes.Span.{Span}
use Rattle.fx_canvas.specs.Surfaces.{Surface, is_size, lies_in}
use Rattle.fx_canvas_laws.specs.Frames.{IsRepainted, Shows}
use Rattle.fx_canvas_laws.proofs.Following.{following}
use Rattle.fx_canvas_laws.proofs.Lying.{lying}
use Rattle.fx_pulse_model.specs.Frames.{IsFrame, drawn_in, frame_damage, has_size}
use Rattle.fx_pulse_model.specs.Scenes.{IsScene, Scene, looks_of}
use Rattle.fx_pulse_model.proofs.PictureLemmas.{differ, rises}
use Rattle.fx_pulse.specs.Rendering.{IsShown, Rendering, last_frame, surface_of}
use Rattle.fx_pulse.proofs.WindowLemmas.{shows_anew}

-- ---- pictures
pub rises_of : (scene : Scene) (window : Option (ℕ × ℕ)) (w h : ℕ) (rects : List Rect) (picture : List Entry)
    → IsScene scene → IsFrame scene window w h rects picture → Rises picture
rises_of scene window w h rects picture is frame = rises (drawn_in scene rects) picture is.order frame.shown

pub births_of : (scene : Scene) (window : Option (ℕ × ℕ)) (w h : ℕ) (rects : List Rect) (picture : List Entry)
    → IsScene scene → IsFrame scene window w h rects picture → HasDistinctBirths picture
births_of scene window w h rects picture is frame = differ (drawn_in scene rects) picture is.births frame.shown

-- ---- sizes
both : (a b c d : Bool) → a ≡ true → b ≡ true → c ≡ true → d ≡ true → ((a && b) && (c && d)) ≡ true
both a b c d p q r s = and_from (a && b) (c && d) (and_from a b p q) (and_from c d r s)

least : (n : ℕ) → nat_le 1 (max 1 (min n 2048)) ≡ true
least n = grind (arith, nat_tests)

most : (n : ℕ) → nat_le (max 1 (min n 2048)) 2048 ≡ true
most n = grind (arith, nat_tests)

root_sized : (scene : Scene) (window : Option (ℕ × ℕ)) (all : Kept) → IsLayout scene.boxes (looks_of scene) window all
    → IfSome window (λ size. is_size size.0 size.1 ≡ true) → is_size (root_size all).0 (root_size all).1 ≡ true
root_sized scene None all laid is =
    let across = ap (λ (s : Span). s.length) laid.root_across in
    let down = ap (λ (s : Span). s.length) laid.root_down in
    ap (λ w. is_size w (span_at all.down 0).length) across
    ∙ (ap (λ h. is_size (root_length None (extent_at all.widths 0)) h) down
    ∙ both _ _ _ _ (least (extent_at all.widths 0).pref) (most (extent_at all.widths 0).pref)
    (least (extent_at all.heights 0).pref) (most (extent_at all.heights 0).pref))
root_sized scene (Some (v, g)) all laid is =
    let across = ap (λ (s : Span). s.length) laid.root_across in
    let down = ap (λ (s : Span). s.length) laid.root_down in
    ap (λ w. is_size w (span_at all.down 0).length) across ∙ (ap (λ h. is_size v h) down ∙ is)

pub sized : (scene : Scene) (window : Option (ℕ × ℕ)) (w h : ℕ) (rects : List Rect) (picture : List Entry)
    → IsFrame scene window w h rects picture → IfSome window (λ size. is_size size.0 size.1 ≡ true)
    → is_size w h ≡ true
sized scene window w h rects picture frame is =
    subst (λ (s : ℕ × ℕ). is_size s.0 s.1 ≡ true) frame.size (root_sized scene window frame.layout frame.laid is)

-- ---- the last frame
equal : (a b c d : ℕ) → (nat_eq a b && nat_eq c d) ≡ true → (a ≡ b) × (c ≡ d)
equal a b c d e = grind (arith, nat_tests)

pub wide : (r : Rendering) (w h : ℕ) → has_size (last_frame r) w h ≡ true → (surface_of r.canvas).width ≡ w
wide r w h = by r.canvas
  where
    by : (canvas : Option Surface)
        → has_size (last_frame (record r { canvas = canvas })) w h ≡ true
        → (surface_of canvas).width ≡ w
    by None e = absurd (true≢false (sym e))
    by (Some s) e = (equal s.width w s.height h e).0

pub high : (r : Rendering) (w h : ℕ) → has_size (last_frame r) w h ≡ true → (surface_of r.canvas).height ≡ h
high r w h = by r.canvas
  where
    by : (canvas : Option Surface)
        → has_size (last_frame (record r { canvas = canvas })) w h ≡ true
        → (surface_of canvas).height ≡ h
    by None e = absurd (true≢false (sym e))
    by (Some s) e = (equal s.width w s.height h e).1

-- ---- damage
pub damage_next : (r : Rendering) (nows : List Entry) (w h : ℕ) → has_size (last_frame r) w h ≡ true
    → damage (Some r.picture) nows w h ≡ frame_damage (last_frame r) nows w h
damage_next r nows w h = by r.canvas
  where
    by : (canvas : Option Surface)
        → has_size (last_frame (record r { canvas = canvas })) w h ≡ true
        → damage (Some r.picture) nows w h
        ≡ frame_damage (last_frame (record r { canvas = canvas })) nows w h
    by None e = absurd (true≢false (sym e))
    by (Some s) e = sym (ap (λ b. damage (cond b (Some r.picture) None) nows w h) e)

-- every rectangle of the damage lies in the window
pub lies : (olds : Option (List Entry)) (nows : List Entry) (rects : List Rect) (v g w h : ℕ) → v ≡ w → g ≡ h
    → rects ≡ damage olds nows w h → list_all (lies_in v g) rects ≡ true
lies olds nows rects v g w h p q is =
    ap (λ n. list_all (lies_in n g) rects) p
    ∙ (ap (λ n. list_all (lies_in w n) rects) q
    ∙ (ap (list_all (lies_in w h)) is ∙ lying olds nows w h))

-- ---- what is shown
pub shown_next : (r : Rendering) (nows : List Entry) (rects : List Rect) (w h : ℕ) (after : Surface) → IsShown r
    → Rises nows → HasDistinctBirths nows → (surface_of r.canvas).width ≡ w → (surface_of r.canvas).height ≡ h
    → rects ≡ damage (Some r.picture) nows w h → IsRepainted (surface_of r.canvas) nows rects after → Shows after nows
shown_next r nows rects w h after shown up births p q is painted =
    let before = surface_of r.canvas in
    following same_outside r.picture nows before after shown.rises up shown.births births shown.shows
    (subst (λ l. IsRepainted before nows l after)
    (is ∙ (ap (λ n. damage (Some r.picture) nows n h) (sym p)
    ∙ ap (λ n. damage (Some r.picture) nows before.width n) (sym q)))
    painted)

pub shown_first : (before after : Surface) (nows : List Entry) (rects : List Rect) (w h : ℕ) → before.width ≡ w
    → before.height ≡ h → rects ≡ damage None nows w h → IsRepainted before nows rects after → Shows after nows
shown_first before after nows rects w h p q is painted =
    shows_anew nows before after
    (subst (λ l. IsRepainted before nows l after)
    (is ∙ (ap (λ n. damage None nows n h) (sym p) ∙ ap (λ n. damage None nows before.width n) (sym q))) painted)

-- ---- what is said of two answers at once
pub both_ok : {T E : Type 0} (r : Result T E) (P : T → Type 0) (Q R : Type 0) → ((x : T) → P x → Q → R) → IfOk r P
    → OnOk r Q → OnOk r R
both_ok (Ok x) P Q R goes one two = goes x one two
both_ok (Err e) P Q R goes one two = tt
