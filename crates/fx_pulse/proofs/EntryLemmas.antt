-- Entries are added one node after another.
use Rattle.std.proofs.Common.{refl, sym, ap, subst, ◌∙◌, ◌≡◌, ℕ, ◌+◌, ◌++◌, Bool, true, false, cond, List, [], ◌∷◌, filter, map, zero-add}
use Rattle.std.proofs.Common.{get_or, length, ◌<◌, arith}
use Rattle.std.proofs.lemmas.Grind.{common_steps}
use Rattle.std.specs.List.{AllZip, range_with_len}
use Rattle.std.proofs.lemmas.List.{append-nil}
use Rattle.std.proofs.lemmas.List.FromFn.{filter_of_map_range_with_len_more}
use Rattle.fx_kinds.specs.declared.facts.BoxFacts.{BoxFacts}
use Rattle.fx_look.specs.declared.looks.Look.{Look}
use Rattle.fx_look.specs.Looks.{initial_look}
use Rattle.fx_layout.specs.Updates.{rect_at}
use Rattle.fx_layout_sweeps.specs.Nodes.{look_at, no_node, node_at, parents}
use Rattle.fx_picture.specs.declared.entries.Entry.{Entry}
use Rattle.fx_picture.specs.declared.shapes.Shape.{Shape}
use Rattle.fx_shapes.specs.Drawings.{IsDrawing}
use Rattle.fx_pulse_model.specs.Lines.{path_of}
use Rattle.fx_pulse_model.specs.Pictures.{Drawn, IsEntry, is_disabled, shows, text_of}
use Rattle.fx_pulse.specs.Drawing.{shown_below}

zip_end : {A B : Type 0} (R : A → B → Type 0) (xs : List A) (ys : List B) (x : A) (y : B) → AllZip R xs ys → R x y
    → AllZip R (xs ++ x ∷ []) (ys ++ y ∷ [])
zip_end R [] [] x y zip last = (last, tt)
zip_end R [] (w ∷ ws) x y zip last = absurd zip
zip_end R (v ∷ vs) [] x y zip last = absurd zip
zip_end R (v ∷ vs) (w ∷ ws) x y (first, zip) last = (first, zip_end R vs ws x y zip last)

same : (ks : List ℕ) → map (λ k. k) ks ≡ ks
same [] = refl
same (k ∷ ks) = ap (λ l. k ∷ l) (same ks)

pub below_more : (d : Drawn) (n : ℕ) → shown_below d (n + 1) ≡ shown_below d n ++ cond (shows d n) (n ∷ []) []
below_more d n =
    sym (ap (filter (shows d)) (same (range_with_len 0 (n + 1))))
    ∙ (filter_of_map_range_with_len_more (shows d) (λ k. k) 0 n n (zero-add n)
    ∙ ap (λ l. filter (shows d) l ++ cond (shows d n) (n ∷ []) []) (same (range_with_len 0 n)))

pub entries_skip : (d : Drawn) (n : ℕ) (es : List Entry) → shows d n ≡ false
    → AllZip (IsEntry d) (shown_below d n) es → AllZip (IsEntry d) (shown_below d (n + 1)) es
entries_skip d n es hidden zip =
    subst (λ ks. AllZip (IsEntry d) ks es)
    (sym (below_more d n ∙ (ap (λ b. shown_below d n ++ cond b (n ∷ []) []) hidden ∙ append-nil (shown_below d n)))) zip

pub entries_more : (d : Drawn) (n : ℕ) (es : List Entry) (e : Entry) → shows d n ≡ true
    → AllZip (IsEntry d) (shown_below d n) es → IsEntry d n e
    → AllZip (IsEntry d) (shown_below d (n + 1)) (es ++ e ∷ [])
entries_more d n es e shown zip is =
    subst (λ ks. AllZip (IsEntry d) ks (es ++ e ∷ []))
    (sym (below_more d n ∙ ap (λ b. shown_below d n ++ cond b (n ∷ []) []) shown))
    (zip_end (IsEntry d) (shown_below d n) es n e zip is)

-- what stands at a place doesn't hang on what is said past the end
there : {A : Type 0} (xs : List A) (k : ℕ) (d e : A) → k < length xs → get_or xs k d ≡ get_or xs k e
there xs k d e within = grind (arith, common_steps)

pub entry_is : (d : Drawn) (k : ℕ) (node : BoxFacts) (look : Look) (path : List ℕ) (shapes : List Shape) (off : Bool)
    → k < length d.boxes → k < length d.looks → path ≡ path_of (parents d.boxes) k
    → IsDrawing (get_or d.looks k look) (rect_at d.rects k) (text_of (get_or d.boxes k node)) shapes
    → off ≡ is_disabled d k
    → IsEntry d k (record {
      key = (get_or d.boxes k node).key;
      path = path;
      rect = rect_at d.rects k;
      shapes = shapes;
      disabled = off;
      focusable = (get_or d.boxes k node).focus_traversable;
    })
entry_is d k node look path shapes off within looked is drawing marked =
    let here : get_or d.boxes k node ≡ node_at d.boxes k = there d.boxes k node no_node within in
    record {
      key = ap (λ (n : BoxFacts). n.key) here;
      path = is;
      rect = refl;
      shapes = subst (λ (n : BoxFacts). IsDrawing (look_at d.looks k) (rect_at d.rects k) (text_of n) shapes) here
          (subst (λ (l : Look). IsDrawing l (rect_at d.rects k) (text_of (get_or d.boxes k node)) shapes)
          (there d.looks k look (initial_look 0) looked) drawing);
      disabled = marked;
      focusable = ap (λ (n : BoxFacts). n.focus_traversable) here;
    }
