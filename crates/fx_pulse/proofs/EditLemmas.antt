-- Edits of a picture, made for one node after another.
use Rattle.std.proofs.Common.{refl, sym, ap, subst, ◌∙◌, ◌≡◌, ◌⊎◌, ◌||◌, ◌==◌, ℕ, zero, suc, ◌+◌, ◌-◌, ◌<◌, ◌++◌, Bool, true, false, cond, List, [], ◌∷◌, get_or, length, set, inl, inr, arith, zero-add, append-nil}
use Rattle.std.specs.List.{AllZip}
use Rattle.std.proofs.lemmas.Bool.{cases_lt, true≢false}
use Rattle.std.proofs.lemmas.Bool.Decides.{Decides-eqb}
use Rattle.std.proofs.lemmas.List.{get_or-set_same, get_or-set_other, length-append, map-append}
use Rattle.std.proofs.Math.ListN.{length-set}
use Rattle.fx_damage.specs.Births.{AllAbove, RisesStrictly, is_among}
use Rattle.fx_damage.specs.Edits.{AreEdits, edited, places_of}
use Rattle.fx_damage.specs.declared.edits.Edit.{Edit}
use Rattle.fx_layout.specs.Updates.{rect_at}
use Rattle.fx_layout_sweeps.specs.Marks.{flag_in}
use Rattle.fx_layout_sweeps.specs.Nodes.{look_at, node_at, parents}
use Rattle.fx_kinds.specs.declared.facts.BoxFacts.{BoxFacts}
use Rattle.fx_look.specs.declared.looks.Look.{Look}
use Rattle.fx_base.specs.declared.geometry.Rect.{Rect}
use Rattle.fx_picture.specs.declared.entries.Entry.{Entry}
use Rattle.fx_shapes.specs.Drawings.{IsDrawing}
use Rattle.fx_pulse_model.specs.Lines.{path_of}
use Rattle.fx_pulse_model.specs.Pictures.{Drawn, IsEntry, IsPicture, is_disabled, shown_places, shows, text_of}
use Rattle.fx_pulse.specs.Drawing.{shown_below}
use Rattle.fx_pulse.specs.Editing.{AreLast, IsAdded, IsEditedUpTo}
use Rattle.fx_pulse_touched.specs.Marks.{told}
use Rattle.fx_pulse_touched.proofs.ToldLemmas.{told_at}
use Rattle.fx_pulse.proofs.EntryLemmas.{below_more}

-- ---- pairs of two lists
pub zip_long : {A B : Type 0} (R : A → B → Type 0) (xs : List A) (ys : List B) → AllZip R xs ys → length ys ≡ length xs
zip_long R [] [] zip = refl
zip_long R [] (y ∷ ys) zip = absurd zip
zip_long R (x ∷ xs) [] zip = absurd zip
zip_long R (x ∷ xs) (y ∷ ys) zip = ap (λ n. suc n) (zip_long R xs ys zip.1)

pub zip_at : {A B : Type 0} (R : A → B → Type 0) (xs : List A) (ys : List B) (i : ℕ) (a : A) (b : B) → AllZip R xs ys
    → i < length xs → R (get_or xs i a) (get_or ys i b)
zip_at R [] ys i a b zip within = absurd (omega (arith, within))
zip_at R (x ∷ xs) [] i a b zip within = absurd zip
zip_at R (x ∷ xs) (y ∷ ys) zero a b zip within = zip.0
zip_at R (x ∷ xs) (y ∷ ys) (suc i) a b zip within = zip_at R xs ys i a b zip.1 (omega (arith, within))

pub zip_from : {A B : Type 0} (R : A → B → Type 0) (xs : List A) (ys : List B) (a : A) → length ys ≡ length xs
    → ((i : ℕ) → i < length xs → (b : B) → R (get_or xs i a) (get_or ys i b)) → AllZip R xs ys
zip_from R [] [] a long each = tt
zip_from R [] (y ∷ ys) a long each = absurd (omega (arith, long))
zip_from R (x ∷ xs) [] a long each = absurd (omega (arith, long))
zip_from R (x ∷ xs) (y ∷ ys) a long each = (
  each zero (omega arith) y,
  zip_from R xs ys a (omega (arith, long)) (λ i within b. each (suc i) (omega (arith, within)) b),
)

-- ---- the nodes that show
assoc : {A : Type 0} (xs ys zs : List A) → (xs ++ ys) ++ zs ≡ xs ++ (ys ++ zs)
assoc [] ys zs = refl
assoc (x ∷ xs) ys zs = ap (λ l. x ∷ l) (assoc xs ys zs)

front : (d : Drawn) (m j : ℕ) → (rest : List ℕ) × (shown_below d (j + m) ≡ shown_below d m ++ rest)
front d m zero = ([], ap (shown_below d) (zero-add m) ∙ sym (append-nil (shown_below d m)))
front d m (suc j) =
    let before = front d m j in
    let more = cond (shows d (j + m)) ((j + m) ∷ []) [] in
    let next : suc j + m ≡ (j + m) + 1 = omega arith in (
      before.0 ++ more,
      ap (shown_below d) next
          ∙ (below_more d (j + m) ∙ (ap (λ l. l ++ more) before.1 ∙ assoc (shown_below d m) before.0 more)),
    )

at_end : {A : Type 0} (xs : List A) (y : A) (ys : List A) (d : A) → get_or (xs ++ y ∷ ys) (length xs) d ≡ y
at_end [] y ys d = refl
at_end (x ∷ xs) y ys d = at_end xs y ys d

-- how many nodes show before one that shows
pub record IsNext (d : Drawn) (k : ℕ) : Type 0 where
  pub here : get_or (shown_places d) (length (shown_below d k)) 0 ≡ k
  pub within : length (shown_below d k) < length (shown_places d)
  pub more : length (shown_below d (k + 1)) ≡ length (shown_below d k) + 1

pub next_of : (d : Drawn) (k : ℕ) → k < length d.boxes → shows d k ≡ true → IsNext d k
next_of d k less shown =
    let before = shown_below d k in
    let one : shown_below d (k + 1) ≡ before ++ k ∷ [] =
    below_more d k ∙ ap (λ b. before ++ cond b (k ∷ []) []) shown in
    let all = front d (k + 1) (length d.boxes - (k + 1)) in
    let is : (length d.boxes - (k + 1)) + (k + 1) ≡ length d.boxes = omega (arith, less) in
    let whole : shown_places d ≡ before ++ k ∷ all.0 =
    ap (shown_below d) (sym is) ∙ (all.1 ∙ (ap (λ l. l ++ all.0) one ∙ assoc before (k ∷ []) all.0)) in
    let long : length (shown_places d) ≡ length before + length (k ∷ all.0) =
    ap length whole ∙ length-append before (k ∷ all.0) in
    record {
      here = ap (λ l. get_or l (length before) 0) whole ∙ at_end before k all.0 0;
      within = omega (arith, long);
      more = ap length one ∙ length-append before (k ∷ []);
    }

pub skipped : (d : Drawn) (k : ℕ) → shows d k ≡ false → length (shown_below d (k + 1)) ≡ length (shown_below d k)
skipped d k hidden =
    ap length (below_more d k ∙ (ap (λ b. shown_below d k ++ cond b (k ∷ []) []) hidden ∙ append-nil (shown_below d k)))

-- ---- edits
pub long_edited : (es : List Edit) (xs : List Entry) → length (edited es xs) ≡ length xs
long_edited [] xs = refl
long_edited (e ∷ es) xs = long_edited es (set xs e.place e.entry) ∙ length-set xs e.place e.entry

among_head : (p : ℕ) (ps : List ℕ) → is_among (p ∷ ps) p ≡ true
among_head p ps = ap (λ b. b || is_among ps p) ((Decides-eqb p p).1 refl)

among_tail : (p : ℕ) (ps : List ℕ) (i : ℕ) → is_among ps i ≡ true → is_among (p ∷ ps) i ≡ true
among_tail p ps i is = by (p == i)
  where
    by : (b : Bool) → (b || is_among ps i) ≡ true
    by true = refl
    by false = is

-- a place that is above those of all edits keeps what stood there
free_edited : (es : List Edit) (xs : List Entry) (k : ℕ) → ((i : ℕ) → is_among (places_of es) i ≡ true → i < k)
    → (d : Entry) → get_or (edited es xs) k d ≡ get_or xs k d
free_edited [] xs k below d = refl
free_edited (e ∷ es) xs k below d =
    let less = below e.place (among_head e.place (places_of es)) in
    free_edited es (set xs e.place e.entry) k (λ i is. below i (among_tail e.place (places_of es) i is)) d
    ∙ get_or-set_other xs e.place k e.entry d (λ q. absurd (omega (arith, less, q)))

pub edited_more : (es : List Edit) (e : Edit) (xs : List Entry) → edited (es ++ e ∷ []) xs ≡ set (edited es xs) e.place e.entry
edited_more [] e xs = refl
edited_more (f ∷ es) e xs = edited_more es e (set xs f.place f.entry)

above_more : (p : ℕ) (ps : List ℕ) (k : ℕ) → AllAbove p ps → p < k → AllAbove p (ps ++ k ∷ [])
above_more p [] k above less = (less, tt)
above_more p (q ∷ ps) k above less = (above.0, above_more p ps k above.1 less)

rises_more : (ps : List ℕ) (k : ℕ) → RisesStrictly ps → ((i : ℕ) → is_among ps i ≡ true → i < k)
    → RisesStrictly (ps ++ k ∷ [])
rises_more [] k rise below = (tt, tt)
rises_more (p ∷ ps) k rise below = (
  above_more p ps k rise.0 (below p (among_head p ps)),
  rises_more ps k rise.1 (λ i is. below i (among_tail p ps i is)),
)

among_more : (ps : List ℕ) (k i : ℕ) → is_among (ps ++ k ∷ []) i ≡ true → (is_among ps i ≡ true) ⊎ (k ≡ i)
among_more [] k i is = by (k == i) refl is
  where
    by : (b : Bool) → (k == i) ≡ b → (b || false) ≡ true → (is_among [] i ≡ true) ⊎ (k ≡ i)
    by true e t = inr ((Decides-eqb k i).0 e)
    by false e t = absurd (true≢false (sym t))
among_more (p ∷ ps) k i is = by (p == i) (among_more ps k i) is
  where
    by : (b : Bool) → (is_among (ps ++ k ∷ []) i ≡ true → (is_among ps i ≡ true) ⊎ (k ≡ i))
        → (b || is_among (ps ++ k ∷ []) i) ≡ true → ((b || is_among ps i) ≡ true) ⊎ (k ≡ i)
    by true rest t = inl refl
    by false rest t = rest t

pub edit_skip : (d : Drawn) (olds : List Entry) (k : ℕ) (es : List Edit) (next : ℕ) → shows d k ≡ false
    → IsEditedUpTo d olds k es next → IsEditedUpTo d olds (k + 1) es next
edit_skip d olds k es next hidden so =
    record { counted = so.counted ∙ sym (skipped d k hidden); within = so.within; made = so.made }

wider : (es : List Edit) (n : ℕ) → AreEdits es n → AreEdits es (n + 1)
wider es n are = record {
  rise = are.rise;
  within = λ k is. (let less = are.within k is in omega (arith, less));
}

pub edit_keep : (d : Drawn) (olds : List Entry) (k : ℕ) (es : List Edit) (next : ℕ) → k < length d.boxes
    → shows d k ≡ true → IsEditedUpTo d olds k es next → ((e : Entry) → IsEntry d k (get_or olds next e))
    → IsEditedUpTo d olds (k + 1) es (next + 1)
edit_keep d olds k es next less shown so stays =
    let is = next_of d k less shown in
    record {
      counted = ap (λ n. n + 1) so.counted ∙ sym is.more;
      within = wider es next so.within;
      made = λ i below e. elim (cases_lt i next) [
        | inl before ↦ so.made i before e
        | inr last ↦ (let here : next ≡ i = omega (arith, below, last) in
            let place : get_or (shown_places d) next 0 ≡ k = ap (λ n. get_or (shown_places d) n 0) so.counted ∙ is.here in
            subst (λ j. IsEntry d (get_or (shown_places d) j 0) (get_or (edited es olds) j e)) here
            (subst (λ j. IsEntry d j (get_or (edited es olds) next e)) (sym place)
            (subst (IsEntry d k) (sym (free_edited es olds next so.within.within e)) (stays e))))
      ];
    }

pub edit_put : (d : Drawn) (olds : List Entry) (k : ℕ) (es : List Edit) (next : ℕ) (f : Edit) → k < length d.boxes
    → shows d k ≡ true → IsEditedUpTo d olds k es next → next < length olds → f.place ≡ next → IsEntry d k f.entry
    → IsEditedUpTo d olds (k + 1) (es ++ f ∷ []) (next + 1)
edit_put d olds k es next f less shown so there at made =
    let is = next_of d k less shown in
    let nows : edited (es ++ f ∷ []) olds ≡ set (edited es olds) next f.entry =
    edited_more es f olds ∙ ap (λ n. set (edited es olds) n f.entry) at in
    let places : places_of (es ++ f ∷ []) ≡ places_of es ++ next ∷ [] =
    map-append (λ (e : Edit). e.place) es (f ∷ []) ∙ ap (λ n. places_of es ++ n ∷ []) at in
    record {
      counted = ap (λ n. n + 1) so.counted ∙ sym is.more;
      within = record {
        rise = subst RisesStrictly (sym places) (rises_more (places_of es) next so.within.rise so.within.within);
        within = λ j among. elim (among_more (places_of es) next j (sym (ap (λ ps. is_among ps j) places) ∙ among)) [
          | inl old ↦ (let below = so.within.within j old in omega (arith, below))
          | inr new ↦ omega (arith, new)
        ];
      };
      made = λ i below e. elim (cases_lt i next) [
        | inl before ↦ subst (IsEntry d (get_or (shown_places d) i 0))
            (sym (ap (λ l. get_or l i e) nows
            ∙ get_or-set_other (edited es olds) next i f.entry e (λ q. absurd (omega (arith, before, q)))))
            (so.made i before e)
        | inr last ↦ (let here : next ≡ i = omega (arith, below, last) in
            let place : get_or (shown_places d) next 0 ≡ k = ap (λ n. get_or (shown_places d) n 0) so.counted ∙ is.here in
            subst (λ j. IsEntry d (get_or (shown_places d) j 0) (get_or (edited (es ++ f ∷ []) olds) j e)) here
            (subst (λ j. IsEntry d j (get_or (edited (es ++ f ∷ []) olds) next e)) (sym place)
            (subst (IsEntry d k)
            (sym (ap (λ l. get_or l next e) nows
            ∙ get_or-set_same (edited es olds) next f.entry e (omega (arith, there, long_edited es olds))))
            made)))
      ];
    }

pub edit_added : (d : Drawn) (olds : List Entry) (k : ℕ) (es : List Edit) (next : ℕ) (more : List Edit) → k < length d.boxes
    → shows d k ≡ true → IsEditedUpTo d olds k es next → next < length olds → IsAdded d k next es more
    → IsEditedUpTo d olds (k + 1) more (next + 1)
edit_added d olds k es next more less shown so there one =
    subst (λ l. IsEditedUpTo d olds (k + 1) l (next + 1)) (sym one.added)
    (edit_put d olds k es next (record { place = next; entry = one.entry }) less shown so there refl one.is)

pub edit_all : (d : Drawn) (olds : List Entry) (es : List Edit) (next : ℕ) → length olds ≡ length (shown_places d)
    → IsEditedUpTo d olds (length d.boxes) es next
    → AreEdits es (length olds) × AllZip (IsEntry d) (shown_places d) (edited es olds)
edit_all d olds es next long so =
    let all : next ≡ length olds = so.counted ∙ sym long in (
      subst (AreEdits es) all so.within,
      zip_from (IsEntry d) (shown_places d) (edited es olds) 0 (long_edited es olds ∙ long)
          (λ i within e. so.made i (omega (arith, within, all, long)) e),
    )

-- ---- the entry of the last picture that stands there
there : {A : Type 0} (xs : List A) (k : ℕ) (d e : A) → k < length xs → get_or xs k d ≡ get_or xs k e
there [] k d e within = absurd (omega (arith, within))
there (x ∷ xs) zero d e within = refl
there (x ∷ xs) (suc k) d e within = there xs k d e (omega (arith, within))

pub record IsOld (d : Drawn) (marks : List Bool) (olds : List Entry) (k count : ℕ) : Type 0 where
  pub within : count < length olds
  pub last : Drawn
  pub entry : (x : Entry) → IsEntry last k (get_or olds count x)
  pub hung : parents last.boxes ≡ parents d.boxes
  pub same : flag_in marks k ≡ false
      → (node_at last.boxes k ≡ node_at d.boxes k) × (look_at last.looks k ≡ look_at d.looks k)

pub old_at : (d : Drawn) (marks : List Bool) (olds : List Entry) (k : ℕ) (es : List Edit) (count : ℕ)
    → k < length d.boxes → shows d k ≡ true → AreLast d marks olds → IsEditedUpTo d olds k es count
    → IsOld d marks olds k count
old_at d marks olds k es count less shown are so =
    let is = next_of d k less shown in
    let long = zip_long (IsEntry are.last) (shown_places are.last) olds are.picture in
    let many = ap length are.shown in
    let counted = so.counted in
    let inside = is.within in
    let place : get_or (shown_places are.last) count 0 ≡ k =
    ap (λ ps. get_or ps count 0) are.shown ∙ (ap (λ n. get_or (shown_places d) n 0) counted ∙ is.here) in
    record {
      within = omega (arith, long, many, counted, inside);
      last = are.last;
      entry = λ x. subst (λ j. IsEntry are.last j (get_or olds count x)) place
          (zip_at (IsEntry are.last) (shown_places are.last) olds count 0 x are.picture
          (omega (arith, many, counted, inside)));
      hung = are.hung;
      same = are.same k less;
    }

pub old_path : (d : Drawn) (marks : List Bool) (olds : List Entry) (k count : ℕ) (x : Entry)
    → IsOld d marks olds k count → (get_or olds count x).path ≡ path_of (parents d.boxes) k
old_path d marks olds k count x old = (old.entry x).path ∙ ap (λ ups. path_of ups k) old.hung

stays : (d : Drawn) (marks : List Bool) (olds : List Entry) (k count : ℕ) (x : Entry) → IsOld d marks olds k count
    → flag_in marks k ≡ false → (get_or olds count x).rect ≡ rect_at d.rects k
    → (get_or olds count x).disabled ≡ is_disabled d k → IsEntry d k (get_or olds count x)
stays d marks olds k count x old free placed off =
    let e = get_or olds count x in
    let was = old.entry x in
    let node = (old.same free).0 in
    let drawing : IsDrawing (look_at d.looks k) (rect_at d.rects k) (text_of (node_at d.boxes k)) e.shapes =
    subst (λ (l : Look). IsDrawing l (rect_at d.rects k) (text_of (node_at d.boxes k)) e.shapes) (old.same free).1
    (subst (λ (r : Rect). IsDrawing (look_at old.last.looks k) r (text_of (node_at d.boxes k)) e.shapes)
    (sym was.rect ∙ placed)
    (subst (λ (n : BoxFacts). IsDrawing (look_at old.last.looks k) (rect_at old.last.rects k) (text_of n) e.shapes) node
    was.shapes)) in
    record {
      key = was.key ∙ ap (λ (n : BoxFacts). n.key) node;
      path = old_path d marks olds k count x old;
      rect = placed;
      shapes = drawing;
      disabled = off;
      focusable = was.focusable ∙ ap (λ (n : BoxFacts). n.focus_traversable) node;
    }

pub edit_stays : (d : Drawn) (marks : List Bool) (olds : List Entry) (k : ℕ) (es : List Edit) (count : ℕ) (x : Entry)
    → k < length d.boxes → shows d k ≡ true → IsOld d marks olds k count → IsEditedUpTo d olds k es count
    → x ≡ get_or olds count x → flag_in marks k ≡ false → x.rect ≡ rect_at d.rects k → x.disabled ≡ is_disabled d k
    → IsEditedUpTo d olds (k + 1) es (count + 1)
edit_stays d marks olds k es count x less shown old so is free placed off =
    edit_keep d olds k es count less shown so
    (λ e. subst (IsEntry d k) (there olds count x e old.within)
    (stays d marks olds k count x old free (ap (λ (f : Entry). f.rect) (sym is) ∙ placed)
    (ap (λ (f : Entry). f.disabled) (sym is) ∙ off)))

pub shown_at : (d : Drawn) (flags : List Bool) (k : ℕ) (b : Bool) → k < length d.boxes
    → flags ≡ told (shows d) (length d.boxes) → get_or flags k false ≡ b → shows d k ≡ b
shown_at d flags k b less are is =
    sym (told_at (shows d) (length d.boxes) k false less) ∙ (ap (λ l. get_or l k false) (sym are) ∙ is)

pub disabled_at : (d : Drawn) (flags : List Bool) (k : ℕ) (b : Bool) → k < length d.boxes
    → flags ≡ told (is_disabled d) (length d.boxes) → b ≡ get_or flags k false → b ≡ is_disabled d k
disabled_at d flags k b less are is =
    is ∙ (ap (λ l. get_or l k false) are ∙ told_at (is_disabled d) (length d.boxes) k false less)

pub edit_last : (d : Drawn) (marks : List Bool) (olds : List Entry) (es : List Edit) (count : ℕ) → AreLast d marks olds
    → IsEditedUpTo d olds (length d.boxes) es count → AreEdits es (length olds) × IsPicture d (edited es olds)
edit_last d marks olds es count are so =
    edit_all d olds es count
    (zip_long (IsEntry are.last) (shown_places are.last) olds are.picture ∙ ap length are.shown) so
