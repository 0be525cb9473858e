-- One timeline among all, as they are seen.
use Rattle.std.proofs.Common.{◌≡◌, ℕ, suc, ◌+◌, ◌<◌, ◌++◌, true, List, [], ◌∷◌, length, map, take, drop, get_or, set, Result, Ok, Err, refl, sym, ◌∙◌, ap, add-one, drop-cons, arith}
use Rattle.std.specs.Prelude.{◌==◌, OnOk, OnErr}
use Rattle.std.proofs.Math.Seq.{map-set_same, take-suc, take-suc-set}
use Rattle.std.proofs.lemmas.Bool.{and_from, eq-eqb}
use Rattle.std.proofs.lemmas.List.{drop-set-lt, get_or-map, length-map, map-append, map-set, set_split}
use Rattle.fx_anim.specs.declared.timeline.Timeline.{Timeline}
use Rattle.fx_keyframes.specs.declared.frames.Frame.{Frame}
use Rattle.fx_anim.specs.Line.{Line, is_same, line_at, put_frame, ticked}
use Rattle.fx_anim.specs.Shown.{line_of}

-- what is seen at a place is what is seen of the timeline there
pub line_at_is : (lines : List Timeline) (id : ℕ) (old d : Timeline) → id < length lines → old ≡ get_or lines id d
    → line_at (map line_of lines) id ≡ line_of old
line_at_is lines id old d within old_is =
    get_or-map line_of lines id d _ within ∙ ap line_of (sym old_is)

-- another timeline in its place
pub set_line : (lines : List Timeline) (id : ℕ) (old new d : Timeline) (f : Line → Line) → id < length lines
    → old ≡ get_or lines id d → line_of new ≡ f (line_of old)
    → map line_of (set lines id new) ≡ set (map line_of lines) id (f (line_at (map line_of lines) id))
set_line lines id old new d f within old_is new_is =
    map-set line_of lines id new
    ∙ ap (λ (line : Line). set (map line_of lines) id line) (new_is ∙ ap f (sym (line_at_is lines id old d within old_is)))

-- the same timeline as it is seen
pub same_line : (lines : List Timeline) (id : ℕ) (old new d : Timeline) → id < length lines
    → old ≡ get_or lines id d → line_of new ≡ line_of old → map line_of (set lines id new) ≡ map line_of lines
same_line lines id old new d within old_is new_is =
    map-set_same line_of lines id new d (new_is ∙ ap line_of old_is)

pub seen_within : (lines : List Timeline) (id : ℕ) → id < length (map line_of lines) → id < length lines
seen_within lines id within = omega (arith, within, length-map lines line_of)

pub on_ok : {T E P Q : Type 0} (r : Result T E) → (P → Q) → OnOk r P → OnOk r Q
on_ok (Ok x) f p = f p
on_ok (Err e) f p = p

pub on_err : {T E P Q : Type 0} (r : Result T E) → (P → Q) → OnErr r P → OnErr r Q
on_err (Ok x) f p = p
on_err (Err e) f p = f p

-- a key frame stands in the place of the first one that is the same
pub put_here : (new frame d : Frame) (frames : List Frame) (place : ℕ) → place < length frames → frame ≡ get_or frames place d
    → frame.at ≡ new.at → frame.name.0 ≡ new.name.0
    → put_frame new frames ≡ take place frames ++ put_frame new (drop place frames)
    → put_frame new frames ≡ set frames place new
put_here new frame d frames place within frame_is at_is name_is so_far =
    let same : is_same (get_or frames place d) new ≡ true =
    rw (← frame_is) (and_from (frame.at == new.at) (frame.name.0 == new.name.0) (eq-eqb frame.at new.at at_is)
    (eq-eqb frame.name.0 new.name.0 name_is)) in
    so_far ∙ (ap (λ (l : List Frame). take place frames ++ put_frame new l) (drop-cons frames place d within)
    ∙ (rw same refl ∙ sym (set_split frames place new within)))

-- time passes for one timeline more
pub next_done : (ms : ℕ) (olds lines : List Timeline) (place : ℕ) (new d : Timeline)
    → place < length lines → length lines ≡ length olds → line_of new ≡ ticked ms (line_of (get_or lines place d))
    → map line_of (take place lines) ≡ map (ticked ms) (map line_of (take place olds))
    → drop place lines ≡ drop place olds
    → map line_of (take (place + 1) (set lines place new)) ≡ map (ticked ms) (map line_of (take (place + 1) olds))
next_done ms olds lines place new d within same_length new_is done rest =
    let heads : get_or lines place d ≡ get_or olds place d =
    ap (λ (l : List Timeline). get_or l 0 d)
    (sym (drop-cons lines place d within) ∙ (rest ∙ drop-cons olds place d (omega (arith, within, same_length)))) in
    let there : line_of new ≡ ticked ms (line_of (get_or olds place d)) =
    new_is ∙ ap (λ (t : Timeline). ticked ms (line_of t)) heads in
    rw (
      add-one place,
      take-suc-set lines place new within,
      take-suc olds place d (omega (arith, within, same_length)),
      map-append line_of (take place lines) (new ∷ []),
      map-append line_of (take place olds) (get_or olds place d ∷ []),
      map-append (ticked ms) (map line_of (take place olds)) (line_of (get_or olds place d) ∷ []),
      done,
      there,
    ) refl

pub rest_stays : (olds lines : List Timeline) (place : ℕ) (new d : Timeline) → place < length lines → length lines ≡ length olds
    → drop place lines ≡ drop place olds → drop (place + 1) (set lines place new) ≡ drop (place + 1) olds
rest_stays olds lines place new d within same_length rest =
    rw (add-one place) (drop-set-lt (suc place) lines place new (omega arith)
    ∙ ap (drop 1) (sym (drop-cons lines place d within)
    ∙ (rest ∙ drop-cons olds place d (omega (arith, within, same_length)))))
