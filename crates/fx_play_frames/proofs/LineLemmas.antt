-- What a line meets of the last frame, and what a frame tells of the sizes that it published.
use Rattle.std.proofs.Common.{◌≡◌, ◌∙◌, ◌++◌, ℕ, Bool, false, true, List, [], Option, Some, None, Bor, Result, Ok, Err, OnOk, is_some, ap, subst, sym}
use Rattle.std.specs.Option.{option_copied, option_map}
use Rattle.fx_base.specs.declared.keys.Name.{Name}
use Rattle.fx_canvas.specs.Surfaces.{Surface}
use Rattle.fx_picture.specs.declared.entries.Entry.{Entry}
use Rattle.fx_plain_frames.specs.Games.{entries_in}
use Rattle.fx_plain_frames.specs.Pulses.{course_behind}
use Rattle.fx_plain_steps.specs.Courses.{Course, begun}
use Rattle.fx_plain_steps.specs.Lines.{heard_in}
use Rattle.fx_play_steps.specs.Traces.{course_of}
use Rattle.fx_play_steps.specs.declared.traces.Trace.{Trace}
use Rattle.fx_pulse_model.specs.Frames.{Framed}
use Rattle.fx_stage_model.specs.World.{World}
use Rattle.fx_stage_text.specs.Printing.{notice_lines}
use Rattle.fx_store_model.specs.declared.changes.Notices.{Notices}

IsFact : Bool → Type 0
IsFact true = Unit {0}
IsFact false = ⊥

-- a frame with this picture, if there is a canvas
abbrev pub frame_on : Option Surface → List Entry → Option Framed
frame_on canvas picture =
    option_map (λ (s : Surface). record { width = s.width; height = s.height; picture = picture }) canvas

pub before_frames : (lent : Option (Bor Surface)) (canvas : Option Surface) (picture : List Entry) → option_copied lent ≡ canvas
    → is_some lent ≡ false → [] ≡ entries_in (frame_on canvas picture)
unfolding IsFact
before_frames None canvas picture same none = ap (λ (c : Option Surface). entries_in (frame_on c picture)) same
before_frames (Some lent) canvas picture same none = absurd (subst IsFact none tt)

pub behind_frames : (lent : Option (Bor Surface)) (canvas : Option Surface) (picture : List Entry) → option_copied lent ≡ canvas
    → is_some lent ≡ true → picture ≡ entries_in (frame_on canvas picture)
unfolding IsFact
behind_frames None canvas picture same some = absurd (subst IsFact (sym some) tt)
behind_frames (Some lent) canvas picture same some = ap (λ (c : Option Surface). entries_in (frame_on c picture)) same

-- the trace of a frame, once it told of the sizes
pub told_fresh : (world : World) (before now : Trace) (notices : Notices) → ((w : World) → course_of w before ≡ begun w)
    → now.text.items ≡ before.text.items ++ notice_lines world.names.written notices
    → now.heard.items ≡ before.heard.items ++ heard_in notices → now.consumed ≡ before.consumed
    → course_of world now ≡ course_behind world notices
told_fresh world before now notices fresh text heard consumed =
    let is = fresh world in
    ap (λ (t : List ℕ). record (course_of world now) { text = t })
    (text ∙ ap (λ (c : Course). c.text ++ notice_lines world.names.written notices) is)
    ∙ ap (λ (h : List (Name × ℕ)). record (course_of world now) { text = notice_lines world.names.written notices; heard = h })
    (heard ∙ ap (λ (c : Course). c.heard ++ heard_in notices) is)
    ∙ ap (λ (b : Bool). record (course_behind world notices) { consumed = b })
    (consumed ∙ ap (λ (c : Course). c.consumed) is)

-- what follows where a call succeeds
pub on_ok : {T E : Type 0} {A B : Type 0} (r : Result T E) → OnOk r A → (A → B) → OnOk r B
on_ok (Ok t) a more = more a
on_ok (Err e) a more = tt
