-- What is told, one behind the other, is a stream's parts.
use Rattle.std.proofs.Common.{◌≡◌, ◌<◌, ◌+◌, ◌^◌, ℕ, suc, List, [], ◌∷◌, ◌++◌, length, Option, Some, None, All, append_assoc, append-nil, refl, sym, ap, ◌∙◌, subst, arith}
use Rattle.std.specs.Prelude.{IfSome, codes}
use Rattle.std.specs.List.{flat_map}
use Rattle.std.proofs.lemmas.List.Elements.{All-append, All-cons, All-head, All-nil, All-tail}
use Rattle.fx_damage.specs.Laws.{SameOutside}
use Rattle.fx_delta.specs.Items.{ended, items_text}
use Rattle.fx_delta.specs.Pictures.{Picture, begun, image, no_picture}
use Rattle.fx_delta.specs.Stream.{shown}
use Rattle.fx_delta_laws.specs.Streams.{Frame, IsBetween, IsPart, Part, frame, frame_picture, frames_of, head, line, stream_of}
use Rattle.fx_frame_text.specs.declared.forms.Form.TheVariants.{Text, Delta}
use Rattle.fx_plain_frames.specs.Drawable.{IsDrawable}
use Rattle.fx_plain_steps.specs.Told.{texts_of}
use Rattle.fx_pulse_model.specs.Frames.{Framed}
use Rattle.fx_delta_runs.specs.Frames.{AreLines, IsProper, IsSent, Telling, frame_behind, last_behind, number_behind, part_behind, picture_behind, text_behind, tolds_in}
use Rattle.fx_delta_runs.proofs.FrameLemmas.{sent}

-- a piece of a stream that is these parts, behind a picture, leaves another, and shows so much
record Goes (before : Picture) (stream text : List ℕ) (after : Picture) : Type 0 where
  parts : List Part
  are : All IsPart parts
  streams : (more : List Part) → stream_of before (parts ++ more) ≡ stream ++ stream_of after more
  frames : (more : List Part) → frames_of before (parts ++ more) ≡ text ++ frames_of after more

goes_nothing : (picture : Picture) → Goes picture [] [] picture
goes_nothing picture =
    record { parts = []; are = All-nil IsPart; streams = λ more. refl; frames = λ more. refl }

goes_on : {a b c : Picture} {s t u v : List ℕ} → Goes a s t b → Goes b u v c → Goes a (s ++ u) (t ++ v) c
goes_on {a} {b} {c} {s} {t} {u} {v} first second =
    record {
      parts = first.parts ++ second.parts;
      are = All-append IsPart first.parts second.parts first.are second.are;
      streams = λ more.
          ap (stream_of a) (append_assoc first.parts second.parts more)
          ∙ first.streams (second.parts ++ more)
          ∙ ap (λ (l : List ℕ). s ++ l) (second.streams more)
          ∙ sym (append_assoc s u (stream_of c more));
      frames = λ more.
          ap (frames_of a) (append_assoc first.parts second.parts more)
          ∙ first.frames (second.parts ++ more)
          ∙ ap (λ (l : List ℕ). t ++ l) (second.frames more)
          ∙ sym (append_assoc t v (frames_of c more));
    }

-- ---- lines
goes_lines : (picture : Picture) (lines : List (List ℕ)) → All IsBetween lines
    → Goes picture (flat_map ended lines) (flat_map ended lines) picture
goes_lines picture [] all = goes_nothing picture
goes_lines picture (one ∷ others) all =
    goes_on {s = ended one} {t = ended one} (goes_line one (All-head IsBetween one others all))
    (goes_lines picture others (All-tail IsBetween one others all))
  where
    goes_line : (text : List ℕ) → IsBetween text → Goes picture (ended text) (ended text) picture
    goes_line text is =
        record {
          parts = line text ∷ [];
          are = All-cons IsPart (line text) [] is (All-nil IsPart);
          streams = λ more. refl;
          frames = λ more. refl;
        }

goes_text : (picture : Picture) (text : List ℕ) → AreLines text → Goes picture text text picture
goes_text picture text are =
    subst (λ (l : List ℕ). Goes picture l l picture) (sym are.ended_so) (goes_lines picture are.lines are.between)

-- ---- frames
goes_frame : (number : ℕ) (last : Option Framed) (next : Framed) → IsSent number last next
    → Goes (picture_behind last) (text_behind Delta number last next) (text_behind Text number last next)
    (picture_behind (Some next))
goes_frame number last next is =
    let before : Picture = picture_behind last in
    let part : Frame = part_behind number last next in
    let written : List ℕ =
    head part ++ (items_text (begun part.width part.height before) part.items ++ ended (codes "endframe")) in
    let shows : List ℕ = head part ++ image (frame_picture before part) in
    record {
      parts = frame part ∷ [];
      are = All-cons IsPart (frame part) [] is.good (All-nil IsPart);
      streams = λ more.
          ap (λ (p : Picture). written ++ stream_of p more) is.shown
          ∙ ap (λ (l : List ℕ). l ++ stream_of (picture_behind (Some next)) more)
          (sym (is.stream ∙ append-nil written));
      frames = λ more.
          ap (λ (p : Picture). shows ++ frames_of p more) is.shown
          ∙ ap (λ (l : List ℕ). l ++ frames_of (picture_behind (Some next)) more)
          (sym (is.frames ∙ append-nil shows));
    }

goes_drawn : SameOutside → (number : ℕ) (last next : Option Framed) → number + 1 < 2 ^ 64 → IfSome last IsDrawable
    → IfSome next IsDrawable
    → Goes (picture_behind last) (frame_behind Delta number last next) (frame_behind Text number last next)
    (picture_behind (last_behind last next))
goes_drawn outside number last None small old now = goes_nothing (picture_behind last)
goes_drawn outside number last (Some next) small old now =
    goes_frame (number + 1) last next (sent outside (number + 1) last next (omega arith) small old now)

-- ---- all that is told
drawable_behind : (last next : Option Framed) → IfSome last IsDrawable → IfSome next IsDrawable
    → IfSome (last_behind last next) IsDrawable
drawable_behind last None old now = old
drawable_behind last (Some next) old now = now

number_below : (number count : ℕ) (next : Option Framed) → number + suc count < 2 ^ 64
    → number_behind number next + count < 2 ^ 64
number_below number count None h = omega (arith, h)
number_below number count (Some next) h = omega (arith, h)

-- the last frame of all
last_of : Option Framed → List Telling → Option Framed
last_of last [] = last
last_of last (telling ∷ more) = last_of (last_behind last telling.frame) more

goes_all : SameOutside → (number : ℕ) (last : Option Framed) (tellings : List Telling)
    → number + length tellings < 2 ^ 64 → IfSome last IsDrawable → All IsProper tellings
    → Goes (picture_behind last) (texts_of (tolds_in Delta number last tellings))
    (texts_of (tolds_in Text number last tellings)) (picture_behind (last_of last tellings))
unfolding texts_of last_of
goes_all outside number last [] small old all = goes_nothing (picture_behind last)
goes_all outside number last (telling ∷ more) small old all =
    let is : IsProper telling = All-head IsProper telling more all in
    let next : Option Framed = last_behind last telling.frame in
    let count : ℕ = number_behind number telling.frame in
    goes_on {s = frame_behind Delta number last telling.frame ++ telling.text}
    {t = frame_behind Text number last telling.frame ++ telling.text}
    (goes_on {s = frame_behind Delta number last telling.frame} {t = frame_behind Text number last telling.frame}
    (goes_drawn outside number last telling.frame (omega (arith, small)) old is.frame)
    (goes_text (picture_behind next) telling.text is.text))
    (goes_all outside count next more (number_below number (length more) telling.frame small)
    (drawable_behind last telling.frame old is.frame) (All-tail IsProper telling more all))

-- ---- what is shown of it
-- a viewer shows the parts that were written
abbrev pub ViewersShow : Type 0
ViewersShow = (parts : List Part) → All IsPart parts
    → shown (stream_of no_picture parts) ≡ record { bytes = frames_of no_picture parts; bad = None }

pub shown_all : SameOutside → ViewersShow → (warnings : List ℕ) (tellings : List Telling) → AreLines warnings
    → length tellings < 2 ^ 64 → All IsProper tellings
    → shown (warnings ++ texts_of (tolds_in Delta 0 None tellings))
    ≡ record { bytes = warnings ++ texts_of (tolds_in Text 0 None tellings); bad = None }
shown_all outside viewer warnings tellings lines small all =
    let stream : List ℕ = warnings ++ texts_of (tolds_in Delta 0 None tellings) in
    let text : List ℕ = warnings ++ texts_of (tolds_in Text 0 None tellings) in
    let goes : Goes no_picture stream text (picture_behind (last_of None tellings)) =
    goes_on {s = warnings} {t = warnings} (goes_text no_picture warnings lines)
    (goes_all outside 0 None tellings (omega (arith, small)) tt all) in
    let streams : stream_of no_picture goes.parts ≡ stream =
    ap (stream_of no_picture) (sym (append-nil goes.parts)) ∙ goes.streams [] ∙ append-nil stream in
    let frames : frames_of no_picture goes.parts ≡ text =
    ap (frames_of no_picture) (sym (append-nil goes.parts)) ∙ goes.frames [] ∙ append-nil text in
    ap shown (sym streams) ∙ viewer goes.parts goes.are
    ∙ ap (λ (l : List ℕ). record { bytes = l; bad = None }) frames

pub shown_frames : SameOutside → ViewersShow → (tellings : List Telling) → All IsProper tellings
    → length tellings < 2 ^ 64
    → shown (texts_of (tolds_in Delta 0 None tellings))
    ≡ record { bytes = texts_of (tolds_in Text 0 None tellings); bad = None }
shown_frames outside viewer tellings all small =
    shown_all outside viewer [] tellings (record { lines = []; ended_so = refl; between = All-nil IsBetween }) small all
