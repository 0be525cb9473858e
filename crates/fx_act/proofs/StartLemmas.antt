-- Event lines: what they start is sent, or a word refuses them.
use Rattle.std.proofs.Common.{◌≡◌, ◌≤◌, ◌+◌, inl, inr, refl, ℕ, Bool, List, [], Vec, Result, Ok, Err, OnOk, ap, subst, sym}
use Rattle.std.specs.Global.{Global}
use Rattle.std.specs.declared.alloc.AllocError.{AllocError}
use Rattle.fx_event_lines.specs.Started.{Started}
use Rattle.fx_event_lines.specs.Starting.{IsStarted as HasStarted, started}
use Rattle.fx_event_lines.specs.declared.events.Event.{Event}
use Rattle.fx_plain_dispatch.specs.Costs.{IsDoneWithin}
use Rattle.fx_plain_dispatch.specs.Sending.{AreSent}
use Rattle.fx_picture.specs.declared.entries.Entry.{Entry}
use Rattle.fx_plain_dispatch.specs.Taking.{IsActed, IsCarried, IsInstructed, IsStarted}
use Rattle.fx_plain_steps.specs.Courses.{Course, after, begun}
use Rattle.fx_plain_steps.specs.Lines.{answered, line_step}
use Rattle.fx_play_steps.specs.Taken.{IsMade}
use Rattle.fx_play_steps.specs.Traces.{course_of}
use Rattle.fx_play_steps.specs.declared.traces.Trace.{Trace}
use Rattle.fx_script_commands.specs.Requests.{Numbered, Request, asks, bad, binds, defines}
use Rattle.fx_stage_model.specs.Answers.{cost_of}
use Rattle.fx_stage_model.specs.Lines.{taken}
use Rattle.fx_stage_model.specs.Properties.{word_in}
use Rattle.fx_stage_model.specs.World.{World}
use Rattle.fx_stage_types.specs.declared.answers.StageError.{StageError}
use Rattle.fx_stage_types.specs.declared.answers.StageError.TheVariants.{Refused, Memory}
use Rattle.fx_stage_types.specs.declared.refusals.Refusal.{Refusal}
use Rattle.fx_act.specs.Lines.{IsNoEvent}

-- a refusal isn't want of memory
abbrev IsWord : StageError → Type 0
IsWord (Refused word) = Unit {0}
IsWord Memory = ⊥

pub refused_start : (number : ℕ) (word : Refusal) (starts : Result Started Refusal) (world now : World) (before trace : Trace)
    (result : Result (Unit {0}) AllocError) → ((w : World) → course_of w before ≡ begun w)
    → HasStarted starts world now (Err (Refused word))
    → ((path : List (List ℕ)) (w : World) → IsMade (answered number path (Err word) w) (course_of w before) (course_of w trace) result)
    → OnOk result (IsStarted number starts world (course_of now trace) 0)
refused_start number word (Ok started) world now before trace result fresh is made = absurd (subst IsWord is.1 tt)
refused_start number word (Err other) world now before trace result fresh (same, inr memory) made = absurd (subst IsWord memory tt)
refused_start number word (Err other) world now before trace (Err error) fresh (same, inl is) made = tt
refused_start number word (Err other) world now before trace (Ok done) fresh (same, inl is) made = (
  subst (λ (w : World). course_of w trace ≡ after (answered number [] (Err other) world) (begun world)) (sym same)
      (subst (λ (r : Refusal). course_of world trace ≡ after (answered number [] (Err r) world) (begun world)) (ap word_in is)
      (subst (λ (c : Course). course_of world trace ≡ after (answered number [] (Err word) world) c) (fresh world) (made [] world))),
  refl,
)

pub sent_start : (number : ℕ) (starts : Result Started Refusal) (world now : World) (events : Vec Event Global) (before : Trace)
    (final : Course) (cost : ℕ) → ((w : World) → course_of w before ≡ begun w) → HasStarted starts world now (Ok events)
    → AreSent events.items (course_of now before) final cost → IsStarted number starts world final cost
sent_start number (Err word) world now events before final cost fresh is sent = absurd is
sent_start number (Ok started) world now events before final cost fresh is sent =
    subst (λ (w : World). AreSent started.events (begun w) final cost) is.0
    (subst (λ (c : Course). AreSent started.events c final cost) (fresh now)
    (subst (λ (es : List Event). AreSent es (course_of now before) final cost) is.1 sent))

-- a line that isn't an event line
pub carried_line : (entries : List Entry) (line : Numbered) (request : Request) (world : World) (final : Course) (cost : ℕ)
    → IsNoEvent request → IsCarried line world final cost → IsActed entries line request world final cost
carried_line entries line (asks instruction) world final cost none carried =
    subst (λ (b : Bool). IsInstructed entries line b instruction world final cost) (sym none) carried
carried_line entries line (binds path expression) world final cost none carried = carried
carried_line entries line (defines name lines) world final cost none carried = carried
carried_line entries line bad world final cost none carried = carried

-- what a line makes from a fresh trace on is carried out, and costs what it may
pub carried_fresh : (line : Numbered) (world now : World) (before trace : Trace) (old new : ℕ)
    (result : Result (Unit {0}) AllocError) → ((w : World) → course_of w before ≡ begun w)
    → ((slot : ℕ) × IsMade (line_step slot line.number line.request world) (course_of world before) (course_of now trace) result)
    → ((slot : ℕ) → new ≤ old + cost_of (taken slot line.request world))
    → OnOk result (IsDoneWithin (IsCarried line world (course_of now trace)) old new)
carried_fresh line world now before trace old new (Err error) fresh made few = tt
carried_fresh line world now before trace old new (Ok done) fresh (slot, made) few =
    record {
      cost = cost_of (taken slot line.request world);
      done = (
        slot,
        subst (λ (c : Course). course_of now trace ≡ after (line_step slot line.number line.request world) c) (fresh world) made,
        refl,
      );
      few = few slot;
    }
