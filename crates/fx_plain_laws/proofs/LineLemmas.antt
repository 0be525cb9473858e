-- Two courses of a line that keep what they make in the same slots are one.
use Rattle.std.proofs.Common.{◌≡◌, ◌∙◌, ℕ, ◌+◌, Bool, true, false, List, [], ◌∷◌, ◌++◌, refl, sym, ap, Result, Ok, Err}
use Rattle.std.proofs.lemmas.List.{append-nil, append_assoc}
use Rattle.fx_event_lines.specs.Started.{Started}
use Rattle.fx_event_lines.specs.Starting.{is_event_line, started}
use Rattle.fx_picture.specs.declared.entries.Entry.{Entry}
use Rattle.fx_plain_dispatch.specs.Taking.{IsActed, IsCarried, IsInstructed, IsLine, IsStarted}
use Rattle.fx_plain_steps.specs.Courses.{Course, after, begun}
use Rattle.fx_plain_steps.specs.Lines.{line_step}
use Rattle.fx_script_commands.specs.Requests.{Numbered, Request, asks, bad, binds, defines}
use Rattle.fx_script_lines.specs.declared.instructions.Instruction.{Instruction}
use Rattle.fx_stage_model.specs.Answers.{cost_of}
use Rattle.fx_stage_model.specs.Lines.{taken}
use Rattle.fx_stage_model.specs.World.{World}
use Rattle.fx_stage_types.specs.declared.refusals.Refusal.{Refusal}
use Rattle.fx_plain_laws.specs.Lines.{OneLine, slots_of_acted, slots_of_instructed, slots_of_line, slots_of_started}
use Rattle.fx_plain_laws.specs.Slots.{slots_of_settling}
use Rattle.fx_plain_laws.proofs.SlotLemmas.{IsOne, events_one, first_or, others_of, settling_one}

started_one : (number : ℕ) (answer : Result Started Refusal) (world : World) (now end : Course) (cost more : ℕ)
    (one : IsStarted number answer world now cost) (other : IsStarted number answer world end more) (rest left : List ℕ)
    → slots_of_started number answer world now cost one ++ rest ≡ slots_of_started number answer world end more other ++ left
    → IsOne now end cost more rest left
started_one number (Ok starts) world now end cost more one other rest left slots =
    events_one starts.events starts.events (begun starts.world) (begun starts.world) now end cost more one other refl refl rest
    left slots
started_one number (Err word) world now end cost more one other rest left slots =
    record { ended = one.0 ∙ sym other.0; priced = one.1 ∙ sym other.1; remains = slots }

carried_one : (line : Numbered) (world : World) (now end : Course) (cost more : ℕ) (one : IsCarried line world now cost)
    (other : IsCarried line world end more) (rest left : List ℕ) → one.0 ∷ rest ≡ other.0 ∷ left
    → IsOne now end cost more rest left
carried_one line world now end cost more (s, is, spent) (t, also, paid) rest left slots =
    let slot : s ≡ t = ap (first_or s) slots in
    record {
      ended = is ∙ (ap (λ (k : ℕ). after (line_step k line.number line.request world) (begun world)) slot ∙ sym also);
      priced = spent ∙ (ap (λ (k : ℕ). cost_of (taken k line.request world)) slot ∙ sym paid);
      remains = ap others_of slots;
    }

instructed_one : (entries : List Entry) (line : Numbered) (sends : Bool) (instruction : Instruction) (world : World) (now end : Course)
    (cost more : ℕ) (one : IsInstructed entries line sends instruction world now cost)
    (other : IsInstructed entries line sends instruction world end more) (rest left : List ℕ)
    → slots_of_instructed entries line sends instruction world now cost one ++ rest
    ≡ slots_of_instructed entries line sends instruction world end more other ++ left
    → IsOne now end cost more rest left
instructed_one entries line true instruction world now end cost more one other rest left slots =
    started_one line.number (started entries instruction world) world now end cost more one other rest left slots
instructed_one entries line false instruction world now end cost more one other rest left slots =
    carried_one line world now end cost more one other rest left slots

acted_one : (entries : List Entry) (line : Numbered) (request : Request) (world : World) (now end : Course) (cost more : ℕ)
    (one : IsActed entries line request world now cost) (other : IsActed entries line request world end more)
    (rest left : List ℕ)
    → slots_of_acted entries line request world now cost one ++ rest
    ≡ slots_of_acted entries line request world end more other ++ left
    → IsOne now end cost more rest left
acted_one entries line (asks instruction) world now end cost more one other rest left slots =
    instructed_one entries line (is_event_line instruction) instruction world now end cost more one other rest left slots
acted_one entries line (binds path expression) world now end cost more one other rest left slots =
    carried_one line world now end cost more one other rest left slots
acted_one entries line (defines name lines) world now end cost more one other rest left slots =
    carried_one line world now end cost more one other rest left slots
acted_one entries line bad world now end cost more one other rest left slots =
    carried_one line world now end cost more one other rest left slots

pub line_one : (entries : List Entry) (line : Numbered) (world : World) (now end : Course) (cost more : ℕ)
    (one : IsLine entries line world now cost) (other : IsLine entries line world end more) (rest left : List ℕ)
    → slots_of_line entries line world now cost one ++ rest ≡ slots_of_line entries line world end more other ++ left
    → IsOne now end cost more rest left
line_one entries line world now end cost more one other rest left slots =
    let behind = slots_of_settling line.number 1000 0 one.first now one.further one.settled in
    let after = slots_of_settling line.number 1000 0 other.first end other.further other.settled in
    let first = acted_one entries line line.request world one.first other.first one.own other.own one.acted other.acted
    (behind ++ rest) (after ++ left)
    (sym (append_assoc (slots_of_acted entries line line.request world one.first one.own one.acted) behind rest)
    ∙ (slots ∙ append_assoc (slots_of_acted entries line line.request world other.first other.own other.acted) after left)) in
    let settled = settling_one line.number 1000 1000 0 0 one.first other.first now end one.further other.further one.settled
    other.settled refl refl first.ended rest left first.remains in
    record {
      ended = settled.ended;
      priced = one.sum ∙ ((λ i. first.priced i + settled.priced i) ∙ sym other.sum);
      remains = settled.remains;
    }

-- nothing is left behind either
pub all_slots : {one other : List ℕ} → one ≡ other → one ++ [] ≡ other ++ []
all_slots {one} {other} same = append-nil one ∙ (same ∙ sym (append-nil other))

pub one_line : OneLine
one_line entries line world now end cost more one other slots =
    let all = line_one entries line world now end cost more one other [] [] (all_slots slots) in
    (all.ended, all.priced)
