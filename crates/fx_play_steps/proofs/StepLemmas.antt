-- What a refusal tells of a line, and which step a line is.
use Rattle.std.proofs.Common.{◌≡◌, ◌++◌, ◌∙◌, inl, inr, ℕ, true, false, List, [], None, Result, Ok, Err, ap, append-nil, sym, subst, refl}
use Rattle.std.specs.declared.alloc.AllocError.{AllocError}
use Rattle.fx_base.specs.declared.keys.Name.{Name}
use Rattle.fx_plain_steps.specs.Courses.{after}
use Rattle.fx_script_commands.specs.Requests.{Request, bad}
use Rattle.fx_script_lines.specs.declared.instructions.Instruction.{Instruction}
use Rattle.fx_stage_model.specs.Answers.{Taken}
use Rattle.fx_stage_model.specs.Lines.{instructed, taken}
use Rattle.fx_stage_model.specs.Properties.{word_in}
use Rattle.fx_stage_model.specs.Taking.{IsTaken}
use Rattle.fx_stage_model.specs.World.{World}
use Rattle.fx_stage_types.specs.declared.answers.StageError.{StageError}
use Rattle.fx_stage_types.specs.declared.answers.StageError.TheVariants.{Refused, Memory}
use Rattle.fx_stage_types.specs.declared.refusals.Refusal.{Refusal}
use Rattle.fx_stage_types.specs.declared.refusals.Refusal.TheVariants as word
use Rattle.fx_plain_steps.specs.Lines.{answered, asked_by, inner_step, instruction_step, is_barred, is_carried, line_step, said_by, saying}
use Rattle.fx_play_steps.specs.Taken.{IsMade}
use Rattle.fx_play_steps.specs.Traces.{course_of}
use Rattle.fx_play_steps.specs.declared.traces.Trace.{Trace}

-- a refusal isn't want of memory
abbrev IsWord : StageError → Type 0
IsWord (Refused word) = Unit {0}
IsWord Memory = ⊥

-- what is said of the word that refuses a line, whatever the path
abbrev pub IsRefusal : ℕ → Refusal → Trace → Trace → Result (Unit {0}) AllocError → Type 0
IsRefusal number word before after result =
    (path : List (List ℕ)) (world : World)
    → IsMade (answered number path (Err word) world) (course_of world before) (course_of world after) result

pub refused_so : (number : ℕ) (path : List (List ℕ)) (word : Refusal) (answer : Result Taken Refusal) (world now : World)
    (before after : Trace) (result : Result (Unit {0}) AllocError) → IsTaken answer world now (Err (Refused word))
    → IsRefusal number word before after result
    → IsMade (answered number path answer world) (course_of world before) (course_of now after) result
refused_so number path word (Ok made_so) world now before after result is made = absurd (subst IsWord is.0 tt)
refused_so number path word (Err other) world now before after result (same, inr other_is) made = absurd (subst IsWord other_is tt)
refused_so number path word (Err other) world now before after result (same, inl is) made =
    let word_is : word ≡ other = ap word_in is in
    subst (λ (w : World). IsMade (answered number path (Err other) world) (course_of world before) (course_of w after) result)
    (sym same)
    (subst (λ (w : Refusal). IsMade (answered number path (Err w) world) (course_of world before) (course_of world after) result)
    word_is (made path world))

pub step_other : (slot number : ℕ) (instruction : Instruction) (world : World) → is_carried instruction ≡ false
    → instruction_step slot number instruction world ≡ said_by (saying instruction) world
unfolding instruction_step
step_other slot number instruction world h = rw h refl

pub step_carried : (slot number : ℕ) (instruction : Instruction) (world : World) → is_carried instruction ≡ true
    → instruction_step slot number instruction world
    ≡ answered number (asked_by instruction) (instructed slot instruction world) world
unfolding instruction_step
step_carried slot number instruction world h = rw h refl

pub step_bad : (slot number : ℕ) (world : World) → line_step slot number bad world ≡ answered number [] (Err word.Syntax) world
unfolding line_step taken
step_bad slot number world = refl

pub step_barred : (slot number : ℕ) (request : Request) (world : World) → is_barred request ≡ true
    → inner_step slot number request world ≡ answered number [] (Err word.Syntax) world
unfolding inner_step
step_barred slot number request world h = rw h refl

-- a line that says nothing leaves the trace as it is
pub says_nothing : (world : World) (trace : Trace) → course_of world trace ≡ after (said_by None world) (course_of world trace)
says_nothing world trace =
    ap (λ (t : List ℕ). record (course_of world trace) { text = t }) (sym (append-nil trace.text.items))
    ∙ ap (λ (h : List (Name × ℕ)). record (course_of world trace) { text = trace.text.items ++ []; heard = h })
    (sym (append-nil trace.heard.items))
