-- Lines that are taken one by one.
use Rattle.std.proofs.Common.{◌≤◌, ◌+◌, ◌++◌, ℕ, List, ◌∷◌, [], append-nil, append_assoc, arith, subst, sym}
use Rattle.fx_frame_text.specs.declared.forms.Form.{Form}
use Rattle.fx_plain_dispatch.specs.Costs.{IsDoneWithin}
use Rattle.fx_plain_frames.specs.Games.{Game}
use Rattle.fx_plain_frames.specs.Playing.{IsTold, is_pulse}
use Rattle.fx_plain_steps.specs.Told.{Told}
use Rattle.fx_plain_work.specs.Works.{Counted, IsLineWork, IsWorked, Sight, no_line, one_line}
use Rattle.fx_script_commands.specs.Requests.{Numbered}

-- the work of what is left is, behind what is done and told so, the work of all
abbrev pub IsWorking : Form → Game → Sight → List Numbered → Counted → ℕ → Game → Sight → List Numbered → List Told
    → Counted → ℕ → Type 0
IsWorking form first start all old began now seen left tolds count here =
    (last : Counted) (end : ℕ) (rest : List Told) → IsDoneWithin (IsWorked form now seen left rest count last) here end
    → IsDoneWithin (IsWorked form first start all (tolds ++ rest) old last) began end

pub begun : (form : Form) (first : Game) (start : Sight) (all : List Numbered) (old : Counted) (began : ℕ)
    → IsWorking form first start all old began first start all [] old began
begun form first start all old began = λ last end rest is. is

pub goes_on : {form : Form} {first now next : Game} {start seen further : Sight} {all left : List Numbered}
    {old count more : Counted} {began here there : ℕ} (line : Numbered) (told : Told) (tolds : List Told)
    → IsWorking form first start all old began now seen (line ∷ left) tolds count here
    → IsDoneWithin (IsTold form line now next told) here there
    → IsLineWork (is_pulse line.request) now next seen further count more
    → IsWorking form first start all old began next further left (tolds ++ told ∷ []) more there
goes_on {form} {first} {now} {next} {start} {seen} {further} {all} {left} {old} {count} {more} {began} {here} {there} line told tolds so is work =
    λ last end rest worked.
    let first_few : there ≤ here + is.cost = is.few in
    let rest_few : end ≤ there + worked.cost = worked.few in
    subst (λ (all_told : List Told). IsDoneWithin (IsWorked form first start all all_told old last) began end)
    (sym (append_assoc tolds (told ∷ []) rest))
    (so last end (told ∷ rest) (record {
      cost = is.cost + worked.cost;
      done = one_line now next seen further line left told rest count more last is.cost worked.cost is.done work worked.done;
      few = omega (arith, first_few, rest_few);
    }))

pub ends : {form : Form} {first now : Game} {start seen : Sight} {all : List Numbered} {old count : Counted} {began here : ℕ}
    (tolds : List Told) → IsWorking form first start all old began now seen [] tolds count here
    → IsDoneWithin (IsWorked form first start all tolds old count) began here
ends {form} {first} {now} {start} {seen} {all} {old} {count} {began} {here} tolds so =
    subst (λ (all_told : List Told). IsDoneWithin (IsWorked form first start all all_told old count) began here)
    (append-nil tolds)
    (so count here [] (record { cost = 0; done = no_line now seen count; few = omega arith }))
