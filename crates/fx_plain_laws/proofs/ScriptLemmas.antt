-- Two courses of a script that keep what they make in the same slots tell the same.
use Rattle.std.proofs.Common.{◌≡◌, ◌∙◌, ℕ, ◌+◌, Bool, true, false, List, [], ◌∷◌, ◌++◌, length, refl, sym, ap, subst, Option, Some, None, unwrap_or, Result, Ok, Err}
use Rattle.std.proofs.lemmas.List.{append_assoc}
use Rattle.fx_base.specs.declared.keys.NodeKey.{NodeKey}
use Rattle.fx_css_types.specs.declared.sheets.SheetAt.{SheetAt}
use Rattle.fx_explain.proofs.OrderLemmas.{one-explanation}
use Rattle.fx_frame_text.specs.declared.forms.Form.{Form}
use Rattle.fx_kinds.specs.declared.facts.StyleFacts.{StyleFacts}
use Rattle.fx_plain_explain.specs.Explaining.{IsAnswered, IsTold as IsTelling, codes_of, find_attached, seen_by}
use Rattle.fx_plain_explain.specs.Facts.{looked, sheets_of, style_facts}
use Rattle.fx_plain_explain.specs.Ranks.{explanation_lines, source_text}
use Rattle.fx_plain_frames.specs.Games.{Game, entries_in, with_world}
use Rattle.fx_plain_frames.specs.Playing.{IsExplained, IsPlayed, IsShown, IsStep, IsTimed, IsTold, IsToldBy, IsToldOf, explained_by, is_pulse, no_line, one_line, time_line}
use Rattle.fx_plain_frames.specs.Pulses.{course_behind, scene_of, told_of}
use Rattle.fx_plain_frames.proofs.OneLemmas.{one_pulse}
use Rattle.fx_plain_steps.specs.Courses.{Course}
use Rattle.fx_plain_steps.specs.Lines.{Step, printing}
use Rattle.fx_plain_steps.specs.Told.{Told, lines_told}
use Rattle.fx_plain_times.specs.Lines.{time_cost, time_step}
use Rattle.fx_pulse_model.specs.Scenes.{IsScene}
use Rattle.fx_script_commands.specs.Requests.{Numbered}
use Rattle.fx_script_lines.specs.declared.instructions.Instruction.{Instruction}
use Rattle.fx_select.specs.AllMatching.{matching_of}
use Rattle.fx_select.specs.Chains.{chain}
use Rattle.fx_stage_model.specs.World.{World}
use Rattle.fx_stage_types.specs.declared.refusals.Refusal.{Refusal}
use Rattle.fx_style.proofs.OnceLemmas.{once_named}
use Rattle.fx_plain_laws.specs.Scripts.{DrawsInOrder, OneScript, slots_of_script, slots_of_told, slots_of_told_by, slots_of_told_of}
use Rattle.fx_plain_laws.specs.Lines.{slots_of_line}
use Rattle.fx_plain_laws.specs.Slots.{slots_of_settling}
use Rattle.fx_plain_laws.proofs.LineLemmas.{all_slots, line_one}
use Rattle.fx_plain_laws.proofs.SlotLemmas.{first_or, nothing_there, others_of, settling_one}

-- one game, one text and one cost, and the same slots are left
pub record IsOneGame (now end : Game) (told tells : Told) (cost more : ℕ) (rest left : List ℕ) : Type 0 where
  pub ended : now ≡ end
  pub printed : told ≡ tells
  pub priced : cost ≡ more
  pub remains : rest ≡ left

shown_one : (form : Form) (number : ℕ) (before now end : Game) (told tells : Told) (cost more : ℕ)
    (one : IsShown form number before now told cost) (other : IsShown form number before end tells more)
    → IsScene (scene_of before.world) → (rest left : List ℕ)
    → slots_of_settling number 1000 0 (course_behind one.drawn.world one.pulsed.notices) one.course one.further one.settled ++ rest
    ≡ slots_of_settling number 1000 0 (course_behind other.drawn.world other.pulsed.notices) other.course other.further other.settled ++ left
    → IsOneGame now end told tells cost more rest left
shown_one form number before now end told tells cost more one other scene rest left slots =
    let pulse = one_pulse before one.drawn other.drawn one.pulsed other.pulsed one.own other.own scene one.made other.made in
    let drawn : one.drawn ≡ other.drawn = pulse.0 in
    let pulsed : one.pulsed ≡ other.pulsed = pulse.1.0 in
    let own : one.own ≡ other.own = pulse.1.1 in
    let settled = settling_one number 1000 1000 0 0 (course_behind one.drawn.world one.pulsed.notices)
    (course_behind other.drawn.world other.pulsed.notices) one.course other.course one.further other.further one.settled
    other.settled refl refl (λ i. course_behind (drawn i).world (pulsed i).notices) rest left slots in
    let course : one.course ≡ other.course = settled.ended in
    let further : one.further ≡ other.further = settled.priced in
    record {
      ended = one.after ∙ ((λ i. with_world (course i).world (drawn i)) ∙ sym other.after);
      printed = one.told_so ∙ ((λ i. told_of form before (drawn i) (pulsed i) (course i)) ∙ sym other.told_so);
      priced = one.sum ∙ ((λ i. own i + further i) ∙ sym other.sum);
      remains = settled.remains;
    }

timed_one : (number : ℕ) (instruction : Instruction) (before now end : Game) (told tells : Told) (cost more : ℕ)
    (one : IsTimed number instruction before now told cost) (other : IsTimed number instruction before end tells more)
    (rest left : List ℕ)
    → slots_of_settling number 1000 0 (time_step number instruction before.clock before.world).course one.course one.further one.settled ++ rest
    ≡ slots_of_settling number 1000 0 (time_step number instruction before.clock before.world).course other.course other.further other.settled ++ left
    → IsOneGame now end told tells cost more rest left
timed_one number instruction before now end told tells cost more one other rest left slots =
    let passed = time_step number instruction before.clock before.world in
    let settled = settling_one number 1000 1000 0 0 passed.course passed.course one.course other.course one.further other.further
    one.settled other.settled refl refl refl rest left slots in
    let course : one.course ≡ other.course = settled.ended in
    record {
      ended = one.after ∙ (ap (λ (c : Course). record (with_world c.world before) { clock = passed.clock }) course ∙ sym other.after);
      printed = one.told_so ∙ (ap (λ (c : Course). lines_told c.text (length c.heard)) course ∙ sym other.told_so);
      priced = one.sum ∙ (ap (λ (k : ℕ). time_cost instruction before.clock before.world + k) settled.priced ∙ sym other.sum);
      remains = settled.remains;
    }

step_one : (line : Numbered) (before now end : Game) (told tells : Told) (cost more : ℕ)
    (one : IsStep line before now told cost) (other : IsStep line before end tells more) (rest left : List ℕ)
    → slots_of_line (entries_in before.last) line before.world one.course cost one.taken ++ rest
    ≡ slots_of_line (entries_in before.last) line before.world other.course more other.taken ++ left
    → IsOneGame now end told tells cost more rest left
step_one line before now end told tells cost more one other rest left slots =
    let taken = line_one (entries_in before.last) line before.world one.course other.course cost more one.taken other.taken rest left slots in
    let course : one.course ≡ other.course = taken.ended in
    record {
      ended = one.after ∙ (ap (λ (c : Course). with_world c.world before) course ∙ sym other.after);
      printed = one.told_so ∙ (ap (λ (c : Course). lines_told c.text (length c.heard)) course ∙ sym other.told_so);
      priced = taken.priced;
      remains = taken.remains;
    }

-- an explanation leaves nothing open: each rule that matches is named once
explanation_one : (sheets : List SheetAt) (nodes : List StyleFacts) (at there : ℕ) (name text other : List ℕ) → at ≡ there
    → IsTelling sheets nodes at name text → IsTelling sheets nodes there name other → text ≡ other
explanation_one sheets nodes at there name text other same one also =
    subst (λ (k : ℕ). (words : List ℕ) → IsTelling sheets nodes k name words → text ≡ words) same
    (λ words tells.
    one.is
    ∙ (ap (explanation_lines (source_text sheets (seen_by (chain nodes at)) (matching_of sheets nodes at)))
    (one-explanation sheets (matching_of sheets nodes at) (codes_of (chain nodes at)) name one.told tells.told
    (once_named sheets (chain nodes at)) one.explained tells.explained)
    ∙ sym tells.is))
    other also

some_place : (default one other : ℕ) → Some one ≡ Some other → one ≡ other
some_place default one other same = ap (λ (place : Option ℕ). unwrap_or place default) same

answered_one : (number : ℕ) (name : List ℕ) (world : World) (answer : Result NodeKey Refusal) (one other : Step)
    → IsAnswered number name world answer one → IsAnswered number name world answer other → one ≡ other
answered_one number name world (Ok key) one other a b =
    let place : a.told.at ≡ b.told.at = some_place 0 a.told.at b.told.at (sym a.told.there ∙ b.told.there) in
    a.is
    ∙ (ap (λ (text : List ℕ). printing text (looked world))
    (explanation_one (sheets_of world) (style_facts world) a.told.at b.told.at name a.text b.text place a.told.told b.told.told)
    ∙ sym b.is)
answered_one number name world (Err word) one other a b = a ∙ sym b

explained_one : (number : ℕ) (asked : List (List ℕ) × List ℕ) (before now end : Game) (told tells : Told) (cost more : ℕ)
    → IsExplained number asked before now told cost → IsExplained number asked before end tells more
    → (now ≡ end) × ((told ≡ tells) × (cost ≡ more))
explained_one number asked before now end told tells cost more one other =
    let step : one.step ≡ other.step =
    answered_one number asked.1 before.world (find_attached before.world asked.0) one.step other.step one.explained
    other.explained in (
      one.after ∙ (ap (λ (s : Step). with_world s.world before) step ∙ sym other.after),
      (one.told_so ∙ (ap (λ (s : Step). lines_told s.text (length s.heard)) step ∙ sym other.told_so), one.sum ∙ sym other.sum),
    )

told_of_one : (timed : Option Instruction) (asked : Option (List (List ℕ) × List ℕ)) (line : Numbered) (before now end : Game) (told tells : Told) (cost more : ℕ)
    (one : IsToldOf timed asked line before now told cost) (other : IsToldOf timed asked line before end tells more)
    (rest left : List ℕ)
    → slots_of_told_of timed asked line before now told cost one ++ rest
    ≡ slots_of_told_of timed asked line before end tells more other ++ left
    → IsOneGame now end told tells cost more rest left
told_of_one (Some instruction) asked line before now end told tells cost more one other rest left slots =
    timed_one line.number instruction before now end told tells cost more one other rest left slots
told_of_one None (Some asked) line before now end told tells cost more one other rest left slots =
    let all = explained_one line.number asked before now end told tells cost more one other in
    record { ended = all.0; printed = all.1.0; priced = all.1.1; remains = slots }
told_of_one None None line before now end told tells cost more one other rest left slots =
    step_one line before now end told tells cost more one other rest left slots

told_by_one : (draws : Bool) (form : Form) (line : Numbered) (before now end : Game) (told tells : Told) (cost more : ℕ)
    (one : IsToldBy draws form line before now told cost) (other : IsToldBy draws form line before end tells more)
    → (draws ≡ true → IsScene (scene_of before.world)) → (rest left : List ℕ)
    → slots_of_told_by draws form line before now told cost one ++ rest
    ≡ slots_of_told_by draws form line before end tells more other ++ left
    → IsOneGame now end told tells cost more rest left
told_by_one true form line before now end told tells cost more one other scene rest left slots =
    shown_one form line.number before now end told tells cost more one other (scene refl) rest left slots
told_by_one false form line before now end told tells cost more one other scene rest left slots =
    told_of_one (time_line line.request) (explained_by line.request) line before now end told tells cost more one other rest left slots

-- what is told of a line of a game is one, whatever the two are called
Tells : (form : Form) (line : Numbered) (before now : Game) (told : Told) (cost : ℕ) → IsTold form line before now told cost
    → Game × Numbered → Type 0
Tells form line before now told cost one there =
    (end : Game) (tells : Told) (more : ℕ) (other : IsTold form there.1 there.0 end tells more) (rest left : List ℕ)
    → slots_of_told form line before now told cost one ++ rest ≡ slots_of_told form there.1 there.0 end tells more other ++ left
    → IsOneGame now end told tells cost more rest left

pub script_one : (form : Form) (first start : Game) (lines others : List Numbered) (tolds tells : List Told)
    (one : IsPlayed form first lines tolds) (other : IsPlayed form start others tells)
    → first ≡ start → lines ≡ others → DrawsInOrder form first lines tolds one → (rest left : List ℕ)
    → slots_of_script form first lines tolds one ++ rest ≡ slots_of_script form start others tells other ++ left
    → (tolds ≡ tells) × (rest ≡ left)
unfolding Tells
script_one form first start lines others tolds tells (no_line g) (no_line h) here all order rest left slots =
    (refl, slots)
script_one form first start lines others tolds tells (no_line g) (one_line h m line more told later cost is played)
    here all order rest left slots =
    absurd (nothing_there line more all)
script_one form first start lines others tolds tells (one_line g n line more told later cost is played) (no_line h)
    here all order rest left slots =
    absurd (nothing_there line more (sym all))
script_one form first start lines others tolds tells (one_line g n l ls told later cost is played)
    (one_line h m k ks tell after more also plays) here all order rest left slots =
    let line : l ≡ k = ap (first_or l) all in
    let own : Tells form l g n told cost is (g, l) =
    λ end tells more other rest left slots. told_by_one (is_pulse l.request) form l g n end told tells cost more is other order.0 rest left slots in
    let anywhere : Tells form l g n told cost is (h, k) = subst (Tells form l g n told cost is) (λ i. (here i, line i)) own in
    let first = anywhere m tell more also (slots_of_script form n ls later played ++ rest) (slots_of_script form m ks after plays ++ left)
    (sym (append_assoc (slots_of_told form l g n told cost is) (slots_of_script form n ls later played) rest)
    ∙ (slots ∙ append_assoc (slots_of_told form k h m tell more also) (slots_of_script form m ks after plays) left)) in
    let others = script_one form n m ls ks later after played plays first.ended (ap others_of all) order.1 rest left first.remains in
    ((λ i. first.printed i ∷ others.0 i), others.1)

pub one_script : OneScript
one_script form first lines tolds tells one other order slots =
    (script_one form first first lines lines tolds tells one other refl refl order [] [] (all_slots slots)).0
