-- The next listener that runs an action, and what is left to run.
use Rattle.std.proofs.Common.{◌≡◌, ◌∙◌, ℕ, suc, ◌+◌, ◌-◌, ◌<◌, ◌≤◌, List, arith, drop, get_or, length, Bool, true, false, Option, Some, None, is_some, ap, subst, sym}
use Rattle.std.specs.Option.{option_map}
use Rattle.std.proofs.lemmas.List.{drop_more}
use Rattle.fx_base.specs.declared.keys.Name.{Name}
use Rattle.fx_plain_dispatch.specs.Costs.{IsDoneWithin}
use Rattle.fx_plain_dispatch.specs.Running.{AreRun}
use Rattle.fx_plain_dispatch.specs.Settling.{IsSettled, IsSettledWhole, Run, all_ran, first_run, next_run, one_ran, or_later, overrun, too_many}
use Rattle.fx_plain_steps.specs.Courses.{Course}
use Rattle.fx_script_commands.specs.Requests.{Numbered}
use Rattle.fx_stage_model.specs.Running.{run_by}
use Rattle.fx_stage_model.specs.World.{World}
use Rattle.fx_act.proofs.RunLemmas.{at_no_cost}

module _ (world : World) (heard : List (Name × ℕ)) (place : ℕ) (one : Name × ℕ) where
  at_place : place < length heard → one ≡ get_or heard place one
      → first_run world place (drop place heard)
      ≡ or_later place (run_by world one.0 one.1) (first_run world (place + 1) (drop (place + 1) heard))
  at_place below is =
      ap (first_run world place) (drop_more heard place one below)
      ∙ ap (λ (o : Name × ℕ). or_later place (run_by world o.0 o.1) (first_run world (place + 1) (drop (place + 1) heard))) (sym is)

  pub runs_here : place < length heard → one ≡ get_or heard place one → (lines : List Numbered)
      → Some lines ≡ run_by world one.0 one.1 → first_run world place (drop place heard) ≡ Some (place, lines)
  runs_here below is lines runs =
      at_place below is ∙ ap (λ r. or_later place r (first_run world (place + 1) (drop (place + 1) heard))) (sym runs)

  pub runs_later : place < length heard → one ≡ get_or heard place one → None ≡ run_by world one.0 one.1
      → first_run world place (drop place heard) ≡ first_run world (place + 1) (drop (place + 1) heard)
  runs_later below is none =
      at_place below is ∙ ap (λ r. or_later place r (first_run world (place + 1) (drop (place + 1) heard))) (sym none)

-- what settles all that is left from here on settles the whole
abbrev pub LeadsToSettled : ℕ → ℕ → ℕ → Course → ℕ → Course → ℕ → Type 0
LeadsToSettled number left place here mid start old =
    (now : Course) (new : ℕ) → IsDoneWithin (IsSettled number left place here now) mid new
    → IsDoneWithin (IsSettledWhole number start now) old new

pub one_more_ran : {number left place : ℕ} {start here next : Course} {old mid more : ℕ} (after : ℕ) (run : Run) → left ≡ suc after
    → Some run ≡ next_run place here → IsDoneWithin (AreRun run.1 here next) mid more
    → LeadsToSettled number left place here mid start old → LeadsToSettled number after (run.0 + 1) next more start old
one_more_ran {number} {left} {place} {start} {here} {next} {old} {mid} {more} after run less found ran leads now new settled =
    let first : more ≤ mid + ran.cost = ran.few in
    let rest : new ≤ more + settled.cost = settled.few in
    leads now new
    (record {
      cost = ran.cost + settled.cost;
      done = subst (λ (n : ℕ). IsSettled number n place here now (ran.cost + settled.cost)) (sym less)
          (one_ran after place run here next now ran.cost settled.cost (sym found) ran.done settled.done);
      few = omega (arith, first, rest);
    })

pub none_left : {number left place : ℕ} {start here : Course} {old mid : ℕ} → None ≡ next_run place here
    → LeadsToSettled number left place here mid start old → IsDoneWithin (IsSettledWhole number start here) old mid
none_left {number} {left} {place} {start} {here} {old} {mid} none leads =
    leads here mid (at_no_cost (IsSettled number left place here here) mid (all_ran left place here (sym none)))

IsFact : Bool → Type 0
IsFact true = Unit {0}
IsFact false = ⊥

-- whether there is a further run tells how it ends
pub ended : {R : Type 0} (shown : R → Run) (number place : ℕ) (course : Course) (next : Option R)
    → is_some next ≡ false → option_map shown next ≡ next_run place course → IsSettled number 0 place course course 0
unfolding IsFact
ended shown number place course None none found = all_ran 0 place course (sym found)
ended shown number place course (Some run) none found = absurd (subst IsFact none tt)

pub cut_off : {R : Type 0} (shown : R → Run) (number place : ℕ) (course : Course) (next : Option R)
    → is_some next ≡ true → option_map shown next ≡ next_run place course
    → IsSettled number 0 place course (overrun number course) 0
unfolding IsFact
cut_off shown number place course None some found = absurd (subst IsFact (sym some) tt)
cut_off shown number place course (Some run) some found = too_many place (shown run) course (sym found)
