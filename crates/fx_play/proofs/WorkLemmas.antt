-- What is said of work where a run is played to its end, and what ends otherwise.
use Rattle.std.proofs.Common.{◌≡◌, ◌∙◌, ℕ, List, Option, OnOk, Result, Ok, Err, subst, sym}
use Rattle.fx_load_parts.specs.declared.files.LoadError.{LoadError}
use Rattle.fx_load_parts.specs.declared.files.LoadError.TheVariants as load
use Rattle.fx_load_parts.specs.Faults.{Fault}
use Rattle.fx_plain.specs.PlainPlayer.{refused_with, usage_told}
use Rattle.fx_plain.specs.declared.answers.Status.{Status}
use Rattle.fx_plain.specs.declared.answers.Status.TheVariants.{Done, Refused, Usage}
use Rattle.fx_port.specs.declared.pieces.PutError.{PutError}
use Rattle.fx_port.specs.declared.pieces.PutError.TheVariants as put
use Rattle.fx_scene_raise.specs.declared.errors.RaiseError.{RaiseError}
use Rattle.fx_scene_raise.specs.declared.errors.RaiseError.TheVariants as raise
use Rattle.fx_play.specs.Ends.{IsTold, IsUnloadedTold, IsUnstagedTold, ended_as}

-- a run that is done was written whole
pub done_put : {A : Type 0} (w : Result (Unit {0}) PutError) → ended_as w Done ≡ Done → OnOk w A → A
done_put (Ok written) is a = a
done_put (Err put.Failed) is a = absurd (cc)
done_put (Err put.Memory) is a = absurd (cc)

not_refused : (w : Result (Unit {0}) PutError) → ¬ (ended_as w Refused ≡ Done)
not_refused (Ok written) is = cc
not_refused (Err put.Failed) is = cc
not_refused (Err put.Memory) is = cc

not_usage : (w : Result (Unit {0}) PutError) → ¬ (ended_as w Usage ≡ Done)
not_usage (Ok written) is = cc
not_usage (Err put.Failed) is = cc
not_usage (Err put.Memory) is = cc

-- the usage line ends no run as done
pub usage_never : (puts_old puts_new : ℕ) (old new : Option (List ℕ)) (answer : Status)
    → IsTold usage_told puts_old puts_new old new answer → ¬ (answer ≡ Done)
usage_never puts_old puts_new old new answer so done = not_usage so.written (sym so.ends ∙ done)

told_never : (fault : Fault) (puts_old puts_new : ℕ) (old new : Option (List ℕ)) (answer : Status)
    → IsTold (refused_with fault) puts_old puts_new old new answer → ¬ (answer ≡ Done)
told_never fault puts_old puts_new old new answer so done = not_refused so.written (sym so.ends ∙ done)

pub unloaded_never : (error : LoadError) (puts_old puts_new : ℕ) (old new : Option (List ℕ)) (answer : Status)
    → IsUnloadedTold error puts_old puts_new old new answer → ¬ (answer ≡ Done)
unloaded_never (load.Fault fault) puts_old puts_new old new answer so done =
    told_never _ puts_old puts_new old new answer so done
unloaded_never load.Failed puts_old puts_new old new answer so done = let is = sym so.ends ∙ done in absurd (cc)
unloaded_never load.Memory puts_old puts_new old new answer so done = let is = sym so.ends ∙ done in absurd (cc)

pub unstaged_never : (files : List (List ℕ)) (error : RaiseError) (puts_old puts_new : ℕ) (old new : Option (List ℕ))
    (answer : Status) → IsUnstagedTold files error puts_old puts_new old new answer → ¬ (answer ≡ Done)
unstaged_never files (raise.Fault fault) puts_old puts_new old new answer so done =
    told_never _ puts_old puts_new old new answer so done
unstaged_never files raise.Memory puts_old puts_new old new answer so done =
    let is = sym so.ends ∙ done in absurd (cc)
