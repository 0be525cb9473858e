-- Each way in which a run ends.
use Rattle.std.proofs.Common.{◌≡◌, ◌⊎◌, inl, inr, ℕ, List, [], Option, Some, Result, Ok, Err, append-nil, ap, sym, subst, refl, arith}
use Rattle.fx_load.specs.Loading.{IsElaborated, Loaded}
use Rattle.fx_load.specs.Loads.{loaded_of}
use Rattle.fx_load.specs.declared.loading.Loaded.{Loaded as Held}
use Rattle.fx_load_parts.specs.Faults.{Fault, fault_line}
use Rattle.fx_load_parts.specs.Files.{Run}
use Rattle.fx_load_parts.specs.Says.{SaysSuch}
use Rattle.fx_load_parts.specs.Views.{fault_of}
use Rattle.fx_load_parts.specs.declared.files.LoadError.{LoadError}
use Rattle.fx_load_parts.specs.declared.files.LoadError.TheVariants as load
use Rattle.fx_plain.specs.CommandLine.{Plan, Plays, PlaysDemo, ShowsUsage, played}
use Rattle.fx_plain.specs.Demos.{demo_files, demo_run}
use Rattle.fx_plain.specs.PlainPlayer.{IsAnswer, IsOutput, IsOutputOfLoaded, IsOver, IsWithin, Output, all_lines, files_at_fault, files_loaded, first_lines, nothing_written, part_written, refused_with, scene_at_fault, scene_fault, script_played, usage_told}
use Rattle.fx_plain.specs.declared.answers.Status.{Status}
use Rattle.fx_plain.specs.declared.answers.Status.TheVariants.{Done, Usage, Refused, ReadFault, WriteFault, NoMemory}
use Rattle.fx_plain_frames.specs.Games.{Game}
use Rattle.fx_plain_runs.specs.Runs.{IsBegun, IsFaulty, IsPut}
use Rattle.fx_plain_runs.specs.declared.manners.Manner.{Manner}
use Rattle.fx_play_runs.specs.Staging.{IsStaged}
use Rattle.fx_port.specs.Causes.{HasCause, Rose}
use Rattle.fx_port.specs.Files.{Files}
use Rattle.fx_port.specs.Pieces.{GrewByPrefix, Writes, grown}
use Rattle.fx_port.specs.declared.pieces.PutError.{PutError}
use Rattle.fx_port.specs.declared.pieces.PutError.TheVariants as put
use Rattle.fx_scene_acts.specs.declared.tasks.SceneFault.{SceneFault}
use Rattle.fx_scene_raise.specs.declared.errors.RaiseError.{RaiseError}
use Rattle.fx_scene_raise.specs.declared.errors.RaiseError.TheVariants as raise
use Rattle.fx_words.specs.declared.runs.Source.TheVariants as source
use Rattle.fx_play.specs.Ends.{IsDemoPlayed, IsIdle, IsLoadedPlayed, IsPlayed, IsTold, IsUnloadedTold, IsUnstagedTold, IsWithinLoaded, ended_as, none_written, some_written}

-- all of it is a part
whole : (old : Option (List ℕ)) (bytes : List ℕ) {new : Option (List ℕ)} → new ≡ grown old bytes → GrewByPrefix old new bytes
whole old bytes e = record { front = bytes; prefix = ([], append-nil bytes); told = e }

-- whatever came of writing, a part was written
part_of : {E : Type 0} (old new : Option (List ℕ)) (bytes : List ℕ) (result : Result (Unit {0}) E)
    → Writes old new result bytes → GrewByPrefix old new bytes
part_of old new bytes (Ok done) writes = whole old bytes writes.ok
part_of old new bytes (Err error) writes = writes.err

-- A scene that is at fault: it is told, or a part of that.
scene_told : (manner : Manner) (loaded : Loaded) (puts_old puts_new : ℕ) (old new : Option (List ℕ)) (answer : Status)
    (fault : SceneFault) → IsFaulty loaded.tasks fault
    → IsTold (refused_with (scene_fault loaded.files fault)) puts_old puts_new old new answer
    → IsLoadedPlayed manner loaded puts_old puts_new old new answer
scene_told manner loaded puts_old puts_new old new answer fault faulty told =
    subst (λ (status : Status). IsLoadedPlayed manner loaded puts_old puts_new old new status) (sym told.ends)
    (by_written told.written told.cause told.writes)
  where
    by_written : (w : Result (Unit {0}) PutError) → HasCause put.Failed puts_old puts_new w
        → Writes old new w (fault_line (scene_fault loaded.files fault))
        → IsLoadedPlayed manner loaded puts_old puts_new old new (ended_as w Refused)
    by_written (Ok done) cause writes = record {
      answers = λ final. record {
        out = refused_with (scene_fault loaded.files fault);
        plain = scene_at_fault fault faulty;
        bytes = writes.ok;
        status = refl;
      };
      within = some_written all_lines (refused_with (scene_fault loaded.files fault)) (scene_at_fault fault faulty) (whole old _ writes.ok);
      write = λ e. absurd (cc);
      usage = λ e. cc;
      read = λ e. cc;
    }
    by_written (Err put.Failed) cause writes = record {
      answers = λ final. absurd final;
      within = some_written all_lines (refused_with (scene_fault loaded.files fault)) (scene_at_fault fault faulty) writes.err;
      write = λ e. cause.rose refl;
      usage = λ e. cc;
      read = λ e. cc;
    }
    by_written (Err put.Memory) cause writes = record {
      answers = λ final. absurd final;
      within = some_written all_lines (refused_with (scene_fault loaded.files fault)) (scene_at_fault fault faulty) writes.err;
      write = λ e. absurd (cc);
      usage = λ e. cc;
      read = λ e. cc;
    }

-- a scene that wasn't raised
pub not_staged : (manner : Manner) (loaded : Loaded) (puts_old puts_new : ℕ) (old new : Option (List ℕ))
    (answer : Status) (error : RaiseError) → IsStaged manner.window loaded.tasks (Err error)
    → IsUnstagedTold loaded.files error puts_old puts_new old new answer
    → IsLoadedPlayed manner loaded puts_old puts_new old new answer
not_staged manner loaded puts_old puts_new old new answer (raise.Fault fault) faulty told =
    scene_told manner loaded puts_old puts_new old new answer fault faulty told
not_staged manner loaded puts_old puts_new old new answer raise.Memory faulty told =
    subst (λ (status : Status). IsLoadedPlayed manner loaded puts_old puts_new old new status) (sym told.ends)
    (record {
      answers = λ final. absurd final;
      within = none_written told.same;
      write = λ e. absurd (cc);
      usage = λ e. cc;
      read = λ e. cc;
    })

-- the lines of a script were taken, or some of them
pub lines_put : (manner : Manner) (loaded : Loaded) (puts_old puts_new : ℕ) (old new : Option (List ℕ)) (first : Game)
    (w : Result (Unit {0}) PutError) → IsBegun manner.window loaded.tasks first
    → HasCause put.Failed puts_old puts_new w → IsPut manner loaded.warnings first loaded.lines old new w
    → IsLoadedPlayed manner loaded puts_old puts_new old new (ended_as w Done)
lines_put manner loaded puts_old puts_new old new first (Ok done) begun cause so =
    let out : Output = record { bytes = so.ok.bytes; status = Done } in
    let plain : IsOutputOfLoaded manner all_lines loaded out = script_played first so.ok.bytes begun so.ok.written in
    record {
      answers = λ final. record { out = out; plain = plain; bytes = so.ok.told; status = refl };
      within = some_written all_lines out plain (whole old so.ok.bytes so.ok.told);
      write = λ e. absurd (cc);
      usage = λ e. cc;
      read = λ e. cc;
    }
lines_put manner loaded puts_old puts_new old new first (Err put.Failed) begun cause so =
    record {
      answers = λ final. absurd final;
      within = some_written (first_lines so.err.count) (record { bytes = so.err.bytes; status = Done })
          (script_played first so.err.bytes begun so.err.written) so.err.part;
      write = λ e. cause.rose refl;
      usage = λ e. cc;
      read = λ e. cc;
    }
lines_put manner loaded puts_old puts_new old new first (Err put.Memory) begun cause so =
    record {
      answers = λ final. absurd final;
      within = some_written (first_lines so.err.count) (record { bytes = so.err.bytes; status = Done })
          (script_played first so.err.bytes begun so.err.written) so.err.part;
      write = λ e. absurd (cc);
      usage = λ e. cc;
      read = λ e. cc;
    }

lifted : (run : Run) (manner : Manner) (files : Files) (loaded : Loaded) (old new : Option (List ℕ))
    → IsElaborated run files (Ok loaded) → IsWithinLoaded manner loaded old new
    → IsWithin (Plays run manner) files old new
lifted run manner files loaded old new loads (none_written same) = nothing_written same
lifted run manner files loaded old new loads (some_written extent out plain part) =
    part_written extent out (files_loaded loaded out loads plain) part

-- a run whose files are loaded
pub loaded_played : (run : Run) (manner : Manner) (told : Option Files) (fetches_old fetches_new : ℕ) (loaded : Loaded)
    (puts_old puts_new : ℕ) (old new : Option (List ℕ)) (answer : Status)
    → ((files : Files) → told ≡ Some files → IsElaborated run files (Ok loaded))
    → IsLoadedPlayed manner loaded puts_old puts_new old new answer
    → IsPlayed (Plays run manner) told fetches_old fetches_new puts_old puts_new old new answer
loaded_played run manner told fetches_old fetches_new loaded puts_old puts_new old new answer loads so = record {
  answers = λ files over final. record {
    out = (so.answers final).out;
    plain = files_loaded loaded (so.answers final).out (loads files over) (so.answers final).plain;
    bytes = (so.answers final).bytes;
    status = (so.answers final).status;
  };
  within = λ files over. lifted run manner files loaded old new (loads files over) so.within;
  read = λ e. absurd (so.read e);
  write = so.write;
  usage = λ e. absurd (so.usage e);
  runs = λ e same. cc;
}

-- a fault is told, which the plan has over all files that it is over
plan_told : (plan : Plan) (told : Option Files) (fetches_old fetches_new puts_old puts_new : ℕ) (old new : Option (List ℕ))
    (answer : Status) (fault : Fault) → ¬ (plan ≡ ShowsUsage)
    → ((files : Files) → IsOver told plan files → IsOutput plan files all_lines (refused_with fault))
    → IsTold (refused_with fault) puts_old puts_new old new answer
    → IsPlayed plan told fetches_old fetches_new puts_old puts_new old new answer
plan_told plan told fetches_old fetches_new puts_old puts_new old new answer fault runs plain so =
    subst (λ (status : Status). IsPlayed plan told fetches_old fetches_new puts_old puts_new old new status) (sym so.ends)
    (by_written so.written so.cause so.writes)
  where
    by_written : (w : Result (Unit {0}) PutError) → HasCause put.Failed puts_old puts_new w
        → Writes old new w (fault_line fault)
        → IsPlayed plan told fetches_old fetches_new puts_old puts_new old new (ended_as w Refused)
    by_written (Ok done) cause writes = record {
      answers = λ files over final.
          record { out = refused_with fault; plain = plain files over; bytes = writes.ok; status = refl };
      within = λ files over. part_written all_lines (refused_with fault) (plain files over) (whole old _ writes.ok);
      read = λ e. absurd (cc);
      write = λ e. absurd (cc);
      usage = λ e. absurd (cc);
      runs = λ e. runs;
    }
    by_written (Err put.Failed) cause writes = record {
      answers = λ files over final. absurd final;
      within = λ files over. part_written all_lines (refused_with fault) (plain files over) writes.err;
      read = λ e. absurd (cc);
      write = λ e. cause.rose refl;
      usage = λ e. absurd (cc);
      runs = λ e. runs;
    }
    by_written (Err put.Memory) cause writes = record {
      answers = λ files over final. absurd final;
      within = λ files over. part_written all_lines (refused_with fault) (plain files over) writes.err;
      read = λ e. absurd (cc);
      write = λ e. absurd (cc);
      usage = λ e. absurd (cc);
      runs = λ e. runs;
    }

-- nothing is written for want of memory
pub no_memory : (plan : Plan) (told : Option Files) (fetches_old fetches_new puts_old puts_new : ℕ)
    (old new : Option (List ℕ)) → new ≡ old
    → IsPlayed plan told fetches_old fetches_new puts_old puts_new old new NoMemory
no_memory plan told fetches_old fetches_new puts_old puts_new old new same = record {
  answers = λ files over final. absurd final;
  within = λ files over. nothing_written same;
  read = λ e. absurd (cc);
  write = λ e. absurd (cc);
  usage = λ e. absurd (cc);
  runs = λ e. absurd (neither e);
}
  where
    neither : ¬ ((NoMemory ≡ Done) ⊎ (NoMemory ≡ Refused))
    neither (inl e) = cc
    neither (inr e) = cc

-- files that weren't loaded
pub not_loaded : (run : Run) (manner : Manner) (told : Option Files) (fetches_old fetches_new puts_old puts_new : ℕ)
    (old new : Option (List ℕ)) (answer : Status) (error : LoadError)
    → ((files : Files) → told ≡ Some files → SaysSuch loaded_of (IsElaborated run files) (Err error))
    → HasCause {T = Held} load.Failed fetches_old fetches_new (Err error)
    → IsUnloadedTold error puts_old puts_new old new answer
    → IsPlayed (Plays run manner) told fetches_old fetches_new puts_old puts_new old new answer
not_loaded run manner told fetches_old fetches_new puts_old puts_new old new answer (load.Fault fault) says cause so =
    plan_told (Plays run manner) told fetches_old fetches_new puts_old puts_new old new answer (fault_of fault) (λ same. cc)
    (λ files over. files_at_fault (fault_of fault) (says files over)) so
not_loaded run manner told fetches_old fetches_new puts_old puts_new old new answer load.Failed says cause so =
    subst (λ (status : Status). IsPlayed (Plays run manner) told fetches_old fetches_new puts_old puts_new old new status) (sym so.ends)
    (record {
      answers = λ files over final. absurd final;
      within = λ files over. nothing_written so.same;
      read = λ e. (cause.rose refl, (tt, so.same));
      write = λ e. absurd (cc);
      usage = λ e. absurd (cc);
      runs = λ e same. cc;
    })
not_loaded run manner told fetches_old fetches_new puts_old puts_new old new answer load.Memory says cause so =
    subst (λ (status : Status). IsPlayed (Plays run manner) told fetches_old fetches_new puts_old puts_new old new status) (sym so.ends)
    (no_memory (Plays run manner) told fetches_old fetches_new puts_old puts_new old new so.same)

-- no run is asked for
pub usage_shown : (told : Option Files) (fetches_old fetches_new puts_old puts_new : ℕ) (old new : Option (List ℕ))
    (answer : Status) → IsTold usage_told puts_old puts_new old new answer
    → IsPlayed ShowsUsage told fetches_old fetches_new puts_old puts_new old new answer
usage_shown told fetches_old fetches_new puts_old puts_new old new answer so =
    subst (λ (status : Status). IsPlayed ShowsUsage told fetches_old fetches_new puts_old puts_new old new status) (sym so.ends)
    (by_written so.written so.cause so.writes)
  where
    neither : (w : Result (Unit {0}) PutError)
        → ¬ ((ended_as w Usage ≡ Done) ⊎ (ended_as w Usage ≡ Refused))
    neither (Ok done) (inl e) = cc
    neither (Ok done) (inr e) = cc
    neither (Err put.Failed) (inl e) = cc
    neither (Err put.Failed) (inr e) = cc
    neither (Err put.Memory) (inl e) = cc
    neither (Err put.Memory) (inr e) = cc

    by_written : (w : Result (Unit {0}) PutError) → HasCause put.Failed puts_old puts_new w
        → Writes old new w usage_told.bytes
        → IsPlayed ShowsUsage told fetches_old fetches_new puts_old puts_new old new (ended_as w Usage)
    by_written (Ok done) cause writes = record {
      answers = λ files over final. record { out = usage_told; plain = refl; bytes = writes.ok; status = refl };
      within = λ files over. part_written all_lines usage_told refl (whole old _ writes.ok);
      read = λ e. absurd (cc);
      write = λ e. absurd (cc);
      usage = λ e. refl;
      runs = λ e. absurd (neither (Ok done) e);
    }
    by_written (Err put.Failed) cause writes = record {
      answers = λ files over final. absurd final;
      within = λ files over. part_written all_lines usage_told refl writes.err;
      read = λ e. absurd (cc);
      write = λ e. cause.rose refl;
      usage = λ e. refl;
      runs = λ e. absurd (neither (Err put.Failed) e);
    }
    by_written (Err put.Memory) cause writes = record {
      answers = λ files over final. absurd final;
      within = λ files over. part_written all_lines usage_told refl writes.err;
      read = λ e. absurd (cc);
      write = λ e. absurd (cc);
      usage = λ e. refl;
      runs = λ e. absurd (neither (Err put.Memory) e);
    }

demo_within : (number : ℕ) (manner : Manner) (files : Files) (old new : Option (List ℕ))
    → IsWithin (Plays demo_run manner) (demo_files number) old new → IsWithin (PlaysDemo number manner) files old new
demo_within number manner files old new (nothing_written same) = nothing_written same
demo_within number manner files old new (part_written extent out plain part) = part_written extent out plain part

-- the files of a demo are played from a shelf of which no call fails
pub demo_played : (number : ℕ) (manner : Manner) (files : Files) (puts_old puts_new : ℕ) (old new : Option (List ℕ))
    (answer : Status) → files ≡ demo_files number
    → IsPlayed (Plays demo_run manner) (Some files) 0 0 puts_old puts_new old new answer
    → IsDemoPlayed number manner puts_old puts_new old new answer
demo_played number manner held puts_old puts_new old new answer made so told fetches_old fetches_new =
    let is_held : Some held ≡ Some (demo_files number) = ap Some made in
    record {
      answers = λ files over final.
          let all = so.answers (demo_files number) is_held final in
          record { out = all.out; plain = all.plain; bytes = all.bytes; status = all.status };
      within = λ files over. demo_within number manner files old new (so.within (demo_files number) is_held);
      read = λ e. absurd (never (so.read e).0);
      write = so.write;
      usage = λ e. absurd (runs (so.usage e));
      runs = λ e same. cc;
    }
  where
    never : ¬ (Rose 0 0)
    never rose = omega arith

    runs : ¬ (Plays demo_run manner ≡ ShowsUsage)
    runs same = cc

-- a run whose files are loaded asks for a run, and fetches no more
pub never_idle : (answer : Status) → ¬ (answer ≡ Usage) → ¬ (answer ≡ ReadFault) → ¬ (IsIdle answer)
never_idle Done usage read idle = idle
never_idle Usage usage read idle = usage refl
never_idle Refused usage read idle = idle
never_idle ReadFault usage read idle = read refl
never_idle WriteFault usage read idle = idle
never_idle NoMemory usage read idle = idle

-- where no call failed the run came to its end, or memory was wanting
pub completes : (fetches_old fetches_new puts_old puts_new : ℕ) (answer : Status)
    → (answer ≡ ReadFault → Rose fetches_old fetches_new) → (answer ≡ WriteFault → Rose puts_old puts_new)
    → ¬ (Rose fetches_old fetches_new) → ¬ (Rose puts_old puts_new) → IsAnswer answer ⊎ (answer ≡ NoMemory)
completes fetches_old fetches_new puts_old puts_new Done read write quiet still = inl tt
completes fetches_old fetches_new puts_old puts_new Usage read write quiet still = inl tt
completes fetches_old fetches_new puts_old puts_new Refused read write quiet still = inl tt
completes fetches_old fetches_new puts_old puts_new ReadFault read write quiet still = absurd (quiet (read refl))
completes fetches_old fetches_new puts_old puts_new WriteFault read write quiet still = absurd (still (write refl))
completes fetches_old fetches_new puts_old puts_new NoMemory read write quiet still = inr refl

-- one plan is another
pub within_as : {plan other : Plan} (told : Option Files) {old new : Option (List ℕ)} → plan ≡ other
    → ((files : Files) → IsOver told plan files → IsWithin plan files old new) → (files : Files)
    → IsOver told other files → IsWithin other files old new
within_as {plan} {other} told {old} {new} same within files over =
    subst (λ (p : Plan). IsWithin p files old new) same
    (within files (subst (λ (p : Plan). IsOver told p files) (sym same) over))
