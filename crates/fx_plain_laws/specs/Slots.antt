-- The slots of memory in which a course of actions keeps what its lines make, in the order of these lines.
use Rattle.std.specs.Prelude.{ℕ, ◌+◌, List, [], ◌∷◌, ◌++◌}
use Rattle.fx_event_lines.specs.declared.events.Event.{Event}
use Rattle.fx_events.specs.declared.kinds.EventKind.{EventKind}
use Rattle.fx_plain_dispatch.specs.Running.{AreCalled, AreRun, behind, lines_of, no_call, no_line, one_call, one_line}
use Rattle.fx_plain_dispatch.specs.Sending.{ArePassed, AreSent, Pass, calls_at, no_event, no_pass, one_event, one_pass, passes_of, sent_off}
use Rattle.fx_plain_dispatch.specs.Settling.{IsSettled, all_ran, one_ran, too_many}
use Rattle.fx_plain_steps.specs.Courses.{Course}
use Rattle.fx_script_commands.specs.Requests.{Numbered}

-- of the lines of one action
abbrev pub slots_of_run : (lines : List Numbered) (course now : Course) (cost : ℕ) → AreRun lines course now cost
    → List ℕ
slots_of_run lines course now cost (no_line c) = []
slots_of_run lines course now cost (one_line slot line rest c n more run) =
    slot ∷ slots_of_run rest (behind slot line c) n more run

-- of actions by their names
abbrev pub slots_of_calls : (names : List (List ℕ)) (course now : Course) (cost : ℕ) → AreCalled names course now cost
    → List ℕ
slots_of_calls names course now cost (no_call c) = []
slots_of_calls names course now cost (one_call name rest c next n one more run called) =
    slots_of_run (lines_of c.world name) c next one run ++ slots_of_calls rest next n more called

-- of an event on its way
abbrev pub slots_of_passes : (on : EventKind) (passes : List Pass) (course now : Course) (cost : ℕ)
    → ArePassed on passes course now cost → List ℕ
slots_of_passes on passes course now cost (no_pass c) = []
slots_of_passes on passes course now cost (one_pass pass rest c next n one more called passed) =
    slots_of_calls (calls_at on pass c) c next one called ++ slots_of_passes on rest next n more passed

-- of events, one after another
abbrev pub slots_of_events : (events : List Event) (course now : Course) (cost : ℕ) → AreSent events course now cost
    → List ℕ
slots_of_events events course now cost (no_event c) = []
slots_of_events events course now cost (one_event event rest c next n one more passed sent) =
    slots_of_passes event.on (passes_of event c) (sent_off event c) next one passed
    ++ slots_of_events rest next n more sent

-- of the listeners that were told
abbrev pub slots_of_settling : (number left place : ℕ) (course now : Course) (cost : ℕ)
    → IsSettled number left place course now cost → List ℕ
slots_of_settling number left place course now cost (all_ran l p c none) = []
slots_of_settling number left place course now cost (one_ran l p run c next n one more found ran settled) =
    slots_of_run run.1 c next one ran ++ slots_of_settling number l (run.0 + 1) next n more settled
slots_of_settling number left place course now cost (too_many p run c found) = []
