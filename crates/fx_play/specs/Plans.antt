-- What is played, as the definitions have it.
use Rattle.std.specs.Prelude.{◌≤◌}
use Rattle.fx_load_parts.specs.Views.{run_of}
use Rattle.fx_plain.specs.CommandLine.{Plan, Plays, PlaysDemo, ShowsUsage}
use Rattle.fx_play.specs.declared.plans.Plan.{Plan as Held}
use Rattle.fx_play.specs.declared.plans.Plan.TheVariants as held

abbrev pub plan_view : Held → Plan
plan_view (held.Plays run manner) = Plays (run_of run) manner
plan_view (held.PlaysDemo number manner) = PlaysDemo number manner
plan_view held.ShowsUsage = ShowsUsage

-- a demo that is played has from 1 to 3,600 labels
abbrev pub HasLabels : Plan → Type 0
HasLabels (Plays run manner) = Unit {0}
HasLabels (PlaysDemo number manner) = (1 ≤ number) × (number ≤ 3600)
HasLabels ShowsUsage = Unit {0}
