-- a scene that isn't raised, and a script that is played on one
use Rattle.std.proofs.Common.{List, ap, arith, map, refl, subst, sym, ℕ, ◌∙◌, ◌≤◌, ◌+◌}
use Rattle.fx_base.specs.declared.work.Work.{Work}
use Rattle.fx_plain_dispatch.specs.Costs.{IsDoneWithin}
use Rattle.fx_load.specs.Loads.{loaded_of}
use Rattle.fx_plain.specs.declared.answers.Status.{Status}
use Rattle.fx_plain_runs.specs.Runs.{IsPut, written_of}
use Rattle.fx_plain_work.specs.Works.{Counted, Sight, counted, no_sight}
use Rattle.fx_play_runs.specs.Lines.{AreDone}
use Rattle.fx_play_frames.specs.Games.{game_of, sight_of}
use Rattle.fx_script_commands.specs.Requests.{line_view}
use Rattle.fx_play.specs.Ends.{IsLoadedPlayed}
use Rattle.fx_play.proofs.RunLemmas.{lines_put, not_staged}
use Rattle.fx_play.proofs.WorkLemmas.{done_put, unstaged_never}
use Rattle.fx_play.proofs.runs.play_loaded.Goals as goal

pub returns-in-Err-clause-played : goal.returns-in-Err-clause-played
returns-in-Err-clause-played g c =
    let sink = g.O.Sink in
    not_staged c.args.manner (loaded_of c.args.loaded) (sink.faults c.args.out.now)
    (sink.faults c.tell_unstaged.new.out) (sink.written c.args.out.now) (sink.written c.tell_unstaged.new.out)
    c.tell_unstaged.result c.in-Err.error c.in-Err.ensures.staged
    (rw c.as_slice.ensures.value at c.tell_unstaged.ensures)

pub returns-clause-played : goal.returns-clause-played
returns-clause-played g c =
    let sink = g.O.Sink in
    let AreTold : List ℕ → Type 0 =
    λ warnings. IsPut c.args.manner warnings (game_of c.in-Ok.game) (map line_view c.args.loaded.lines.items)
    (sink.written c.args.out.now) (sink.written c.put_played.new.out) c.put_played.result in
    let Ends : Status → Type 0 =
    λ status. IsLoadedPlayed c.args.manner (loaded_of c.args.loaded)
    (sink.faults c.args.out.now) (sink.faults c.put_played.new.out) (sink.written c.args.out.now)
    (sink.written c.put_played.new.out) status in
    subst Ends (sym c.ended-status.ensures)
    (lines_put c.args.manner (loaded_of c.args.loaded) (sink.faults c.args.out.now)
    (sink.faults c.put_played.new.out) (sink.written c.args.out.now) (sink.written c.put_played.new.out)
    (game_of c.in-Ok.game) c.put_played.result c.in-Ok.ensures.staged c.put_played.ensures.cause
    (subst AreTold c.as_slice-2.ensures.value c.put_played.ensures.put))

pub returns-in-Err-clause-work : goal.returns-in-Err-clause-work
returns-in-Err-clause-work g c done =
    let sink = g.O.Sink in
    absurd (unstaged_never c.as_slice.result.now c.in-Err.error (sink.faults c.args.out.now)
    (sink.faults c.tell_unstaged.new.out) (sink.written c.args.out.now) (sink.written c.tell_unstaged.new.out)
    c.tell_unstaged.result c.tell_unstaged.ensures done)

pub returns-clause-work : goal.returns-clause-work
returns-clause-work g c done =
    let sink = g.O.Sink in
    let count : Work g.row.L.Denot → Counted = λ w. counted w.styled w.laid w.painted in
    let lines = map line_view c.args.loaded.lines.items in
    let game = game_of c.in-Ok.game in
    let Wrote : List ℕ → Sight → Counted → Type 0 =
    λ warnings start n.
    IsDoneWithin (AreDone c.args.manner warnings game start lines (sink.written c.args.out.now)
    (sink.written c.put_played.new.out) n (count c.put_played.new.work)) c.staged.new.work.evaluated
    c.put_played.new.work.evaluated in
    let so =
    subst (Wrote (loaded_of c.args.loaded).warnings no_sight) (ap count c.in-Ok.ensures.others)
    (subst (λ (s : Sight). Wrote (loaded_of c.args.loaded).warnings s (count c.staged.new.work)) c.in-Ok.ensures.sight
    (subst (λ (w : List ℕ). Wrote w (sight_of c.in-Ok.game) (count c.staged.new.work)) c.as_slice-2.ensures.value
    (done_put c.put_played.result (sym c.ended-status.ensures ∙ done) c.put_played.ensures.work))) in
    let quiet : c.staged.new.work.evaluated ≤ c.args.work.now.evaluated = c.in-Ok.ensures.quiet in
    let few : c.put_played.new.work.evaluated ≤ c.staged.new.work.evaluated + so.cost = so.few in
    record {
      bytes = written_of c.args.manner (loaded_of c.args.loaded).warnings so.done.tolds;
      told = so.done.wrote;
      within = record {
        cost = so.cost;
        done = record {
          first = game;
          begun = c.in-Ok.ensures.staged;
          tolds = so.done.tolds;
          worked = so.done.worked;
          wrote = refl;
        };
        few = omega (arith, quiet, few);
      };
    }
