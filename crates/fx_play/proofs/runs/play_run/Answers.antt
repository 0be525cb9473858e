-- files that weren't loaded, and a run whose files are
use Rattle.fx_load.specs.Loads.{loaded_of}
use Rattle.fx_load_parts.specs.Views.{run_of}
use Rattle.fx_play.proofs.RunLemmas.{loaded_played, never_idle, not_loaded}
use Rattle.fx_play.proofs.WorkLemmas.{unloaded_never}
use Rattle.fx_play.proofs.runs.play_run.Goals as goal

pub returns-in-Err-clause-played : goal.returns-in-Err-clause-played
returns-in-Err-clause-played g c =
    let shelf = g.F.Shelf in
    let sink = g.O.Sink in
    not_loaded (run_of c.args.run.now) c.args.manner (shelf.held c.args.shelf.now) (shelf.faults c.args.shelf.now)
    (shelf.faults c.load.new.shelf) (sink.faults c.args.out.now) (sink.faults c.tell_unloaded.new.out)
    (sink.written c.args.out.now) (sink.written c.tell_unloaded.new.out) c.tell_unloaded.result c.in-Err.error
    c.in-Err.ensures.says c.in-Err.ensures.cause c.tell_unloaded.ensures

pub returns-clause-played : goal.returns-clause-played
returns-clause-played g c =
    let shelf = g.F.Shelf in
    let sink = g.O.Sink in
    loaded_played (run_of c.args.run.now) c.args.manner (shelf.held c.args.shelf.now)
    (shelf.faults c.args.shelf.now) (shelf.faults c.load.new.shelf) (loaded_of c.in-Ok.loaded)
    (sink.faults c.args.out.now) (sink.faults c.play_loaded.new.out) (sink.written c.args.out.now)
    (sink.written c.play_loaded.new.out) c.play_loaded.result c.in-Ok.ensures.says c.play_loaded.ensures.played

pub returns-clause-idle : goal.returns-clause-idle
returns-clause-idle g c idle =
    absurd (never_idle c.play_loaded.result c.play_loaded.ensures.played.usage c.play_loaded.ensures.played.read idle)

pub returns-in-Err-clause-work : goal.returns-in-Err-clause-work
returns-in-Err-clause-work g c files held done =
    let sink = g.O.Sink in
    absurd (unloaded_never c.in-Err.error (sink.faults c.args.out.now) (sink.faults c.tell_unloaded.new.out)
    (sink.written c.args.out.now) (sink.written c.tell_unloaded.new.out) c.tell_unloaded.result
    c.tell_unloaded.ensures done)

pub returns-clause-work : goal.returns-clause-work
returns-clause-work g c files held done =
    let worked = c.play_loaded.ensures.work done in
    record {
      bytes = worked.bytes;
      told = worked.told;
      within = record {
        cost = worked.within.cost;
        done = record {
          loaded = loaded_of c.in-Ok.loaded;
          elaborated = c.in-Ok.ensures.says files held;
          work = worked.within.done;
        };
        few = worked.within.few;
      };
    }
