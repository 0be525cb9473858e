-- A listed call takes the front of the piece, and what it leaves is the rest.
use Rattle.std.proofs.Common.{Some, take, drop, ap}
use Rattle.std.proofs.lemmas.List.{take-append-drop}
use Rattle.fx_port.proofs.memory_pieces.MemorySinkSink.put.Goals as goal

pub returns-clause-writes : goal.returns-clause-writes
returns-clause-writes c =
    record {
      ok = tt;
      err =
          record {
            front = take c.min.result c.args.piece.now;
            prefix = (drop c.min.result c.args.piece.now, take-append-drop c.min.result c.args.piece.now);
            told = rw (← c.self.view_is) (ap Some c.in_ok-extend_from_slice-2.ensures.items);
          };
    }
