-- the name stands for what it was given, and every other name for what it stood for
use Rattle.std.proofs.Common.{Some, string_bytes}
use Rattle.std.proofs.lemmas.Map.Text.{hash_map_updates_text}
use mathlib.Core.Path.{fun_ext}
use Rattle.fx_scene_things.proofs.names.Names.keep.Goals as goal

pub returns-in-Ok : goal.returns-in-Ok
returns-in-Ok c =
    let told = rw c.in-Ok.is at c.insert.ensures.updates in
    record {
      ok =
          fun_ext (λ name. hash_map_updates_text (string_bytes c.args.name) c.args.self.now.things c.insert.new.self (Some c.args.thing)
          told name);
    }
