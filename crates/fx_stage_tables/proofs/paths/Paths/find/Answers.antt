use Rattle.std.proofs.Common.{◌∙◌, ap}
use Rattle.fx_stage_types.specs.Tables.{node_at}
use Rattle.fx_stage_tables.specs.Roomy.{RoomyPaths}
use Rattle.fx_stage_tables.proofs.PathLemmas.{found}
use Rattle.fx_stage_tables.proofs.paths.Paths.find.Goals as goal

pub returns : goal.returns
returns c =
    c.copied.ensures ∙ c.get.ensures.value ∙ found c.args.path.now c.self.inside.given.entries
    ∙ ap (λ (p : RoomyPaths). node_at p.list c.args.path.now) c.self.view_is
