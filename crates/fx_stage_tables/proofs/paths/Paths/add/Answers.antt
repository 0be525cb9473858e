use Rattle.std.proofs.Common.{◌∙◌, ◌++◌, ◌∷◌, [], ap}
use Rattle.fx_stage_types.specs.Tables.{node_at}
use Rattle.fx_stage_tables.specs.Given.{paths_of}
use Rattle.fx_stage_tables.specs.Roomy.{RoomyPaths}
use Rattle.indexmap.proofs.CallerLemmas.{insert_entry-new}
use Rattle.fx_stage_tables.proofs.PathLemmas.{found, pushed}
use Rattle.fx_stage_tables.proofs.paths.Paths.add.Goals as goal

pub returns-clause-ok : goal.returns-clause-ok
returns-clause-ok c =
    let given = c.self.inside.given in
    let absent =
    found c.args.path.items given.entries ∙ ap (λ (p : RoomyPaths). node_at p.list c.args.path.items) c.self.view_is ∙ c.requires in
    ap paths_of (c.in-Ok.ensures.entries ∙ insert_entry-new _ given c.args.path c.args.key absent)
    ∙ pushed given.entries (c.args.path, c.args.key)
    ∙ ap (λ (p : RoomyPaths). p.list ++ (c.args.path.items, c.args.key) ∷ []) c.self.view_is
