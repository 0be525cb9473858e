use Rattle.std.proofs.Common.{rules, ◌∙◌, ap, not, ℕ, List, Vec}
use Rattle.std.specs.Global.{Global}
use Rattle.fx_base.specs.declared.keys.NodeKey.{NodeKey}
use Rattle.fx_tree.specs.Scene.{has}
use Rattle.fx_stage_types.specs.Tables.{without_paths}
use Rattle.fx_stage_tables.specs.Given.{paths_of}
use Rattle.fx_stage_tables.specs.Roomy.{RoomyPaths}
use Rattle.indexmap.proofs.CallerLemmas.{filter-RetainsPairs}
use Rattle.fx_stage_tables.proofs.PathLemmas.{without}
use Rattle.fx_stage_tables.proofs.paths.Paths.forget.Goals as goal

pub returns : goal.returns
returns c =
    ap paths_of
    (filter-RetainsPairs _ (λ (e : Vec (List ℕ) Global × NodeKey). not (has c.args.keys.now e.1)) _ (λ k v b w g call. search rules) _ _
    c.retain.ensures.filtered)
    ∙ without c.args.keys.now c.self.inside.given.entries
    ∙ ap (λ (p : RoomyPaths). without_paths c.args.keys.now p.list) c.self.view_is
