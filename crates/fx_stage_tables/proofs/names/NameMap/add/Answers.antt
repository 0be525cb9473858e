use Rattle.std.proofs.Common.{◌∙◌, ◌++◌, ◌∷◌, [], ap}
use Rattle.std.specs.Map.{lookup}
use Rattle.std.specs.Str.{bytes_eq}
use Rattle.indexmap.proofs.CallerLemmas.{insert_entry-new}
use Rattle.fx_stage_tables.proofs.names.NameMap.add.Goals as goal

pub returns-in-Ok-clause-ok : goal.returns-in-Ok-clause-ok
returns-in-Ok-clause-ok c = λ d.
    d.in-Ok.ensures.entries
    ∙ insert_entry-new bytes_eq d.self.inside.given d.args.name d.args.item (ap (λ m. lookup (bytes_eq d.args.name) m.entries) d.self.view_is ∙ d.requires)
    ∙ ap (λ m. m.entries ++ (d.args.name, d.args.item) ∷ []) d.self.view_is
