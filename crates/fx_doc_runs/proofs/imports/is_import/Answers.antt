use Rattle.std.proofs.Common.{◌∙◌, ap}
use Rattle.std.specs.Prelude.{codes}
use Rattle.std.specs.Str.{bytes_eq}
use Rattle.fx_doc_runs.proofs.Names.{pointwise_same}
use Rattle.fx_doc_runs.proofs.imports.is_import.Goals as goal

pub returns : goal.returns
returns c = c.eq.ensures ∙ (pointwise_same c.as_str.result.now (codes "import") ∙ ap (λ y. bytes_eq y (codes "import")) c.as_str.ensures.value)
