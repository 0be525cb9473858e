use Rattle.std.proofs.Common.{sym, ◌∙◌}
use Rattle.fx_doc_runs.proofs.modes.Mode.take_valued.Goals as goal

pub unreachable-requires : goal.unreachable-requires
unreachable-requires c = c.in_default.not-Quoted c.requires.0 (c.replace.ensures.value ∙ c.requires.1)

pub returns-clause-value : goal.returns-clause-value
returns-clause-value c = sym c.replace.ensures.value ∙ c.in-Quoted.is
