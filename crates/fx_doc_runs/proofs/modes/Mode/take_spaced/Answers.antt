use Rattle.std.proofs.Common.{sym, ◌∙◌}
use Rattle.fx_doc_runs.proofs.modes.Mode.take_spaced.Goals as goal

pub unreachable-requires : goal.unreachable-requires
unreachable-requires c = c.in_default.not-Spaced c.requires.0 (c.replace.ensures.value ∙ c.requires.1)

pub returns-clause-tag : goal.returns-clause-tag
returns-clause-tag c = sym c.replace.ensures.value ∙ c.in-Spaced.is
