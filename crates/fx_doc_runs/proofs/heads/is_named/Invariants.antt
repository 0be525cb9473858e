use Rattle.std.proofs.Common.{◌≡◌, false}
use Rattle.fx_doc_grammar.specs.Grammar.{is_among}
use Rattle.fx_doc_runs.proofs.Names.{names_to}
use Rattle.fx_doc_runs.proofs.heads.is_named.Given as goal

abbrev pub invariant-loop-attribute : goal.invariant-loop-attribute
invariant-loop-attribute l = is_among l.name (names_to l.attributes l.attribute-index) ≡ false
