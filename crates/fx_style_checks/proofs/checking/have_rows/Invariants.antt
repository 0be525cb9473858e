-- the code values of the nodes so far are of rows
use Rattle.std.proofs.Common.{◌≡◌, ◌<◌, ℕ, Some}
use Rattle.std.specs.Prelude.{slice_get}
use Rattle.fx_kinds.specs.declared.facts.StyleFacts.{StyleFacts}
use Rattle.fx_cascade.specs.Tables.{AreRows}
use Rattle.fx_style_checks.proofs.checking.have_rows.Given as goal

abbrev pub invariant-loop-node : goal.invariant-loop-node
invariant-loop-node l =
    (at : ℕ) (node : StyleFacts) → at < l.node-index → slice_get l.facts at ≡ Some node → AreRows node.codes
