-- the rest tells it
use Rattle.std.proofs.Common.{◌≡◌, drop}
use Rattle.fx_select.specs.Matching.{has_text}
use Rattle.fx_select.proofs.matching.has_text.Given as goal

abbrev pub invariant-loop-one : goal.invariant-loop-one
invariant-loop-one l = has_text (drop l.one-index l.texts) l.text ≡ has_text l.texts l.text
