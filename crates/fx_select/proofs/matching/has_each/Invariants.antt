-- the rest tells it
use Rattle.std.proofs.Common.{◌≡◌, drop}
use Rattle.std.specs.List.{list_all}
use Rattle.fx_select.specs.Matching.{has_text}
use Rattle.fx_select.proofs.matching.has_each.Given as goal

abbrev pub invariant-loop-text : goal.invariant-loop-text
invariant-loop-text l =
    list_all (has_text l.texts) (drop l.text-index l.wanted) ≡ list_all (has_text l.texts) l.wanted
