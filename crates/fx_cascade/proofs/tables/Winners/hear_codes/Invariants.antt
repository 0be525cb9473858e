use Rattle.std.proofs.Common.{◌≡◌, ℕ, List, map, drop}
use Rattle.fx_cascade.specs.Sources.{code_voice}
use Rattle.fx_cascade.specs.Tables.{source_of}
use Rattle.fx_cascade.specs.Winners.{heard}
use Rattle.fx_cascade.proofs.tables.Winners.hear_codes.Given as goal

abbrev pub invariant-loop-code : goal.invariant-loop-code
invariant-loop-code l = (name : List ℕ)
    → heard l.matched name (source_of l.self name) (map code_voice (drop l.code-index l.codes))
    ≡ heard l.matched name (source_of l.initial.self name) (map code_voice l.codes)
