use Rattle.std.proofs.Common.{◌≡◌, None, map, drop}
use Rattle.fx_cascade.specs.Sources.{code_voice}
use Rattle.fx_cascade.specs.Winners.{heard}
use Rattle.fx_cascade.proofs.one_property.best_code.Given as goal

abbrev pub invariant-loop-code : goal.invariant-loop-code
invariant-loop-code l =
    heard l.matched l.property l.best (map code_voice (drop l.code-index l.codes))
    ≡ heard l.matched l.property None (map code_voice l.codes)
