use Rattle.std.proofs.Common.{◌≡◌, ◌++◌, map, drop}
use Rattle.fx_cascade.specs.Sources.{code_voice, sources_for}
use Rattle.fx_explain.proofs.collected.push_codes.Given as goal

abbrev pub invariant-loop-code : goal.invariant-loop-code
invariant-loop-code l =
    l.sources.items ++ sources_for l.property (map code_voice (drop l.code-index l.codes))
    ≡ l.initial.sources.items ++ sources_for l.property (map code_voice l.codes)
