-- The greatest so far, voice by voice.
use Rattle.std.specs.Prelude.{ℕ, List, [], ◌∷◌, Option, if◌then◌else◌}
use Rattle.std.specs.Str.{bytes_eq}
use Rattle.fx_css_types.specs.declared.sheets.Candidate.{Candidate}
use Rattle.fx_cascade.specs.declared.sources.Source.{Source}
use Rattle.fx_cascade.specs.Ranks.{greater}
use Rattle.fx_cascade.specs.Sources.{Voice}

abbrev pub hear : List Candidate → List ℕ → Option Source → Voice → Option Source
hear matched name best v = if bytes_eq v.name name then greater matched best v.source else best

abbrev pub heard : List Candidate → List ℕ → Option Source → List Voice → Option Source
heard matched name best [] = best
heard matched name best (v ∷ vs) = heard matched name (hear matched name best v) vs
