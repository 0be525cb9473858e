-- what is still to be read behind the pixels so far gives what all the words give
use Rattle.std.proofs.Common.{◌≡◌, ◌++◌, ◌∷◌, ℕ, List, Bor, map, drop}
use Rattle.std.specs.Option.{option_map}
use Rattle.fx_delta.specs.Lines.{pixels_of}
use Rattle.fx_delta.proofs.lines.first_pixels.Given as goal

abbrev pub invariant-loop-word : goal.invariant-loop-word
invariant-loop-word l =
    option_map (λ more. l.pixels.items ++ more) (pixels_of (map (λ (word : Bor (List ℕ)). word.now) (drop l.word-index l.words)))
    ≡ pixels_of (l.first ∷ map (λ (word : Bor (List ℕ)). word.now) l.words)
