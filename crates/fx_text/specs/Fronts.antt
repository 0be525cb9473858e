-- The front of a text whose characters pass a test, and what is behind it.
use Rattle.std.specs.Prelude.{ℕ, Bool, true, not, List, [], ◌∷◌, take, drop}
use Rattle.std.specs.List.{prefix_len}

-- the longest front whose characters pass
abbrev pub front : (ℕ → Bool) → List ℕ → List ℕ
front test text = take (prefix_len test text) text

-- what is behind it
abbrev pub behind : (ℕ → Bool) → List ℕ → List ℕ
behind test text = drop (prefix_len test text) text

-- the first character, if there is one, fails the test
abbrev pub stops : (ℕ → Bool) → List ℕ → Bool
stops test [] = true
stops test (c ∷ cs) = not (test c)
