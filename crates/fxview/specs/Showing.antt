-- What showing one line does.
use Rattle.std.specs.Prelude.{◌≡◌, ℕ, List, [], Bool, true, false, Option, Result, Ok, Err, IsErr, IsOkAnd}
use Rattle.fx_delta.specs.Stream.{Flaw, Screen, Step}
use Rattle.fx_port.specs.Pieces.{GrewByPrefix, grown}

-- what a step writes, or nothing
abbrev pub written_for : Result Step Flaw → List ℕ
written_for (Ok step) = step.written
written_for (Err flaw) = []

-- a good line gave what its step says, a bad one nothing; at an error a part of that was written
abbrev pub GaveLine : {E : Type 0}
    → Option (List ℕ) → Option (List ℕ) → Screen → Result Step Flaw → Result Bool E → Type 0
GaveLine old new after step (Ok true) = IsOkAnd step (λ does. (after ≡ does.screen) × (new ≡ grown old does.written))
GaveLine old new after step (Ok false) = IsErr step × (new ≡ old)
GaveLine old new after step (Err e) = GrewByPrefix old new (written_for step)
