-- Which looks are others once fresh entries stand in their places.
use Rattle.std.specs.Prelude.{ℕ, ◌≡◌, ◌⊎◌, false, List, [], ◌∷◌, ◌++◌, slice_get, Some}
use Rattle.fx_look.specs.declared.looks.Look.{Look}
use Rattle.fx_style.specs.declared.kept.Fresh.{Fresh}
use Rattle.fx_style.specs.Kept.{is_among, put_looks}

-- at every other place than these stands what stood there
abbrev pub NamesChanges : List Look → List Fresh → List ℕ → Type 0
NamesChanges looks fresh places =
    (at : ℕ) → is_among places at ≡ false → slice_get (put_looks looks fresh) at ≡ slice_get looks at

-- the place of an entry is noted, or its look stands there already
abbrev pub IsNoted : List Look → Fresh → List ℕ → List ℕ → Type 0
IsNoted looks one old new =
    (new ≡ old ++ one.at ∷ []) ⊎ ((new ≡ old) × (slice_get looks one.at ≡ Some one.entry.style.look))
