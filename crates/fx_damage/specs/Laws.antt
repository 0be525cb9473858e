-- What damage is good for: outside it, both pictures show the same.
use Rattle.std.specs.Prelude.{◌≡◌, ◌<◌, ℕ, List, Some, false}
use Rattle.fx_damage.specs.Damage.{damage}
use Rattle.fx_picture.specs.Entries.{HasDistinctBirths, Rises}
use Rattle.fx_picture.specs.Pixels.{covered, pixel}
use Rattle.fx_picture.specs.declared.entries.Entry.{Entry}

abbrev pub SameOutside : Type 0
SameOutside = (olds nows : List Entry) (w h x y : ℕ)
    → Rises olds → Rises nows → HasDistinctBirths olds → HasDistinctBirths nows → x < w → y < h
    → covered (damage (Some olds) nows w h) x y ≡ false → pixel olds x y ≡ pixel nows x y
