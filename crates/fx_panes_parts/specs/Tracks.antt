-- The track rule, by which rows and grids give lengths to their parts.
-- Cited by src/tracks.rt and by those panes.
use Rattle.std.specs.Prelude.{ℕ, ◌+◌, ◌-◌, List, [], ◌∷◌, sum, sum_by}
use Rattle.fx_share.specs.Levels.{levelled}
use Rattle.fx_panes_parts.specs.declared.level.Level.{Level}
use Rattle.fx_panes_parts.specs.declared.parted.Room.{Room}
use Rattle.fx_panes_parts.specs.declared.parted.Room.TheVariants.{Above, Below}
use Rattle.fx_panes_parts.specs.declared.parts.Part.{Part}
use Rattle.fx_panes_parts.specs.declared.tracks.Plan.{Plan}
use Rattle.fx_panes_parts.specs.Parts.{rooms}
use Rattle.fx_panes_parts.specs.Shares.{share_of}

-- the preferred length of each part, with what it is given twice and less what is taken off it
abbrev pub lengthened : List Part → List ℕ → List ℕ → List ℕ → List ℕ
lengthened [] less always sometimes = []
lengthened (p ∷ ps) [] always sometimes = []
lengthened (p ∷ ps) (l ∷ ls) [] sometimes = []
lengthened (p ∷ ps) (l ∷ ls) (a ∷ rest) [] = []
lengthened (p ∷ ps) (l ∷ ls) (a ∷ rest) (s ∷ ss) = (p.pref + (a + s) - l) ∷ lengthened ps ls rest ss

-- The lengths of the parts in so much room. What is left beyond the preferred lengths is shared over the parts that
-- grow ALWAYS (2), and what then remains over those that grow SOMETIMES (1). What is lacking is shared over all, and
-- taken off.
unfoldable pub tracked : ℕ → List Part → List ℕ
tracked room parts =
    let wanted = sum_by (λ part. part.pref) parts in
    let less = share_of (wanted - room) (rooms Below parts) in
    let always = share_of (room - wanted) (rooms (Above 2) parts) in
    let sometimes = share_of (room - wanted - sum always) (rooms (Above 1) parts) in
    lengthened parts less always sometimes

-- what a level gives to the room of each part
abbrev pub shares_by : Level → Room → List Part → List ℕ
shares_by level room parts = levelled level.level level.more (rooms room parts)

-- the lengths of the parts by a plan
unfoldable pub lengths_by : Plan → List Part → List ℕ
lengths_by plan parts = lengthened parts
    (shares_by plan.less Below parts)
    (shares_by plan.always (Above 2) parts)
    (shares_by plan.sometimes (Above 1) parts)
