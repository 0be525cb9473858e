-- One part after the other gets its length by a plan.
use Rattle.std.proofs.Common.{◌≡◌, ℕ, suc, true, false, cond, ◌+◌, ◌-◌, ◌≤◌, ◌∙◌, ap, List, [], ◌∷◌, arith, drop, length, map, refl, subst, sum, sum_by}
use Rattle.std.specs.Prelude.{nat_le, nat_lt}
use Rattle.std.proofs.lemmas.List.{drop_all, length-map}
use Rattle.fx_share.specs.Levels.{filled, levelled}
use Rattle.fx_panes_parts.specs.declared.parted.Room.{Room}
use Rattle.fx_panes_parts.specs.declared.parted.Room.TheVariants.{Above, Below}
use Rattle.fx_panes_parts.specs.declared.parts.Part.{Part}
use Rattle.fx_panes_parts.specs.declared.level.Level.{Level}
use Rattle.fx_panes_parts.specs.declared.tracks.Plan.{Plan}
use Rattle.fx_panes_parts.specs.Parts.{room_in, rooms}
use Rattle.fx_panes_parts.specs.Shares.{level_of, share_of}
use Rattle.fx_panes_parts.specs.Tracks.{lengthened, lengths_by, tracked}

-- a level gives so much to a cap, and is then this one
abbrev pub Gives : Level → ℕ → ℕ → Level → Type 0
Gives old cap part new = (caps : List ℕ) → levelled old.level old.more (cap ∷ caps) ≡ part ∷ levelled new.level new.more caps

pub next_length : (old new : Plan) (p : Part) (result l a s below always_room sometimes_room : ℕ)
    → result ≡ p.pref + (a + s) - l
    → below ≡ room_in Below p → always_room ≡ room_in (Above 2) p → sometimes_room ≡ room_in (Above 1) p
    → Gives old.less below l new.less → Gives old.always always_room a new.always
    → Gives old.sometimes sometimes_room s new.sometimes
    → (parts : List Part) → lengths_by old (p ∷ parts) ≡ result ∷ lengths_by new parts
unfolding lengths_by
next_length old new p result l a s below always_room sometimes_room result_is below_is always_is sometimes_is
    less always sometimes parts =
    let first : Gives old.less (room_in Below p) l new.less = subst (λ (n : ℕ). Gives old.less n l new.less) below_is less in
    let second : Gives old.always (room_in (Above 2) p) a new.always =
    subst (λ (n : ℕ). Gives old.always n a new.always) always_is always in
    let third : Gives old.sometimes (room_in (Above 1) p) s new.sometimes =
    subst (λ (n : ℕ). Gives old.sometimes n s new.sometimes) sometimes_is sometimes in
    rw (first (rooms Below parts), second (rooms (Above 2) parts), third (rooms (Above 1) parts), result_is) refl

pub no_lengths : (plan : Plan) → lengths_by plan [] ≡ []
unfolding lengths_by
no_lengths plan = refl

-- a level gives the share of a total over the room of the parts
abbrev pub GivesShare : Level → ℕ → List ℕ → Type 0
GivesShare level total caps = levelled level.level level.more caps ≡ share_of total caps

-- three levels that give the shares make the plan of the track rule
pub plan_shares : (parts : List Part) (room wanted given : ℕ) (less always sometimes : Level)
    → wanted ≡ sum_by (λ (part : Part). part.pref) parts
    → given ≡ sum (levelled always.level always.more (rooms (Above 2) parts))
    → GivesShare less (wanted - room) (rooms Below parts)
    → GivesShare always (room - wanted) (rooms (Above 2) parts)
    → GivesShare sometimes (room - wanted - given) (rooms (Above 1) parts)
    → lengths_by (record { less = less; always = always; sometimes = sometimes }) parts ≡ tracked room parts
unfolding lengths_by tracked
plan_shares parts room wanted given less always sometimes wanted_is given_is taken first second =
    let given_too : given ≡ sum (share_of (room - wanted) (rooms (Above 2) parts)) = rw first at given_is in
    rw (taken, first, second, given_too, wanted_is) refl

-- when all parts have come, the sum is whole
pub whole_ends : {X : Type 0} (plan : Plan) (f : X → Part) (parts : List X) (i so_far whole : ℕ) → length parts ≤ i
    → so_far + sum (lengths_by plan (map f (drop i parts))) ≡ whole → so_far ≡ whole
whole_ends plan f parts i so_far whole past same =
    let none : drop i parts ≡ [] = drop_all i parts past in
    let ends : so_far + sum (lengths_by plan []) ≡ whole = rw none at same in
    let last : so_far + 0 ≡ whole = rw no_lengths at ends in
    omega (arith, last)

length-levelled : (level more : ℕ) (caps : List ℕ) → length (levelled level more caps) ≡ length caps
length-levelled level more [] = refl
length-levelled level more (cap ∷ caps) =
    elim (nat_le cap level) as (λ b. length (cond b (cap ∷ levelled level more caps)
    (cond (nat_lt 0 more) ((level + 1) ∷ levelled level (more - 1) caps) (level ∷ levelled level more caps))) ≡ suc (length caps)) [
      | true ↦ ap suc (length-levelled level more caps)
      | false ↦
          elim (nat_lt 0 more) as (λ b. length (cond b ((level + 1) ∷ levelled level (more - 1) caps) (level ∷ levelled level more caps)) ≡ suc (length caps)) [
            | true ↦ ap suc (length-levelled level (more - 1) caps)
            | false ↦ ap suc (length-levelled level more caps)
          ]
    ]

pub length-share_of : (total : ℕ) (caps : List ℕ) → length (share_of total caps) ≡ length caps
unfolding share_of
length-share_of total caps = length-levelled (level_of total caps) (total - filled (level_of total caps) caps) caps

length-lengthened : (parts : List Part) (less always sometimes : List ℕ)
    → length less ≡ length parts → length always ≡ length parts → length sometimes ≡ length parts
    → length (lengthened parts less always sometimes) ≡ length parts
length-lengthened [] less always sometimes one two three = refl
length-lengthened (p ∷ ps) [] always sometimes one two three = absurd (omega (arith, one))
length-lengthened (p ∷ ps) (l ∷ ls) [] sometimes one two three = absurd (omega (arith, two))
length-lengthened (p ∷ ps) (l ∷ ls) (a ∷ rest) [] one two three = absurd (omega (arith, three))
length-lengthened (p ∷ ps) (l ∷ ls) (a ∷ rest) (s ∷ ss) one two three =
    ap suc (length-lengthened ps ls rest ss (omega (arith, one)) (omega (arith, two)) (omega (arith, three)))

-- each part has a length
pub length-tracked : (room : ℕ) (parts : List Part) → length (tracked room parts) ≡ length parts
unfolding tracked
length-tracked room parts =
    length-lengthened parts _ _ _ (one _ Below) (one _ (Above 2)) (one _ (Above 1))
  where
    one : (total : ℕ) (room : Room) → length (share_of total (rooms room parts)) ≡ length parts
    one total room = length-share_of total (rooms room parts) ∙ length-map parts (room_in room)
