-- Who is alive: the owners that were made and not released.
use Rattle.std.specs.Prelude.{ℕ, ◌+◌, ◌==◌, ◌≡◌, ◌≢◌, ◌<◌, ◌≤◌, Bool, ◌&&◌, not, List, [], ◌∷◌, ◌++◌, length, map, filter, All, AllPairs, Contains}
use Rattle.std.specs.List.{range_with_len}
use Rattle.fx_handles.specs.declared.Owner.{Owner}

-- the living owners in order of birth, and the last birth number that was given, 0 at first
pub record Register : Type 0 where
  pub living : List Owner
  pub born : ℕ

-- both have one slot and one birth number
abbrev pub is_same : Owner → Owner → Bool
is_same one other = (one.slot == other.slot) && (one.birth == other.birth)

-- nobody is alive, and no birth number was given
abbrev pub nobody : Register
nobody = record { living = []; born = 0 }

-- this owner is alive too
abbrev pub after_make : Register → Owner → Register
after_make register owner = record { living = register.living ++ owner ∷ []; born = owner.birth }

-- this owner isn't alive, and all others stay as they were
abbrev pub after_release : Register → Owner → Register
after_release register owner =
    record { living = filter (λ other. not (is_same other owner)) register.living; born = register.born }

-- what is true of the living owners: birth numbers rise from 1 on, slots differ, and no number is above the last one
-- given
pub record IsSound (register : Register) : Type 0 where
  pub rising : AllPairs (λ (one other : Owner). one.birth < other.birth) register.living
  pub apart : AllPairs (λ (one other : Owner). one.slot ≢ other.slot) register.living
  pub given : All (λ (owner : Owner). owner.birth ≤ register.born) register.living
  pub born : All (λ (owner : Owner). 0 < owner.birth) register.living
  pub few : length register.living ≤ 10000

-- calls lead from the first register to this one, and these owners were made on the way
pub data LeadsTo (first : Register) : List Owner → Register → Type 0 where
  none : LeadsTo first [] first
  made : {owners : List Owner} {register : Register} (owner : Owner)
      → owner.birth ≡ register.born + 1 → LeadsTo first owners register
      → LeadsTo first (owners ++ owner ∷ []) (after_make register owner)
  released : {owners : List Owner} {register : Register} (owner : Owner)
      → LeadsTo first owners register → LeadsTo first owners (after_release register owner)

-- the owners that are made from the start on have the birth numbers 1, 2, 3 and so on
abbrev pub EachBirthOnce : Type 0
EachBirthOnce =
    (owners : List Owner) (register : Register) → LeadsTo nobody owners register
    → map (λ (owner : Owner). owner.birth) owners ≡ range_with_len 1 (length owners)

-- an owner whose birth number was given and who isn't alive is never alive again
abbrev pub DeadStayDead : Type 0
DeadStayDead =
    (first later : Register) (owners : List Owner) (owner : Owner) → LeadsTo first owners later
    → owner.birth ≤ first.born → ¬ (Contains first.living owner) → ¬ (Contains later.living owner)
