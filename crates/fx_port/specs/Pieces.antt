-- Bytes that grow: what a sink has taken before and after something was written to it.
use Rattle.std.specs.Prelude.{◌≡◌, ℕ, List, ◌++◌, Option, Result, OnOk, OnErr}
use Rattle.std.specs.Option.{option_map}

-- what is written after these bytes too; of a sink that doesn't tell, nothing is known
abbrev pub grown : Option (List ℕ) → List ℕ → Option (List ℕ)
grown written bytes = option_map (λ held. held ++ bytes) written

-- the first list begins the second
abbrev pub IsPrefix : List ℕ → List ℕ → Type 0
IsPrefix front all = (rest : List ℕ) × (front ++ rest ≡ all)

-- what is written grew by a prefix of these bytes
pub record GrewByPrefix (old new : Option (List ℕ)) (all : List ℕ) : Type 0 where
  pub front : List ℕ
  pub prefix : IsPrefix front all
  pub told : new ≡ grown old front

-- it grew by all the bytes at Ok, and by a prefix of them at an error
pub record Writes {T E : Type 0} (old new : Option (List ℕ)) (result : Result T E) (bytes : List ℕ) : Type 0 where
  pub ok : OnOk result (new ≡ grown old bytes)
  pub err : OnErr result (GrewByPrefix old new bytes)

-- it grew by what stands in `all` before `rest`: what a loop that writes keeps true
pub record GrewUpTo (old new : Option (List ℕ)) (all rest : List ℕ) : Type 0 where
  pub front : List ℕ
  pub joins : front ++ rest ≡ all
  pub told : new ≡ grown old front
