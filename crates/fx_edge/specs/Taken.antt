-- What a writer takes of a piece, as far as the writer tells its bytes; of one that tells nothing this says nothing.
use Rattle.std.specs.Prelude.{◌≡◌, ℕ, List, ◌++◌, Option, Result, OnOk, OnErr}
use Rattle.std.specs.Io.KnownBytes.{Appends}
use Rattle.fx_port.specs.Pieces.{IsPrefix}

-- the bytes grew by a prefix of these
pub record AppendsPrefix (old new : Option (List ℕ)) (all : List ℕ) : Type 0 where
  pub front : List ℕ
  pub prefix : IsPrefix front all
  pub told : Appends old new front

-- the bytes grew by all of these at Ok, and by a prefix of them at an error
pub record Takes {T E : Type 0} (old new : Option (List ℕ)) (result : Result T E) (bytes : List ℕ) : Type 0 where
  pub ok : OnOk result (Appends old new bytes)
  pub err : OnErr result (AppendsPrefix old new bytes)

-- the bytes grew by what stands in `all` before `rest`
pub record AppendsUpTo (old new : Option (List ℕ)) (all rest : List ℕ) : Type 0 where
  pub front : List ℕ
  pub joins : front ++ rest ≡ all
  pub told : Appends old new front
