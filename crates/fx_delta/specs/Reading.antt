-- What the reader of lines finds, and what taking a line does.
use Rattle.std.specs.Prelude.{ℕ, ◌≡◌, ◌<◌, List, ◌++◌, Option, Some, None, Result, Ok, Err, OnOk, OnErr, IsErr, IsOkAnd, length, nat_le, if◌then◌else◌}
use Rattle.fx_text.specs.Digits.{capped}
use Rattle.fx_delta.specs.Lines.{Item, words}
use Rattle.fx_delta.specs.Stream.{Flaw, Screen, Step}
use Rattle.fx_delta.specs.declared.lines.FoundItem.{FoundItem}

-- the words of a line, unless there are more than so many
abbrev pub few_words : ℕ → List ℕ → Option (List (List ℕ))
few_words most line = if nat_le (length (words line)) most then Some (words line) else None

-- a row item that is found; one of more pixels than any picture has in a row may be left out
abbrev pub IsFound : Option FoundItem → Option Item → Type 0
IsFound None None = Unit {0}
IsFound None (Some item) = 2048 < length item.pixels
IsFound (Some found) None = ⊥
IsFound (Some found) (Some item) =
    (found.x ≡ capped item.x) × (found.y ≡ capped item.y) × (found.pixels.items ≡ item.pixels)

-- a call that does what the step says, and answers `bad` only where there is none; at an error the screen stays
pub record Takes {T E : Type 0} (bad : E) (step : Result Step Flaw) (old new : Screen) (was now : List ℕ)
    (result : Result T E) : Type 0 where
  pub ok : OnOk result (IsOkAnd step (λ does. (new ≡ does.screen) × (now ≡ was ++ does.written)))
  pub is_bad : result ≡ Err bad → IsErr step
  pub err : OnErr result ((new ≡ old) × ((more : List ℕ) × (now ≡ was ++ more)))
