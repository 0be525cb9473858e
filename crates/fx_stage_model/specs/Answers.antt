-- What a line or a step answers: a word that refuses it, or the world that it makes and what it tells.
use Rattle.std.specs.Prelude.{◌≡◌, ◌≢◌, ◌⊎◌, ℕ, Bool, nat_le, List, [], ◌∷◌, Option, Some, None, Result, Ok, Err, if◌then◌else◌}
use Rattle.fx_base.specs.declared.positions.Place.{Place}
use Rattle.fx_base.specs.declared.values.Value.{Value}
use Rattle.fx_store_model.specs.declared.changes.Notices.{Notices}
use Rattle.fx_stage_types.specs.declared.refusals.Refusal.{Refusal}
use Rattle.fx_stage_types.specs.Words.{rank}
use Rattle.fx_stage_model.specs.World.{World}

-- the word that comes first
abbrev pub earlier : Refusal → Refusal → Refusal
earlier one other = if nat_le (rank one) (rank other) then one else other

-- what comes next, unless a word refuses it
abbrev pub and_then : {A B : Type 0} → Result A Refusal → (A → Result B Refusal) → Result B Refusal
and_then (Ok a) next = next a
and_then (Err refusal) next = Err refusal

-- this word, if it is so
abbrev pub unless : {B : Type 0} → Bool → Refusal → Result B Refusal → Result B Refusal
unless so refusal next = if so then Err refusal else next

-- what is there, or this word
abbrev pub or_word : {A : Type 0} → Refusal → Option A → Result A Refusal
or_word refusal None = Err refusal
or_word refusal (Some a) = Ok a

-- both, or the first word in the order of words
abbrev pub both : {A B : Type 0} → Result A Refusal → Result B Refusal → Result (A × B) Refusal
both (Ok a) (Ok b) = Ok (a, b)
both (Ok a) (Err refusal) = Err refusal
both (Err refusal) (Ok b) = Err refusal
both (Err refusal) (Err other) = Err (earlier refusal other)

-- all of them, or the first word in the order of words
unfoldable pub all : {A : Type 0} → List (Result A Refusal) → Result (List A) Refusal
all [] = Ok []
all {A} (one ∷ others) = and_then (both one (all others)) (λ (found : A × List A). Ok (found.0 ∷ found.1))

-- what a line that isn't refused makes and tells: the world before the watched properties are read, and the world
-- after; and how many expressions it evaluates at most
pub record Taken : Type 0 where
  pub made : World
  pub world : World
  pub value : Option Value
  pub notices : Notices
  pub warnings : List Place
  pub cost : ℕ

-- nobody is told of anything
abbrev pub quiet : Notices
quiet = record { added = None; invalid = []; changed = [] }

-- a world, of which nothing is told
abbrev pub silently : World → Result Taken Refusal
silently world = Ok (record { made = world; world = world; value = None; notices = quiet; warnings = []; cost = 0 })

-- how many expressions are evaluated at most: none where a word refuses
abbrev pub cost_of : Result Taken Refusal → ℕ
cost_of (Ok taken) = taken.cost
cost_of (Err refusal) = 0
