-- A sink in memory as its callers see it.
use Rattle.std.specs.Prelude.{ℕ, ◌==◌, List, Option}
use Rattle.std.specs.Option.{option_map}
use Rattle.std.specs.List.{find}

-- the bytes taken, the calls that fail with how many bytes each takes, and the counts of calls and of faults
pub record SinkState : Type 0 where
  pub written : List ℕ
  pub failing : List (ℕ × ℕ)
  pub calls : ℕ
  pub faults : ℕ

-- how many bytes this call takes before it fails, if it is one that fails; the first entry of a call counts
abbrev pub bytes_before_failure : List (ℕ × ℕ) → ℕ → Option ℕ
bytes_before_failure failing call =
    option_map (λ (entry : ℕ × ℕ). entry.1) (find (λ (entry : ℕ × ℕ). entry.0 == call) failing)
