-- What it is to share a number out.
use Rattle.std.specs.Prelude.{◌≡◌, ℕ, ◌+◌, ◌<◌, ◌≤◌, ◌⊎◌, List, length, sum, min, slice_index}

-- under a level a part is its cap where the cap is at most the level, and else the level or one more
pub record IsPart (level cap part : ℕ) : Type 0 where
  pub small : cap ≤ level → part ≡ cap
  pub large : level < cap → (part ≡ level) ⊎ (part ≡ level + 1)

-- the parts add up to the total, or to the caps where these add up to less; they are parts under one level,
-- and of those whose caps are above it none that has the level stands before one that has one more
pub record IsShare (total : ℕ) (caps parts : List ℕ) : Type 0 where
  pub same_length : length parts ≡ length caps
  pub whole : sum parts ≡ min total (sum caps)
  pub level : ℕ
  pub even : (k : ℕ) → k < length caps → IsPart level (slice_index caps k) (slice_index parts k)
  pub in_order : (i k : ℕ) → i < k → k < length caps → level < slice_index caps i → level < slice_index caps k
      → slice_index parts i ≡ level → slice_index parts k ≡ level + 1 → ⊥

-- each total and caps have a share
abbrev pub SomeShare : Type 0
SomeShare = (total : ℕ) (caps : List ℕ) → (parts : List ℕ) × IsShare total caps parts

-- and they have no other
abbrev pub OneShare : Type 0
OneShare = (total : ℕ) (caps one other : List ℕ) → IsShare total caps one → IsShare total caps other → one ≡ other
