-- The share of a total over caps: the caps filled up to the greatest level that takes no more than the total, and of
-- those above it the first by one more, as many as are left.
use Rattle.std.specs.Prelude.{ℕ, zero, suc, Bool, ◌-◌, ◌≤◌, All, List, nat_le, if◌then◌else◌}
use Rattle.fx_share.specs.Levels.{filled, levelled}
use Rattle.fx_share.specs.Parts.{IsShare}
use Rattle.fx_panes_parts.specs.Lengths.{longest}

-- the greatest number up to a bound that passes the test, or 0
unfoldable pub greatest : (ℕ → Bool) → ℕ → ℕ
greatest test zero = 0
greatest test (suc n) = if test (suc n) then suc n else greatest test n

-- the greatest level, but the longest length at most, up to which the total fills the caps
unfoldable pub level_of : ℕ → List ℕ → ℕ
level_of total caps = greatest (λ level. nat_le (filled level caps) total) longest

unfoldable pub share_of : ℕ → List ℕ → List ℕ
share_of total caps = levelled (level_of total caps) (total - filled (level_of total caps) caps) caps

-- over lengths it is the share, of which there is one
abbrev pub ShareIsShare : Type 0
ShareIsShare = (total : ℕ) (caps : List ℕ) → All (λ cap. cap ≤ longest) caps → IsShare total caps (share_of total caps)
