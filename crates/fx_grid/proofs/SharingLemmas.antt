-- What is shared out is the one share over equal caps.
use Rattle.std.proofs.Common.{◌≡◌, ℕ, ◌+◌, ◌-◌, ◌^◌, ◌≤◌, List, length, min, sum, refl, arith}
use Rattle.std.specs.Prelude.{replicate}
use Rattle.std.specs.Simd.Lanes.{zip2}
use Rattle.std.proofs.lemmas.List.Elements.{All-replicate}
use Rattle.fx_share.specs.Parts.{IsShare}
use Rattle.fx_share.proofs.Parts.{one_share}
use Rattle.fx_panes_parts.specs.Lengths.{longest}
use Rattle.fx_panes_parts.specs.Shares.{share_of}
use Rattle.fx_panes_parts.proofs.ShareLemmas.{share_law}
use Rattle.fx_grid.specs.Tracks.{shared_out}

-- a share over equal caps is what the definition says
share_is : (total count : ℕ) (parts : List ℕ) → IsShare total (replicate count longest) parts
    → parts ≡ share_of total (replicate count longest)
share_is total count parts shared =
    one_share total (replicate count longest) parts (share_of total (replicate count longest)) shared
    (share_law total (replicate count longest) (All-replicate (λ (cap : ℕ). cap ≤ longest) count longest (omega arith)))

pub shared_out_is : (need whole count : ℕ) (lengths : List ℕ) (lack : ℕ) (more out : List ℕ)
    → need ≤ 300000 → whole ≡ min (sum lengths) (2 ^ 64 - 1) → lack ≡ need - whole → count ≡ length lengths
    → IsShare lack (replicate count longest) more
    → out ≡ zip2 (λ one more. one + more) lengths more → out ≡ shared_out need lengths
unfolding shared_out
shared_out_is need whole count lengths lack more out small whole_is lack_is count_is shared out_is =
    let exact : lack ≡ need - sum lengths = omega (arith, small, whole_is, lack_is) in
    let given : IsShare (need - sum lengths) (replicate (length lengths) longest) more = rw (exact, count_is) at shared in
    rw (out_is, share_is (need - sum lengths) (length lengths) more given) refl
