-- the rows so far are printed, and all show what they did
use Rattle.std.proofs.Common.{◌≡◌, ◌<◌, ℕ, false}
use Rattle.fx_canvas.specs.Surfaces.{row_at}
use Rattle.fx_canvas.proofs.canvas.refresh_all.Given as goal

abbrev pub invariant-loop-y : goal.invariant-loop-y
invariant-loop-y l = ((y : ℕ) → y < l.y → (row_at l.rows y).stale ≡ false)
    × ((y : ℕ) → (row_at l.rows y).pixels ≡ (row_at l.fn.rows y).pixels)
