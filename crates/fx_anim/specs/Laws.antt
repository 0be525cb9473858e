-- Time adds up, however it is divided into ticks.
use Rattle.std.specs.Prelude.{◌≡◌, ℕ, ◌+◌, ◌<◌, true, List, fold, sum}
use Rattle.fx_anim.specs.Line.{Line, longest, passed, sets_at, sets_in, ticked}

-- a timeline after so many ticks
abbrev pub after_ticks : List ℕ → Line → Line
after_ticks ticks line = fold (λ line ms. ticked ms line) line ticks

-- A timeline that was just started and still plays after some ticks has come as far as their sum, and one tick more
-- lists what its properties are after the sum of all.
pub record TicksAddUp : Type 0 where
  pub passes : (line : Line) (ticks : List ℕ) → line.elapsed ≡ 0 → line.playing ≡ true
      → 0 < longest line.frames → (after_ticks ticks line).playing ≡ true
      → (after_ticks ticks line).elapsed ≡ passed line.cycles.count (longest line.frames) (sum ticks)
  pub lists : (line : Line) (ticks : List ℕ) (ms : ℕ) → line.elapsed ≡ 0 → line.playing ≡ true
      → 0 < longest line.frames → (after_ticks ticks line).playing ≡ true
      → sets_in ms (after_ticks ticks line) ≡ sets_at line (sum ticks + ms)
