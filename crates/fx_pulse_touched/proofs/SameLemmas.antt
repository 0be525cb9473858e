-- Two flags are compared.
use Rattle.std.proofs.Common.{◌≡◌, Bool, true, false}
use Rattle.std.specs.Bool.{Decides, beq}

pub Decides-flag : (a b : Bool) → Decides (beq a b) (a ≡ b)
Decides-flag true true = (λ e. cc, λ e. cc)
Decides-flag true false = (λ e. cc, λ e. cc)
Decides-flag false true = (λ e. cc, λ e. cc)
Decides-flag false false = (λ e. cc, λ e. cc)
