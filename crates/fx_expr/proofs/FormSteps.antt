-- One token more of the form.
use Rattle.std.proofs.Common.{◌≡◌, ◌<◌, ℕ, Bool, false, List, [], ◌∷◌, zero, suc, length, drop, get_or, sym, ap, arith}
use Rattle.fx_expr.specs.declared.tokens.Token.{Token}
use Rattle.fx_expr.specs.Form.{has_form}

dropped : (ts : List Token) (i : ℕ) (t : Token) → i < length ts → t ≡ get_or ts i t → drop i ts ≡ t ∷ drop (suc i) ts
dropped [] i t below is = absurd (omega arith)
dropped (x ∷ ts) zero t below is = ap (λ y. y ∷ ts) (sym is)
dropped (x ∷ ts) (suc i) t below is = dropped ts i t (omega arith) is

pub form_fails : (wanted : Bool) (count : ℕ) (ts : List Token) (i : ℕ) (t : Token) → i < length ts → t ≡ get_or ts i t
    → ((rest : List Token) → has_form wanted count (t ∷ rest) ≡ false) → has_form wanted count (drop i ts) ≡ false
form_fails wanted count ts i t below is fails = rw (dropped ts i t below is) (fails (drop (suc i) ts))
