-- What an outcome that is Ok has, and what follows of it.
use Rattle.std.proofs.Common.{Result, Ok, Err}
use Rattle.std.specs.Result.{IfOk}

pub if_ok : {T E : Type 0} (r : Result T E) (P Q : T → Type 0) → IfOk r P → ((x : T) → P x → Q x) → IfOk r Q
if_ok (Ok x) P Q p f = f x p
if_ok (Err e) P Q p f = tt
