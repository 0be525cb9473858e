-- Answers that are one are so in what they hold.
use Rattle.std.proofs.Common.{◌≡◌, ap, Result, Ok, Err}

ok_or : {X Y : Type 0} → X → Result X Y → X
ok_or default (Ok x) = x
ok_or default (Err y) = default

err_or : {X Y : Type 0} → Y → Result X Y → Y
err_or default (Ok x) = default
err_or default (Err y) = y

pub both_ok : {X Y : Type 0} (one other : X) → ◌≡◌ {A = Result X Y} (Ok one) (Ok other) → one ≡ other
unfolding ok_or
both_ok one other same = ap (ok_or one) same

pub both_err : {X Y : Type 0} (one other : Y) → ◌≡◌ {A = Result X Y} (Err one) (Err other) → one ≡ other
unfolding err_or
both_err one other same = ap (err_or one) same

pub ok_err : {X Y : Type 0} (one : X) (other : Y) → ◌≡◌ {A = Result X Y} (Ok one) (Err other) → ⊥
ok_err one other same = absurd (cc)
