-- the number so far and the digits that are left make the number
use Rattle.std.proofs.Common.{◌≡◌, ◌≤◌, ◌-◌, ◌^◌, drop, min}
use Rattle.fx_text.specs.Digits.{number_behind}
use Rattle.fx_expr.proofs.decimals.number_of.Given as goal

abbrev pub invariant-loop-byte : goal.invariant-loop-byte
invariant-loop-byte l = record {
  number : min (number_behind l.number (drop l.byte-index l.digits)) (2 ^ 64 - 1)
      ≡ min (number_behind 0 l.digits) (2 ^ 64 - 1);
  fits : l.number ≤ 2 ^ 64 - 1;
}
