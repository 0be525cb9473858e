-- What the code's decimals and powers stand for.
use Rattle.std.specs.Prelude.{ℕ, List}
use Rattle.std.specs.Borrow.{Bor}
use Rattle.fx_look.specs.Decimals.{Decimal}
use Rattle.fx_look.specs.Numbers.{Power}
use Rattle.fx_look.specs.declared.decimals.Decimal.{Decimal as Written}
use Rattle.fx_look.specs.declared.numbers.Power.{Power as WrittenPower}

abbrev pub written : Written → Decimal
written d = record { negative = d.negative; whole = d.whole.now; fraction = d.fraction.now }

abbrev pub power_of_ten : WrittenPower → Power
power_of_ten p = record { up = p.up; down = p.down }

abbrev pub parts_of : Bor (List ℕ) × Bor (List ℕ) → List ℕ × List ℕ
parts_of p = (p.0.now, p.1.now)

abbrev pub decimal_and_rest : Written × Bor (List ℕ) → Decimal × List ℕ
decimal_and_rest p = (written p.0, p.1.now)

abbrev pub value_and_rest : ℕ × Bor (List ℕ) → ℕ × List ℕ
value_and_rest p = (p.0, p.1.now)
