-- Answers of calls that can be refused, by the refusal that is due.
use Rattle.std.specs.Prelude.{◌≡◌, ◌⊎◌, Bool, List, [], ◌∷◌, Option, Some, None, Result, Ok, Err, if◌then◌else◌}

-- the call is refused just as said, and takes no memory
abbrev pub IsFirmAnswer : {T E : Type 0} → Option E → Result T E → Type 0
IsFirmAnswer None (Ok value) = Unit {0}
IsFirmAnswer None (Err error) = ⊥
IsFirmAnswer (Some refusal) (Ok value) = ⊥
IsFirmAnswer (Some refusal) (Err error) = error ≡ refusal

-- the call is refused just as said; memory may be wanting, which is this error
abbrev pub IsAnswer : {T E : Type 0} → E → Option E → Result T E → Type 0
IsAnswer memory None (Ok value) = Unit {0}
IsAnswer memory None (Err error) = error ≡ memory
IsAnswer memory (Some refusal) (Ok value) = ⊥
IsAnswer memory (Some refusal) (Err error) = (error ≡ refusal) ⊎ (error ≡ memory)

-- the first refusal, and else the second
abbrev pub or_else : {E : Type 0} → Option E → Option E → Option E
or_else None others = others
or_else (Some refusal) others = Some refusal

-- this error of the first that passes the test
abbrev pub refused_first : {X E : Type 0} → (X → E) → (X → Bool) → List X → Option E
refused_first error test [] = None
refused_first error test (x ∷ xs) = if test x then Some (error x) else refused_first error test xs
