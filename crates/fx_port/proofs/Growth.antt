-- How what is written grows: the steps of a loop that writes, and the ways out of it.
use Rattle.std.proofs.Common.{◌≡◌, ℕ, List, [], ◌++◌, Option, Some, None, Result, Ok, Err, refl, sym, ◌∙◌, ap, append_assoc, append-nil, IsErrAnd}
use Rattle.fx_port.specs.Pieces.{grown, GrewByPrefix, Writes, GrewUpTo}

-- nothing more is nothing written
grown-nil : (w : Option (List ℕ)) → w ≡ grown w []
grown-nil None = refl
grown-nil (Some held) = ap Some (sym (append-nil held))

-- one piece after another is both at once
grown-grown : (w : Option (List ℕ)) (a b : List ℕ) → grown (grown w a) b ≡ grown w (a ++ b)
grown-grown None a b = refl
grown-grown (Some held) a b = ap Some (append_assoc held a b)

-- the start: nothing is written, and all is left
pub up_to_start : (w : Option (List ℕ)) (all : List ℕ) → GrewUpTo w w all all
up_to_start w all = record { front = []; joins = refl; told = grown-nil w }

-- a piece more
pub goes_on : {old mid new : Option (List ℕ)} {all left : List ℕ} (given rest : List ℕ)
    → GrewUpTo old mid all left → left ≡ given ++ rest → new ≡ grown mid given → GrewUpTo old new all rest
goes_on {old} {mid} {new} {all} {left} given rest before split after =
    record {
      front = before.front ++ given;
      joins = append_assoc before.front given rest ∙ ap (λ (l : List ℕ). before.front ++ l) (sym split) ∙ before.joins;
      told = after ∙ ap (λ (w : Option (List ℕ)). grown w given) before.told ∙ grown-grown old before.front given;
    }

-- the end: nothing is left
pub reaches_end : {old new : Option (List ℕ)} {all left : List ℕ}
    → GrewUpTo old new all left → left ≡ [] → new ≡ grown old all
reaches_end {old} {new} {all} {left} before nothing =
    before.told
    ∙ ap (grown old) (sym (append-nil before.front) ∙ ap (λ (l : List ℕ). before.front ++ l) (sym nothing) ∙ before.joins)

-- a stop between two pieces
pub stops_between : {old new : Option (List ℕ)} {all left : List ℕ} → GrewUpTo old new all left → GrewByPrefix old new all
stops_between {old} {new} {all} {left} before =
    record { front = before.front; prefix = (left, before.joins); told = before.told }

-- a stop within a piece
pub stops_within : {old mid new : Option (List ℕ)} {all left given : List ℕ} (rest : List ℕ)
    → GrewUpTo old mid all left → left ≡ given ++ rest → GrewByPrefix mid new given → GrewByPrefix old new all
stops_within {old} {mid} {new} {all} {left} {given} rest before split part =
    record {
      front = before.front ++ part.front;
      prefix = (
        part.prefix.0 ++ rest,
        append_assoc before.front part.front (part.prefix.0 ++ rest)
            ∙ ap (λ (l : List ℕ). before.front ++ l)
            (sym (append_assoc part.front part.prefix.0 rest) ∙ ap (λ (l : List ℕ). l ++ rest) part.prefix.1 ∙ sym split)
            ∙ before.joins,
      );
      told = part.told ∙ ap (λ (w : Option (List ℕ)). grown w part.front) before.told ∙ grown-grown old before.front part.front;
    }

-- the way out of a function that writes, at an error of a call
pub Writes-at_err : {T E : Type 0} {old new : Option (List ℕ)} {all : List ℕ} (Q : E → Type 0) (result : Result T E)
    → IsErrAnd result Q → GrewByPrefix old new all → Writes old new result all
Writes-at_err Q (Ok _) at part = absurd at
Writes-at_err Q (Err e) at part = record { ok = tt; err = part }
