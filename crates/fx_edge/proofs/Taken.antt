-- How what a writer tells to hold grows over several writes.
use Rattle.std.proofs.Common.{ℕ, ◌-◌, List, ◌++◌, length, Option, Some, None, ◌∙◌, ap, append_assoc, take, drop, take-append-drop}
use Rattle.std.proofs.lemmas.List.{take_rest}
use Rattle.std.specs.Io.KnownBytes.{Appends}
use Rattle.fx_edge.specs.Taken.{AppendsUpTo}

-- one write after another
Appends-then : (old mid new : Option (List ℕ)) (a b : List ℕ) → Appends old mid a → Appends mid new b → Appends old new (a ++ b)
Appends-then None mid new a b first second = tt
Appends-then (Some xs) None new a b first second = absurd first
Appends-then (Some xs) (Some ys) None a b first second = absurd second
Appends-then (Some xs) (Some ys) (Some zs) a b first second = second ∙ ap (λ (l : List ℕ). l ++ b) first ∙ append_assoc xs a b

-- one more write of a loop
pub goes_on : {old mid new : Option (List ℕ)} {all left : List ℕ} (n : ℕ)
    → AppendsUpTo old mid all left → Appends mid new (take n left) → AppendsUpTo old new all (take (length left - n) (drop n left))
goes_on {old} {mid} {new} {all} {left} n before more =
    record {
      front = before.front ++ take n left;
      joins =
          append_assoc before.front (take n left) (take (length left - n) (drop n left))
          ∙ ap (λ (l : List ℕ). before.front ++ (take n left ++ l)) (take_rest left n)
          ∙ ap (λ (l : List ℕ). before.front ++ l) (take-append-drop n left)
          ∙ before.joins;
      told = Appends-then old mid new before.front (take n left) before.told more;
    }
