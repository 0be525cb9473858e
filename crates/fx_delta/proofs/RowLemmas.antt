-- Bytes behind others at an error, and the line of an item.
use Rattle.std.proofs.Common.{◌≡◌, ℕ, List, [], ◌∷◌, ◌++◌, Result, Ok, Err, IsErrAnd, ◌∙◌, ap, append_assoc}
use Rattle.fx_row_text.specs.Appending.{Appends}

-- the way out at an error of a call
pub Appends-at_err : {T E : Type 0} {old mid new : List ℕ} (Q : E → Type 0) (front bytes : List ℕ) (result : Result T E)
    → IsErrAnd result Q → mid ≡ old ++ front → (more : List ℕ) × (new ≡ mid ++ more) → Appends old new result bytes
Appends-at_err Q front bytes (Ok x) at e more = absurd at
Appends-at_err {old = old} Q front bytes (Err x) at e more =
    record {
      ok = tt;
      err = (front ++ more.0, more.1 ∙ ap (λ (l : List ℕ). l ++ more.0) e ∙ append_assoc old front more.0);
    }

-- the head of an item, its pixels and the line feed
pub item_joins : (word x y pixels : List ℕ)
    → (word ++ (x ++ (32 ∷ (y ++ (32 ∷ []))))) ++ (pixels ++ (10 ∷ [])) ≡ (word ++ (x ++ (32 ∷ (y ++ (32 ∷ pixels))))) ++ (10 ∷ [])
item_joins word x y pixels = simp append_assoc
