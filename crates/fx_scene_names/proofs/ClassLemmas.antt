-- Full names: a package, a full stop and what stands behind it.
use Rattle.std.proofs.Common.{◌≡◌, ◌≢◌, ◌++◌, ◌∷◌, ℕ, Bool, true, false, List, Option, Some, None, Bor, refl, sym, ap, ◌∙◌}
use Rattle.std.specs.Prelude.{MatchOption}
use Rattle.std.specs.Str.{bytes_eq}
use Rattle.std.proofs.lemmas.List.{append_cancel_left}
use Rattle.std.proofs.lemmas.Slice.Eq.{bytes_eq-Decides}
use Rattle.fx_text.specs.Characters.{full_stop}

-- a text without the package in front is no full name
pub unqualified : (front name text : List ℕ) → ((rest : List ℕ) → text ≢ front ++ (full_stop ∷ rest))
    → bytes_eq (front ++ (full_stop ∷ name)) text ≡ false
unqualified front name text none = by (bytes_eq (front ++ (full_stop ∷ name)) text) refl where
  by : (b : Bool) → bytes_eq (front ++ (full_stop ∷ name)) text ≡ b → b ≡ false
  by false e = refl
  by true e = absurd (none name (sym ((bytes_eq-Decides (front ++ (full_stop ∷ name)) text).0 e)))

-- no text behind a front that isn't there
pub no_front : (front text : List ℕ) → ((rest : List ℕ) → text ≢ front ++ rest) → (rest : List ℕ) → text ≢ front ++ (full_stop ∷ rest)
no_front front text none rest = none (full_stop ∷ rest)

-- the front is there, and what follows is told
pub behind_front : (front text after : List ℕ) → text ≡ front ++ after → (o : Option (Bor (List ℕ)))
    → MatchOption o ((rest : List ℕ) → after ≢ full_stop ∷ rest) (λ r. after ≡ full_stop ∷ r.now)
    → MatchOption o ((rest : List ℕ) → text ≢ front ++ (full_stop ∷ rest)) (λ r. text ≡ front ++ (full_stop ∷ r.now))
behind_front front text after is None none = λ rest e. none rest (append_cancel_left front after (full_stop ∷ rest) (sym is ∙ e))
behind_front front text after is (Some r) e = is ∙ ap (λ t. front ++ t) e
