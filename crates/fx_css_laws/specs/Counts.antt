-- Where the parts of a list are first past a limit: as many as may be stand before it, or a part of its own is past
-- one. Cited by src/limits.rt.
use Rattle.std.specs.Prelude.{◌≡◌, ◌<◌, ◌⊎◌, ℕ, All, List, [], ◌∷◌, ◌++◌, length, None, Some}
use Rattle.fx_css.specs.declared.declarations.Kept.{Kept}
use Rattle.fx_css.specs.Rules.{Reading}
use Rattle.fx_css.specs.Sheets.{IsFirstNumber}

-- Of declarations, one behind as many as may be begins with a number, or a ninth layer of one before it does. No
-- declaration before that one has a ninth layer.
pub record IsPastDeclaration (limit : ℕ) (all : List Kept) (number : ℕ) : Type 0 where
  pub before : List Kept
  pub next : Kept
  pub behind : List Kept
  pub cut : all ≡ before ++ (next ∷ behind)
  pub within : All (λ k. k.past ≡ None) before
  pub why : ((length before ≡ limit) × (number ≡ next.start))
      ⊎ ((length before < limit) × (next.past ≡ Some number))

-- the same of rules, in each of which is told what is past a limit
pub record IsPastRule (limit : ℕ) (all : List Reading) (number : ℕ) : Type 0 where
  pub before : List Reading
  pub next : Reading
  pub behind : List Reading
  pub cut : all ≡ before ++ (next ∷ behind)
  pub within : All (λ r. r.past ≡ []) before
  pub why : ((length before ≡ limit) × (number ≡ next.start))
      ⊎ ((length before < limit) × IsFirstNumber next.past number)
