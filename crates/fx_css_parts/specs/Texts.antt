-- The identifiers of style sheets, and what is spelled between white.
-- White, marks and identifiers are ASCII, so no byte of a longer character is one of theirs.
use Rattle.std.specs.Prelude.{ℕ, Bool, ◌&&◌, nat_le, if◌then◌else◌, List, length, Option, Some, None}
use Rattle.fx_text.specs.Identifiers.{is_style_identifier}
use Rattle.fx_text.specs.Trimming.{IsTrimmed}

-- an optional `-`, an ASCII letter or `_`, and then letters, digits, `_` and `-`: of at most 4,096 bytes in all
abbrev pub is_ident : List ℕ → Bool
is_ident text = is_style_identifier text && nat_le (length text) 4096

-- a text that is spelled between white
pub record IsBetweenWhite {A : Type 0} (Spells : List ℕ → A → Type 0) (text : List ℕ) (x : A) : Type 0 where
  pub inner : List ℕ
  pub is_inner : IsTrimmed text inner
  pub spells : Spells inner x

-- the reading

abbrev pub ident_at : List ℕ → Option (List ℕ)
ident_at text = if is_ident text then Some text else None
