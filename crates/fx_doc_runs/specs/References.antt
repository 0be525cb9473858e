-- The letters of a reference that stand ahead.
-- The reader's own steps cite these; no public clause does.
use Rattle.std.specs.Prelude.{◌≡◌, ℕ, true, List, [], ◌∷◌, ◌++◌, Some}
use Rattle.fx_text.specs.Characters as ascii
use Rattle.fx_doc_grammar.specs.declared.Entity.{Entity}
use Rattle.fx_doc_grammar.specs.declared.Entity.TheVariants.{Begun}
use Rattle.fx_doc_grammar.specs.declared.Turn.TheVariants.{Further, Whole}
use Rattle.fx_doc_grammar.specs.Machine.{entity_step}
use Rattle.fx_doc_drafts.specs.Ahead.{is_flat}

-- these characters lead from one state of a reference to another
abbrev pub Letters : Entity → List ℕ → Entity → Type 0
Letters e [] f = e ≡ f
Letters e (x ∷ xs) f = (m : Entity) × (entity_step e x ≡ Some (Further m)) × (is_flat x ≡ true) × Letters m xs f

-- the text goes on with the rest of a reference that stands for this character
pub record Refers (entity : Entity) (text : List ℕ) (found : ℕ) (rest : List ℕ) : Type 0 where
  pub letters : List ℕ
  pub last : ℕ
  pub end : Entity
  pub split : text ≡ letters ++ (last ∷ rest)
  pub along : Letters entity letters end
  pub flat : is_flat last ≡ true
  pub whole : entity_step end last ≡ Some (Whole found)

-- the text goes on with a reference that stands for this character
pub record IsReference (text : List ℕ) (found : ℕ) (rest : List ℕ) : Type 0 where
  pub behind : List ℕ
  pub begun : text ≡ ascii.ampersand ∷ behind
  pub refers : Refers Begun behind found rest
