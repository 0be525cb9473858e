-- Modes of comments, which hold nothing, as contracts see them.
-- The reader's own steps cite these; no public clause does.
use Rattle.std.specs.Prelude.{◌≡◌, ℕ, Bool, true, false, List, ◌∷◌, drop, Option, Some, None}
use Rattle.fx_doc_grammar.specs.declared.Entity.{Entity}
use Rattle.fx_doc_grammar.specs.declared.Turn.TheVariants.{Further}
use Rattle.fx_doc_grammar.specs.Machine as m
use Rattle.fx_doc_runs.specs.declared.light.Light.{Light}
use Rattle.fx_doc_runs.specs.declared.light.Light.TheVariants as v

abbrev pub light_view : m.Stack → Light → m.Mode
light_view s v.Inside = m.Inside
light_view s v.BangDashed = m.BangDashed
light_view s v.Commented = m.Commented
light_view s v.Dashed = m.Dashed
light_view s v.DashDashed = m.DashDashed

-- the machine goes on in such a mode, or not at all
abbrev pub light_state : m.Held → m.Stack → Option Light → Option m.State
light_state h s None = None
light_state h s (Some l) = m.at h (light_view s l)

-- a character more of an end tag's name
abbrev pub TakesEnd : ℕ → List ℕ → ℕ → ℕ → Bool → Type 0
TakesEnd c name n n' true = drop n name ≡ c ∷ drop n' name
TakesEnd c name n n' false = n' ≡ n

-- a character more of a reference
abbrev pub TakesTurn : ℕ → Entity → Entity → Bool → Type 0
TakesTurn c e e' true = m.entity_step e c ≡ Some (Further e')
TakesTurn c e e' false = e' ≡ e
