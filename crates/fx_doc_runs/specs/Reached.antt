-- Where the reader is in a text: what is behind it, its position, and the machine's state.
-- The loop over a text goes by this; no public clause cites it.
use Rattle.std.specs.Prelude.{◌≡◌, ◌≤◌, ◌+◌, ℕ, Bool, true, false, List, [], ◌∷◌, ◌++◌, length, Option, Some}
use Rattle.std.specs.List.{list_all}
use Rattle.std.specs.Str.{chars, IsUtf8}
use Rattle.fx_base.specs.Positions.{start, after, after_all}
use Rattle.fx_doc_drafts.specs.Ahead.{is_low, is_flat}
use Rattle.fx_doc_grammar.specs.Characters.{class_of}
use Rattle.fx_doc_grammar.specs.Grammar.{Level, first_shown}
use Rattle.fx_doc_grammar.specs.Machine as machine
use Rattle.fx_doc_grammar.specs.Beginnings.{IsWithinLimits}
use Rattle.fx_base.specs.declared.positions.Position.{Position}
use Rattle.fx_doc_runs.specs.Views.{head_view}
use Rattle.fx_doc_runs.specs.declared.modes.Head.{Head}
use Rattle.fx_doc_runs.specs.declared.modes.Valued.{Valued}
use Rattle.std.specs.String.{string_bytes}

-- the machine goes over these characters within the limits
abbrev pub Calm : Position → machine.State → List ℕ → machine.State → Type 0
Calm p s [] s' = s ≡ s'
Calm p s (c ∷ cs) s' = (m : machine.State) × (machine.step p s c ≡ Some m) × (machine.is_deep m ≡ false)
    × (machine.is_long m ≡ false) × Calm (after p c) m cs s'

-- the machine is there behind these characters, which are within the limits
pub record Said (said : List ℕ) (p : Position) (s : machine.State) : Type 0 where
  pub state : machine.run start (Some machine.initial) said ≡ Some s
  pub position : p ≡ after_all start said
  pub within : IsWithinLimits said

-- a part of a text was taken, in ASCII and without the end of a line, and the rest is left
pub record TookFlat (before : List ℕ) (p : Position) (s : machine.State) (rest : List ℕ)
    (s' : machine.State) : Type 0 where
  pub part : List ℕ
  pub split : before ≡ part ++ rest
  pub flat : list_all is_flat part ≡ true
  pub calm : Calm p s part s'

-- a part of a text was taken, in ASCII, and the rest is left, which goes on at that position
pub record Took (before : List ℕ) (p : Position) (s : machine.State) (rest : List ℕ) (q : Position)
    (s' : machine.State) : Type 0 where
  pub part : List ℕ
  pub split : before ≡ part ++ rest
  pub low : list_all is_low part ≡ true
  pub place : q ≡ after_all p part
  pub calm : Calm p s part s'

-- the text goes on with a part whose characters pass a test, and the rest is behind it, at that position
pub record IsPast (test : ℕ → Bool) (text : List ℕ) (p : Position) (rest : List ℕ) (q : Position) : Type 0 where
  pub part : List ℕ
  pub split : text ≡ part ++ rest
  pub each : list_all test part ≡ true
  pub place : q ≡ after_all p part

-- the text begins with this part, whose characters pass a test, and the rest is behind it
pub record IsRun (test : ℕ → Bool) (text part rest : List ℕ) : Type 0 where
  pub split : text ≡ part ++ rest
  pub each : list_all test part ≡ true

-- a run of an element's text, and what it makes of the level at hand
abbrev pub run_first : Position → List ℕ → Option Position → Option Position
run_first p [] first = first
run_first p (c ∷ cs) first = run_first (after p c) cs (first_shown first p (class_of c))

abbrev pub run_level : Position → List ℕ → Level → Level
run_level p cs l = record {
  nodes = l.nodes;
  run = l.run ++ cs;
  first = run_first p cs l.first;
  count = l.count + length cs;
}

-- in the value of an attribute
abbrev pub quoted_at : machine.Held → Valued → machine.State
quoted_at h x = record {
  held = h;
  mode = machine.Quoted (head_view x.head) x.position (string_bytes x.key.text) x.quote (string_bytes x.value.text)
      x.value.count;
}

-- a value went on over a part of a text
abbrev pub TookValue : List ℕ → Valued → List ℕ → Valued → Type 0
TookValue before x rest x' = (h : machine.Held) (p : Position) → machine.level_long h ≡ false
    → TookFlat before p (quoted_at h x) rest (quoted_at h x')

-- before an attribute of a tag, and behind one
abbrev pub spaced_at : machine.Held → Head → machine.State
spaced_at h x = record { held = h; mode = machine.Spaced (head_view x) }

abbrev pub tight_at : machine.Held → Head → machine.State
tight_at h x = record { held = h; mode = machine.Tight (head_view x) }

-- an attribute was taken whole
abbrev pub TookWhole : List ℕ → Position → Head → List ℕ → Head → Type 0
TookWhole before p x rest x' = (h : machine.Held) → machine.level_long h ≡ false
    → TookFlat before p (spaced_at h x) rest (tight_at h x')

-- so much of a text was read, and the rest is left
pub record IsReached (text rest : List ℕ) (p : Position) (s : machine.State) : Type 0 where
  pub said : List ℕ
  pub split : chars text ≡ said ++ chars rest
  pub fewer : length said + length rest ≤ length text
  pub utf8 : IsUtf8 rest
  pub reached : Said said p s
